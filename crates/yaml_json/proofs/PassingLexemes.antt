-- One lexeme is passed.
use Rattle.yaml_json.proofs.Common.{◌≡◌, ℕ, ◌+◌, ◌-◌, ◌<◌, ◌≤◌, true, false, ◌||◌, List, [], ◌∷◌, ◌++◌, drop, get_or, length, refl, sym, subst, ap, ◌∙◌, arith}
use Rattle.yaml_json.proofs.Common.{inr, append_assoc, take, take-append-drop, Lexeme, colon, comma, in_string, in_word, string_token, token, content}
use Rattle.yaml_json.proofs.Common.{begin_array, begin_object, end_array, end_object, ends_word, head, is_operator, is_space, word, IsTrimmed, PassesLexeme}
use Rattle.yaml_json.proofs.Common.{EndsWord, Leads, LeadsFrom, true≢false, drop_all, drop_more}
use Rattle.yaml_json.proofs.{PunctuateSteps.begins_word, PunctuateSteps.lex-string, PunctuateSteps.lex-word, Reaching.last_is, WordSteps.other_inner}
use Rattle.yaml_json.proofs.LexSteps.{or_elim, each_operator, each_space, lex-delimiter, lex-in_word, lex-none}
use Rattle.yaml_json.proofs.ModeSteps.{goes_by_one_at, goes_nowhere, goes_on, leads_on, leads_past, quote_leads}
use Rattle.yaml_json.proofs.WordModes.{InWord, byte_stays, one_goes, then_goes, word_leads}
use Rattle.json.specs.{Lex.between, Lex.lex, Text.plain}

pub head_at : (d : List ℕ) (i : ℕ) → i < length d → head (drop i d) ≡ get_or d i 0
head_at d i h = ap head (drop_more d i 0 h)

pub drop_one : (d : List ℕ) (i : ℕ) → i < length d → drop 1 (drop i d) ≡ drop (i + 1) d
drop_one d i h = ap (drop 1) (drop_more d i 0 h)

byte_left : (x : ℕ) (xs : List ℕ) → x ∷ xs ≡ [] → ⊥
byte_left x xs e = cc

pub some_left : (d : List ℕ) (i : ℕ) → i < length d → drop i d ≡ [] → ⊥
some_left d i h e = byte_left (get_or d i 0) (drop (i + 1) d) (sym (drop_more d i 0 h) ∙ e)

-- ---- a word

-- its bytes were passed up to here
abbrev pub WithinWord : (d : List ℕ) (from at : ℕ) → Type 0
WithinWord d from at = (lex in_word (drop at d) ≡ lex in_word (drop from d)) × InWord (drop from d) (drop at d)

pub word_begins : (d : List ℕ) (from : ℕ) → WithinWord d from from
word_begins d from = (refl, goes_nowhere in_word (drop from d))

pub word_on : (d : List ℕ) (from at : ℕ) → at < length d → (is_operator (get_or d at 0) || is_space (get_or d at 0)) ≡ false → WithinWord d from at
    → WithinWord d from (at + 1)
word_on d from at less inner so = (
  sym (ap (lex in_word) (drop_more d at 0 less) ∙ lex-in_word (get_or d at 0) (drop (at + 1) d) inner) ∙ so.0,
  goes_on _ _ _ _ _ _ so.1 (goes_by_one_at _ _ d at less (byte_stays (get_or d at 0) inner)),
)

pub delimiter_small : (x : ℕ) → (is_operator x || is_space x) ≡ true → x < 128
delimiter_small x e =
    or_elim (is_operator x) (is_space x) (each_operator (λ v. v < 128) (omega arith) (omega arith) (omega arith) (omega arith) (omega arith) (omega arith) x)
    (each_space (λ v. v < 128) (omega arith) (omega arith) (omega arith) (omega arith) x) e

pub word_ends : (d rest : List ℕ) (from at : ℕ) → at < length d → (is_operator (get_or d at 0) || is_space (get_or d at 0)) ≡ true → rest ≡ drop at d
    → WithinWord d from at → (lex between rest ≡ lex in_word (drop from d)) × EndsWord (drop from d) rest
word_ends d rest from at less ends is so =
    let head_is = head_at d at less in
    let here : ends_word (drop at d) ≡ true = ap (λ x. is_operator x || is_space x) head_is ∙ ends in
    let same : lex between (drop at d) ≡ lex in_word (drop at d) =
    ap (lex between) (drop_more d at 0 less) ∙ sym (lex-delimiter (get_or d at 0) (drop (at + 1) d) ends) ∙ sym (ap (lex in_word) (drop_more d at 0 less)) in (
      ap (lex between) is ∙ same ∙ so.0,
      subst (EndsWord (drop from d)) (sym is) (so.1, here),
    )

pub word_cut : (d rest : List ℕ) (from at : ℕ) → length d ≤ at → rest ≡ [] → WithinWord d from at
    → (lex between rest ≡ lex in_word (drop from d)) × EndsWord (drop from d) rest
word_cut d rest from at all none so = (
  ap (lex between) none ∙ lex-none between ∙ sym (lex-none in_word) ∙ sym (ap (lex in_word) (drop_all at d all)) ∙ so.0,
  subst (EndsWord (drop from d)) (drop_all at d all ∙ sym none) (so.1, ap ends_word (drop_all at d all)),
)

-- ---- by its first byte

pub passes_string : (t after rest : List ℕ) → head t ≡ 34 → lex between after ≡ lex in_string (drop 1 t) → LeadsFrom in_string (drop 1 t) after
    → lex between rest ≡ lex between after → Leads after rest → IsTrimmed rest → PassesLexeme t rest
passes_string t after rest quote same leads blanks over trimmed = record {
  first = token (string_token (content plain (drop 1 t)));
  parts = lex-string t quote ∙ ap (λ ls. token (string_token (content plain (drop 1 t))) ∷ ls) (sym (blanks ∙ same));
  leads = leads_on t after rest (quote_leads t after quote leads) over;
  trimmed = trimmed;
}

abbrev FirstOf : List ℕ → List ℕ → Type 0
FirstOf t rest = (l : Lexeme) × (lex between t ≡ l ∷ lex between rest)

operator_first : (x : ℕ) (xs : List ℕ) → is_operator x ≡ true → FirstOf (x ∷ xs) xs
unfolding lex
operator_first x xs e =
    each_operator (λ v. FirstOf (v ∷ xs) xs) (token begin_object, refl) (token end_object, refl) (token begin_array, refl) (token end_array, refl)
    (colon, refl) (comma, refl) x e

pub passes_operator : (t after rest : List ℕ) → is_operator (head t) ≡ true → after ≡ drop 1 t → lex between rest ≡ lex between after → Leads after rest
    → IsTrimmed rest → PassesLexeme t rest
passes_operator [] after rest e is blanks over trimmed = absurd (true≢false (sym e))
passes_operator (x ∷ xs) after rest e is blanks over trimmed =
    let first = operator_first x xs e in
    record {
      first = first.0;
      parts = first.1 ∙ ap (λ ls. first.0 ∷ ls) (sym (blanks ∙ ap (lex between) is));
      leads = leads_on (x ∷ xs) xs rest (leads_past x xs (ap (λ b. b || is_space x) e)) (subst (λ (u : List ℕ). Leads u rest) is over);
      trimmed = trimmed;
    }

pub passes_word : (t after rest : List ℕ) → (head t ≡ 34 → ⊥) → (head t ≡ 92 → ⊥) → is_operator (head t) ≡ false → IsTrimmed t → (t ≡ [] → ⊥)
    → lex between after ≡ lex in_word (drop 1 t) → EndsWord (drop 1 t) after → lex between rest ≡ lex between after → Leads after rest → IsTrimmed rest
    → PassesLexeme t rest
passes_word t after rest q b o begins some same ends blanks over trimmed =
    let is = begins_word t begins some q b o in
    record {
      first = token (word t);
      parts = lex-word t is ∙ ap (λ ls. token (word t) ∷ ls) (sym (blanks ∙ same));
      leads = leads_on t after rest (word_leads t after is (then_goes t (drop 1 t) after (one_goes t (other_inner (head t) is)) ends.0) ends.1) over;
      trimmed = trimmed;
    }

-- ---- by its offset

pub past_at : (d rest : List ℕ) (from : ℕ) → PassesLexeme (drop from d) rest → PassesLexeme (drop from d) (drop (length d - length rest) d)
past_at d rest from passes =
    let leads = passes.leads between (inr tt) in
    let parts : (take from d ++ leads.1.passed) ++ rest ≡ d =
    append_assoc (take from d) leads.1.passed rest ∙ ap (λ (u : List ℕ). take from d ++ u) leads.1.parts ∙ take-append-drop from d in
    subst (PassesLexeme (drop from d)) (sym (last_is d (take from d ++ leads.1.passed) rest parts)) passes
