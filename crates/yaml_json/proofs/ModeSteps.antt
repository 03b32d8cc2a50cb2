-- The lexer's mode, byte by byte.
use Rattle.yaml_json.proofs.Common.{◌≡◌, ℕ, zero, suc, ◌+◌, ◌-◌, ◌<◌, ◌≤◌, Bool, true, false, cond, ◌||◌, ◌==◌, List, [], ◌∷◌, ◌++◌, drop, get_or, length, refl}
use Rattle.yaml_json.proofs.Common.{sym, ap, ◌∙◌, subst, arith, append_assoc, inl, inr, head, is_operator, is_space, Class, backslash, class, in_escape}
use Rattle.yaml_json.proofs.Common.{in_string, in_word, operator, other, quote, space, ArePlain, is_stop, Leads, LeadsFrom, mode_after, mode_over, true≢false}
use Rattle.yaml_json.proofs.Common.{or_parts, cases_lt, drop_all, drop_more}
use Rattle.yaml_json.{proofs.LexSteps.or_elim, proofs.LexSteps.each_operator, proofs.LexSteps.each_space, specs.Lexing.EndsBefore, specs.Lexing.GoesOver}
use Rattle.json.specs.Lex.{Mode, between}

mode_over-append : (mode : Mode) (front back : List ℕ) → mode_over mode (front ++ back) ≡ mode_over (mode_over mode front) back
mode_over-append mode [] back = refl
mode_over-append mode (x ∷ xs) back = mode_over-append (mode_after mode (class x)) xs back

pub goes_on : (from middle to : Mode) (text left rest : List ℕ) → GoesOver from text left middle → GoesOver middle left rest to → GoesOver from text rest to
goes_on from middle to text left rest one two =
    record {
      passed = one.passed ++ two.passed;
      parts = append_assoc one.passed two.passed rest ∙ ap (λ t. one.passed ++ t) two.parts ∙ one.parts;
      mode = mode_over-append from one.passed two.passed ∙ ap (λ m. mode_over m two.passed) one.mode ∙ two.mode;
    }

pub goes_nowhere : (mode : Mode) (text : List ℕ) → GoesOver mode text text mode
goes_nowhere mode text = record { passed = []; parts = refl; mode = refl }

pub goes_by_one : (from : Mode) (x : ℕ) (xs : List ℕ) → GoesOver from (x ∷ xs) xs (mode_after from (class x))
goes_by_one from x xs = record { passed = x ∷ []; parts = refl; mode = refl }

-- ---- the modes from which a lexeme may begin

pub leads_nowhere : (text : List ℕ) → Leads text text
leads_nowhere text from may = (from, goes_nowhere from text, may)

pub leads_on : (text left rest : List ℕ) → Leads text left → Leads left rest → Leads text rest
leads_on text left rest one two from may =
    let first = one from may in
    let second = two first.0 first.2 in
    (second.0, goes_on from first.0 second.0 text left rest first.1 second.1, second.2)

-- a blank or an operator
parts_class : (x : ℕ) → (is_operator x || is_space x) ≡ true → (mode_after between (class x) ≡ between) × (mode_after in_word (class x) ≡ between)
parts_class x e = or_elim (is_operator x) (is_space x) (each_operator (λ y. (mode_after between (class y) ≡ between) × (mode_after in_word (class y) ≡ between))
    (refl, refl) (refl, refl) (refl, refl) (refl, refl) (refl, refl) (refl, refl) x) (each_space
    (λ y. (mode_after between (class y) ≡ between) × (mode_after in_word (class y) ≡ between)) (refl, refl) (refl, refl) (refl, refl) (refl, refl) x) e

past_delimiter : (from : Mode) (x : ℕ) (xs : List ℕ) → (is_operator x || is_space x) ≡ true → EndsBefore from (x ∷ xs) → mode_after from (class x) ≡ between
past_delimiter between x xs e may = (parts_class x e).0
past_delimiter in_word x xs e may = (parts_class x e).1
past_delimiter _ x xs e may = absurd may

pub leads_past : (x : ℕ) (xs : List ℕ) → (is_operator x || is_space x) ≡ true → Leads (x ∷ xs) xs
leads_past x xs e from (inl none) = cc
leads_past x xs e from (inr may) =
    (mode_after from (class x), goes_by_one from x xs, inr (subst (λ m. EndsBefore m xs) (sym (past_delimiter from x xs e may)) tt))

-- ---- at a place of a text

pub leads_past_at : (d : List ℕ) (i : ℕ) → i < length d → (is_operator (get_or d i 0) || is_space (get_or d i 0)) ≡ true → Leads (drop i d) (drop (i + 1) d)
leads_past_at d i h e = subst (λ (t : List ℕ). Leads t (drop (i + 1) d)) (sym (drop_more d i 0 h)) (leads_past (get_or d i 0) (drop (i + 1) d) e)

pub goes_by_one_at : (from to : Mode) (d : List ℕ) (i : ℕ) → i < length d → mode_after from (class (get_or d i 0)) ≡ to
    → GoesOver from (drop i d) (drop (i + 1) d) to
goes_by_one_at from to d i h is =
    subst (GoesOver from (drop i d) (drop (i + 1) d)) is (subst (λ (t : List ℕ). GoesOver from t (drop (i + 1) d) (mode_after from (class (get_or d i 0))))
    (sym (drop_more d i 0 h)) (goes_by_one from (get_or d i 0) (drop (i + 1) d)))

pub leads_past_blank : (d : List ℕ) (i : ℕ) → i < length d → is_space (get_or d i 0) ≡ true → Leads (drop i d) (drop (i + 1) d)
leads_past_blank d i h blank = leads_past_at d i h (each_space (λ y. (is_operator y || is_space y) ≡ true) refl refl refl refl (get_or d i 0) blank)

-- ---- in a string

string_stays : (o s : Bool) → mode_after in_string (cond o operator (cond s space other)) ≡ in_string
string_stays true s = refl
string_stays false true = refl
string_stays false false = refl

plain_stays : (x : ℕ) → (x == 34) ≡ false → (x == 92) ≡ false → mode_after in_string (class x) ≡ in_string
plain_stays x q b =
    (λ i. mode_after in_string (cond (q i) quote (cond (b i) backslash (cond (is_operator x) operator (cond (is_space x) space other)))))
    ∙ string_stays (is_operator x) (is_space x)

escaped_stays : (c : Class) → mode_after in_escape c ≡ in_string
escaped_stays quote = refl
escaped_stays _ = refl

-- the content of a string was passed up to here, or the text ends
abbrev pub WithinString : (d : List ℕ) (from at : ℕ) → Type 0
WithinString d from at = (to : Mode) × GoesOver in_string (drop from d) (drop at d) to × (at < length d → to ≡ in_string)

pub string_begins : (d : List ℕ) (from : ℕ) → WithinString d from from
string_begins d from = (in_string, goes_nowhere in_string (drop from d), λ less. refl)

still_within : (d : List ℕ) (from at : ℕ) → at < length d → WithinString d from at → GoesOver in_string (drop from d) (drop at d) in_string
still_within d from at less so = subst (GoesOver in_string (drop from d) (drop at d)) (so.2 less) so.1

pub plain_passed : (d : List ℕ) (from at : ℕ) → at < length d → (get_or d at 0 == 34) ≡ false → (get_or d at 0 == 92) ≡ false
    → WithinString d from at → WithinString d from (at + 1)
plain_passed d from at less q b so = (
  in_string,
  goes_on in_string in_string in_string (drop from d) (drop at d) (drop (at + 1) d) (still_within d from at less so)
      (goes_by_one_at in_string in_string d at less (plain_stays (get_or d at 0) q b)),
  λ more. refl,
)

pub escape_passed : (d : List ℕ) (from at : ℕ) → at < length d → get_or d at 0 ≡ 92 → WithinString d from at → WithinString d from (at + 2)
escape_passed d from at less is so =
    let one = goes_on in_string in_string in_escape (drop from d) (drop at d) (drop (at + 1) d) (still_within d from at less so)
    (goes_by_one_at in_string in_escape d at less (ap (λ x. mode_after in_string (class x)) is)) in
    let two : at + 1 + 1 ≡ at + 2 = omega arith in
    elim (cases_lt (at + 1) (length d)) [
      | inl more ↦ (
        in_string,
        subst (λ n. GoesOver in_string (drop from d) (drop n d) in_string) two (goes_on in_string in_escape in_string (drop from d) (drop (at + 1) d)
            (drop (at + 1 + 1) d) one (goes_by_one_at in_escape in_string d (at + 1) more (escaped_stays (class (get_or d (at + 1) 0))))),
        λ further. refl,
      )
      | inr last ↦ (
        in_escape,
        subst (λ (t : List ℕ). GoesOver in_string (drop from d) t in_escape)
            (drop_all (at + 1) d (omega (arith, last)) ∙ sym (drop_all (at + 2) d (omega (arith, last)))) one,
        λ further. absurd (omega (arith, last, further)),
      )
    ]

pub string_closed : (d : List ℕ) (from at : ℕ) → at < length d → get_or d at 0 ≡ 34 → WithinString d from at
    → LeadsFrom in_string (drop from d) (drop (at + 1) d)
string_closed d from at less is so = (
  between,
  goes_on in_string in_string between (drop from d) (drop at d) (drop (at + 1) d) (still_within d from at less so)
      (goes_by_one_at in_string between d at less (ap (λ x. mode_after in_string (class x)) is)),
  inr tt,
)

pub string_cut : (d rest : List ℕ) (from at : ℕ) → length d ≤ at → rest ≡ [] → WithinString d from at → LeadsFrom in_string (drop from d) rest
string_cut d rest from at all none so = (so.0, subst (λ (t : List ℕ). GoesOver in_string (drop from d) t so.0) (drop_all at d all ∙ sym none) so.1, inl none)

plain_run : (d : List ℕ) (from n : ℕ) → from + n ≤ length d → ((k : ℕ) → from ≤ k → k < from + n → is_stop (get_or d k 0) ≡ false)
    → WithinString d from (from + n)
plain_run d from zero h each = let none : from ≡ from + 0 = omega arith in subst (WithinString d from) none (string_begins d from)
plain_run d from (suc n) h each =
    let next : from + n + 1 ≡ from + suc n = omega arith in
    let here = or_parts _ _ (or_parts _ _ (each (from + n) (omega arith) (omega arith))).0 in
    subst (WithinString d from) next
    (plain_passed d from (from + n) (omega arith) here.0 here.1 (plain_run d from n (omega arith) (λ k low high. each k low (omega arith))))

-- ---- at the front of a text

pub operator_leads : (d : List ℕ) (v : ℕ) → head d ≡ v → (is_operator v || is_space v) ≡ true → (32 ≡ v → ⊥) → Leads d (drop 1 d)
operator_leads [] v e is apart = absurd (apart e)
operator_leads (x ∷ xs) v e is apart = leads_past x xs (subst (λ y. (is_operator y || is_space y) ≡ true) (sym e) is)

no_quote : (v : ℕ) → v ≡ 32 → v ≡ 34 → ⊥
no_quote v blank quoted = absurd (omega (arith, blank, quoted))

quote_from : (from : Mode) (x : ℕ) (xs rest : List ℕ) → x ≡ 34 → EndsBefore from (x ∷ xs) → LeadsFrom in_string xs rest → LeadsFrom from (x ∷ xs) rest
quote_from between x xs rest e may leads = (
  leads.0,
  goes_on between in_string leads.0 (x ∷ xs) xs rest
      (subst (GoesOver between (x ∷ xs) xs) (ap (λ y. mode_after between (class y)) e) (goes_by_one between x xs)) leads.1,
  leads.2,
)
quote_from in_word x xs rest e may leads = absurd (true≢false (sym may ∙ ap (λ y. is_operator y || is_space y) e))
quote_from _ x xs rest e may leads = absurd may

pub quote_leads : (d rest : List ℕ) → head d ≡ 34 → LeadsFrom in_string (drop 1 d) rest → Leads d rest
quote_leads [] rest e leads from may = absurd (no_quote (head []) refl e)
quote_leads (x ∷ xs) rest e leads from (inl none) = cc
quote_leads (x ∷ xs) rest e leads from (inr may) = quote_from from x xs rest e may leads

pub string_leads : (d : List ℕ) (end : ℕ) → head d ≡ 34 → ArePlain d 1 end → end < length d → get_or d end 0 ≡ 34 → Leads d (drop (end + 1) d)
string_leads d end first are within closes =
    let back : 1 + (end - 1) ≡ end = omega (arith, are.ordered) in
    let run : WithinString d 1 end = subst (WithinString d 1) back
    (plain_run d 1 (end - 1) (omega arith) (λ k low high. are.plain k low (omega arith))) in
    quote_leads d (drop (end + 1) d) first (string_closed d 1 end within closes run)

pub drop_leads : (d left rest : List ℕ) (n : ℕ) → left ≡ drop n d → Leads left rest → Leads (drop n d) rest
drop_leads d left rest n is leads = subst (λ (t : List ℕ). Leads t rest) is leads
