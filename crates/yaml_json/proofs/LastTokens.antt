-- The state of a text after some of its bytes is that after the lexemes that it has there.
use Rattle.yaml_json.proofs.Common.{◌≡◌, ◌⊎◌, inl, inr, ℕ, Bool, true, false, cond, ◌||◌, ◌==◌, Option, None, Some, List, [], ◌∷◌, ◌++◌, refl, sym, ap, ◌∙◌}
use Rattle.yaml_json.proofs.Common.{append_assoc, if◌then◌else◌, true≢false, or_parts, StandingInJson, standing_over, mode_after, mode_over, Class, Lexeme}
use Rattle.yaml_json.proofs.Common.{backslash, class, in_escape, in_string, in_word, lex_byte, operator, other, quote, space, string_token, token, content}
use Rattle.yaml_json.proofs.Common.{Token, bad, is_operator, is_space, word, CollectionKind, Mapping, Sequence, Last, Nothing, Opener, Comma, Colon, Value}
use Rattle.yaml_json.specs.Expected.{after_word_byte, open_by, standing_after}
use Rattle.yaml_json.specs.declared.expecting.Quoting.{Quoting}
use Rattle.yaml_json.specs.declared.expecting.Quoting.TheVariants.{Outside, Inside, Escaped}
use Rattle.yaml_json.proofs.{LexSteps.each_operator, LexSteps.each_space, LexSteps.value_is, Possible.kinds_over, Possible.last_over, PunctuateSteps.IsWord}
use Rattle.yaml_json.proofs.{PunctuateSteps.IsWord-word, WordBytes.QuoteFree, WordBytes.good_word, WordSteps.other_inner}
use Rattle.yaml_json.proofs.Following.{kinds_by, kinds_next, last_by, last_next}
use Rattle.json.specs.{Lex.Mode, Lex.between, Lex.lex, Text.plain, Token.number, Token.boolean, Token.null}

-- ---- the lexemes of some bytes of a text

-- those that begin at a byte, before the rest
abbrev heads : Mode → ℕ → List ℕ → List Lexeme
heads m x t = lex_byte m (class x) x t (λ next. [])

abbrev pub passed : Mode → (front rest : List ℕ) → List Lexeme
passed m [] rest = []
passed m (x ∷ xs) rest = heads m x (xs ++ rest) ++ passed (mode_after m (class x)) xs rest

split_byte : (m : Mode) (c : Class) (x : ℕ) (t : List ℕ) (k : Mode → List Lexeme) → lex_byte m c x t k ≡ lex_byte m c x t (λ next. []) ++ k (mode_after m c)
split_byte between quote x t k = refl
split_byte in_word quote x t k = refl
split_byte in_string quote x t k = refl
split_byte in_escape quote x t k = refl
split_byte _ _ x t k = refl

pub lex_passed : (m : Mode) (front rest : List ℕ) → lex m (front ++ rest) ≡ passed m front rest ++ lex (mode_over m front) rest
unfolding lex
lex_passed m [] rest = refl
lex_passed m (x ∷ xs) rest =
    split_byte m (class x) x (xs ++ rest) (λ next. lex next (xs ++ rest))
    ∙ ap (λ (ls : List Lexeme). heads m x (xs ++ rest) ++ ls) (lex_passed (mode_after m (class x)) xs rest)
    ∙ sym (append_assoc (heads m x (xs ++ rest)) (passed (mode_after m (class x)) xs rest) (lex (mode_over (mode_after m (class x)) xs) rest))

-- ---- the kinds of bytes

-- neither a quote, nor a backslash, nor an operator, nor a blank
record IsOther (x : ℕ) : Type 0 where
  no_quote : (x == 34) ≡ false
  no_backslash : (x == 92) ≡ false
  no_operator : is_operator x ≡ false
  no_space : is_space x ≡ false

is_other : (x : ℕ) → IsOther x → class x ≡ other
is_other x so = λ i. cond (so.no_quote i) quote (cond (so.no_backslash i) backslash (cond (so.no_operator i) operator (cond (so.no_space i) space other)))

each_byte : (P : ℕ → Type 0) → P 34 → P 92 → P 123 → P 125 → P 91 → P 93 → P 58 → P 44 → P 32 → P 9 → P 10 → P 13 → ((x : ℕ) → IsOther x → P x) → (x : ℕ) → P x
each_byte P q b o1 o2 o3 o4 o5 o6 s1 s2 s3 s4 others x = go (x == 34) (x == 92) (is_operator x) (is_space x) refl refl refl refl
  where
    go : (quoted escaped operates blank : Bool) → (x == 34) ≡ quoted → (x == 92) ≡ escaped → is_operator x ≡ operates → is_space x ≡ blank → P x
    go true escaped operates blank e f g h = value_is P x 34 q e
    go false true operates blank e f g h = value_is P x 92 b f
    go false false true blank e f g h = each_operator P o1 o2 o3 o4 o5 o6 x g
    go false false false true e f g h = each_space P s1 s2 s3 s4 x h
    go false false false false e f g h = others x (record { no_quote = e; no_backslash = f; no_operator = g; no_space = h })

-- it opens and closes nothing
record IsNoOperator (x : ℕ) : Type 0 where
  open_brace : (x == 123) ≡ false
  close_brace : (x == 125) ≡ false
  open_bracket : (x == 91) ≡ false
  close_bracket : (x == 93) ≡ false
  colon : (x == 58) ≡ false
  comma : (x == 44) ≡ false

no_operator : (x : ℕ) → is_operator x ≡ false → IsNoOperator x
no_operator x e =
    let five = or_parts _ _ e in
    let four = or_parts _ _ five.0 in
    let three = or_parts _ _ four.0 in
    let two = or_parts _ _ three.0 in
    let first = or_parts _ _ two.0 in
    record { open_brace = first.0; close_brace = first.1; open_bracket = two.1; close_bracket = three.1; colon = four.1; comma = five.1 }

-- ---- one byte

abbrev pub quoting_of : Mode → Quoting
quoting_of in_string = Inside
quoting_of in_escape = Escaped
quoting_of _ = Outside

abbrev pub standing_at : Quoting → Last → List CollectionKind → StandingInJson
standing_at q last kinds = record { quoting = q; last = last; kinds = kinds }

-- the state after a byte of this class
abbrev after_class : Mode → ℕ → List ℕ → Last → List CollectionKind → Class → StandingInJson
after_class m x t last kinds c =
    standing_at (quoting_of (mode_after m c)) (last_over last (lex_byte m c x t (λ next. []))) (kinds_over kinds (lex_byte m c x t (λ next. [])))

abbrev Steps : Mode → List ℕ → Last → List CollectionKind → ℕ → Type 0
Steps m t last kinds x = standing_after (standing_at (quoting_of m) last kinds) x ≡ after_class m x t last kinds (class x)

word_last : (last : Last) (w : Token) → IsWord w → last_by last w ≡ after_word_byte last
word_last last (number s) is = refl
word_last last (boolean b) is = refl
word_last last null is = refl
word_last last bad is = refl
word_last last _ is = absurd is

word_kinds : (kinds : List CollectionKind) (w : Token) → IsWord w → kinds_by kinds w ≡ kinds
word_kinds kinds (number s) is = refl
word_kinds kinds (boolean b) is = refl
word_kinds kinds null is = refl
word_kinds kinds bad is = refl
word_kinds kinds _ is = absurd is

text_begins : (last : Last) (kinds : List CollectionKind) (o : Option (List ℕ))
    → standing_at Inside (after_word_byte last) kinds ≡ standing_at Inside (last_by last (string_token o)) (kinds_by kinds (string_token o))
text_begins last kinds None = refl
text_begins last kinds (Some s) = refl

-- outside of strings
outside : (x : ℕ) (last : Last) (kinds : List CollectionKind) → IsOther x
    → standing_after (standing_at Outside last kinds) x ≡ standing_at Outside (after_word_byte last) kinds
outside x last kinds so =
    let no = no_operator x so.no_operator in λ i.
    standing_at (if so.no_quote i then Inside else Outside) (if so.no_space i then last else (if no.open_brace i || no.open_bracket i then Opener
    else (if no.close_brace i || no.close_bracket i then Value else (if no.comma i then Comma else (if no.colon i then Colon else after_word_byte last)))))
    (open_by (if no.open_bracket i then Some Sequence else (if no.open_brace i then Some Mapping else None)) (no.close_brace i || no.close_bracket i) kinds)

between_steps : (t : List ℕ) (last : Last) (kinds : List CollectionKind) (x : ℕ) → Steps between t last kinds x
between_steps t last kinds =
    each_byte (Steps between t last kinds) (text_begins last kinds (content plain t)) refl refl refl refl refl refl refl refl refl refl refl
    (λ x so. outside x last kinds so
    ∙ (λ i. standing_at Outside (sym (word_last last (word (x ∷ t)) (IsWord-word (x ∷ t))) i) (sym (word_kinds kinds (word (x ∷ t)) (IsWord-word (x ∷ t))) i))
    ∙ ap (after_class between x t last kinds) (sym (is_other x so)))

quoted_apart : {G : Type 0} → (34 == 34) ≡ false → G
quoted_apart e = absurd (true≢false e)

in_word_steps : (t : List ℕ) (last : Last) (kinds : List CollectionKind) → after_word_byte last ≡ last → (x : ℕ) → (x == 34) ≡ false
    → Steps in_word t last kinds x
in_word_steps t last kinds settled =
    each_byte (λ x. (x == 34) ≡ false → Steps in_word t last kinds x) quoted_apart (λ none. ap (λ (l : Last). standing_at Outside l kinds) settled)
    (λ none. refl) (λ none. refl) (λ none. refl) (λ none. refl) (λ none. refl) (λ none. refl) (λ none. refl) (λ none. refl) (λ none. refl) (λ none. refl)
    (λ x so none. outside x last kinds so ∙ ap (λ (l : Last). standing_at Outside l kinds) settled
    ∙ ap (after_class in_word x t last kinds) (sym (is_other x so)))

in_string_steps : (t : List ℕ) (last : Last) (kinds : List CollectionKind) (x : ℕ) → Steps in_string t last kinds x
in_string_steps t last kinds =
    each_byte (Steps in_string t last kinds) refl refl refl refl refl refl refl refl refl refl refl refl
    (λ x so. (λ i. standing_at (if so.no_backslash i then Escaped else (if so.no_quote i then Outside else Inside)) last kinds)
    ∙ ap (after_class in_string x t last kinds) (sym (is_other x so)))

escape_steps : (t : List ℕ) (last : Last) (kinds : List CollectionKind) (x : ℕ) (c : Class)
    → standing_at Inside last kinds ≡ after_class in_escape x t last kinds c
escape_steps t last kinds x quote = refl
escape_steps t last kinds x _ = refl

-- within a word the last token is that word, and no quote comes before its end
abbrev pub IsWithin : Mode → Last → List ℕ → Type 0
IsWithin in_word last t = (after_word_byte last ≡ last) × QuoteFree t
IsWithin _ last t = Unit {0}

byte_steps : (m : Mode) (x : ℕ) (t : List ℕ) (last : Last) (kinds : List CollectionKind) → IsWithin m last (x ∷ t) → Steps m t last kinds x
byte_steps between x t last kinds within = between_steps t last kinds x
byte_steps in_word x t last kinds within = in_word_steps t last kinds within.0 x within.1.0
byte_steps in_string x t last kinds within = in_string_steps t last kinds x
byte_steps in_escape x t last kinds within = escape_steps t last kinds x (class x)

-- ---- within the next word

abbrev pub AreGood : List Lexeme → Type 0
AreGood [] = Unit {0}
AreGood (l ∷ ls) = (l ≡ token bad → ⊥) × AreGood ls

good_first : (xs ys : List Lexeme) → AreGood (xs ++ ys) → AreGood xs
good_first [] ys good = tt
good_first (l ∷ xs) ys good = (good.0, good_first xs ys good.1)

good_second : (xs ys : List Lexeme) → AreGood (xs ++ ys) → AreGood ys
good_second [] ys good = good
good_second (l ∷ xs) ys good = good_second xs ys good.1

settled_last : (last : Last) → after_word_byte (after_word_byte last) ≡ after_word_byte last
settled_last Nothing = refl
settled_last _ = refl

settled_word : (last : Last) (w : Token) → IsWord w → after_word_byte (last_by last w) ≡ last_by last w
settled_word last w is = ap after_word_byte (word_last last w is) ∙ settled_last last ∙ sym (word_last last w is)

inner_by : (q b o s : Bool) → mode_after in_word (cond q quote (cond b backslash (cond o operator (cond s space other)))) ≡ in_word → q ≡ false
    → ((o || s) ≡ false) ⊎ (b ≡ true)
inner_by true b o s e f = absurd (true≢false f)
inner_by false true o s e f = inr refl
inner_by false false false false e f = inl refl
inner_by false false _ _ e f = cc

-- a backslash is no delimiter
backslash_inner : (x : ℕ) → (x == 92) ≡ true → (is_operator x || is_space x) ≡ false
backslash_inner x e = value_is (λ v. (is_operator v || is_space v) ≡ false) x 92 refl e

goes_on : (x : ℕ) (t : List ℕ) → ((is_operator x || is_space x) ≡ false) ⊎ ((x == 92) ≡ true) → QuoteFree (x ∷ t) → QuoteFree t
goes_on x t (inl inner) free = free.1 inner
goes_on x t (inr escape) free = free.1 (backslash_inner x escape)

word_within : (x : ℕ) (t : List ℕ) (last : Last) → QuoteFree (x ∷ t) → (c : Class) → class x ≡ c → after_word_byte last ≡ last
    → IsWithin (mode_after in_word c) (last_over last (lex_byte in_word c x t (λ next. []))) t
word_within x t last free operator e settled = tt
word_within x t last free space e settled = tt
word_within x t last free _ e settled =
    (settled, goes_on x t (inner_by (x == 34) (x == 92) (is_operator x) (is_space x) (ap (mode_after in_word) e) free.0) free)

word_good : (x : ℕ) (t : List ℕ) → (token (word (x ∷ t)) ≡ token bad → ⊥) → QuoteFree (x ∷ t)
word_good x t good = good_word (x ∷ t) (λ e. good (ap token e))

begins_within : (x : ℕ) (t : List ℕ) (last : Last) (c : Class) → class x ≡ c → AreGood (lex_byte between c x t (λ next. []))
    → IsWithin (mode_after between c) (last_over last (lex_byte between c x t (λ next. []))) t
begins_within x t last backslash e good = absurd (good.0 refl)
begins_within x t last other e good = (settled_word last (word (x ∷ t)) (IsWord-word (x ∷ t)), (word_good x t good.0).1 (other_inner x e))
begins_within x t last _ e good = tt

string_within : (x : ℕ) (t : List ℕ) (last : Last) (c : Class) → IsWithin (mode_after in_string c) (last_over last (lex_byte in_string c x t (λ next. []))) t
string_within x t last quote = tt
string_within x t last _ = tt

escape_within : (x : ℕ) (t : List ℕ) (last : Last) (c : Class) → IsWithin (mode_after in_escape c) (last_over last (lex_byte in_escape c x t (λ next. []))) t
escape_within x t last quote = tt
escape_within x t last _ = tt

next_within : (m : Mode) (x : ℕ) (t : List ℕ) (last : Last) → IsWithin m last (x ∷ t) → AreGood (heads m x t)
    → IsWithin (mode_after m (class x)) (last_over last (heads m x t)) t
next_within between x t last within good = begins_within x t last (class x) refl good
next_within in_word x t last within good = word_within x t last within.1 (class x) refl within.0
next_within in_string x t last within good = string_within x t last (class x)
next_within in_escape x t last within good = escape_within x t last (class x)

-- ---- some bytes

last_over-append : (last : Last) (xs ys : List Lexeme) → last_over last (xs ++ ys) ≡ last_over (last_over last xs) ys
last_over-append last [] ys = refl
last_over-append last (l ∷ xs) ys = last_over-append (last_next last l) xs ys

kinds_over-append : (kinds : List CollectionKind) (xs ys : List Lexeme) → kinds_over kinds (xs ++ ys) ≡ kinds_over (kinds_over kinds xs) ys
kinds_over-append kinds [] ys = refl
kinds_over-append kinds (l ∷ xs) ys = kinds_over-append (kinds_next kinds l) xs ys

pub stands_over : (m : Mode) (front rest : List ℕ) (last : Last) (kinds : List CollectionKind) → IsWithin m last (front ++ rest)
    → AreGood (passed m front rest)
    → standing_over (standing_at (quoting_of m) last kinds) front
    ≡ standing_at (quoting_of (mode_over m front)) (last_over last (passed m front rest)) (kinds_over kinds (passed m front rest))
stands_over m [] rest last kinds within good = refl
stands_over m (x ∷ xs) rest last kinds within good =
    let here = heads m x (xs ++ rest) in
    let next = mode_after m (class x) in
    let more = passed next xs rest in
    ap (λ (s : StandingInJson). standing_over s xs) (byte_steps m x (xs ++ rest) last kinds within)
    ∙ stands_over next xs rest (last_over last here) (kinds_over kinds here)
    (next_within m x (xs ++ rest) last within (good_first here more good)) (good_second here more good)
    ∙ (λ i. standing_at (quoting_of (mode_over next xs)) (sym (last_over-append last here more) i) (sym (kinds_over-append kinds here more) i))
