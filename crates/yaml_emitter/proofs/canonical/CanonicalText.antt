-- The tokens as which the canonical reader reads a text between tokens, if the text after it meets a demand.
use Rattle.yaml_emitter.proofs.Common.{suc, zero, ℕ, ◌-◌, if◌then◌else◌, ◌==◌, replicate, Bool, false, not, true, ◌&&◌, ◌||◌, List, [], ◌++◌, ◌∷◌, refl, ◌≡◌}
use Rattle.yaml_emitter.proofs.Common.{eqb-true, true≢false, append_assoc, ap, subst, sym, ◌∙◌, and_parts, list_all, all_scalars, rendered-append}
use Rattle.yaml_emitter.proofs.Common.{Text, line_feed, space, is_alpha, is_space, Cursor, new_line, space_if, indicator, is_rendered_text, Token, free}
use Rattle.yaml_emitter.proofs.Common.{tokens_from, begins_with}
use Rattle.yaml_base.proofs.Common.{breaks_line, is_break}
use Rattle.yaml_base.proofs.stream_lines.StreamLineLaws.{break_line}
use Rattle.yaml_base.specs.reading.CanonicalTokens.{CanonicalStep, ends_token, step_between_tokens}
pub use Rattle.yaml_pen.proofs.Adding.{all_scalars-append}

-- a demand on the text after another: any text, no letter of a name first, or a space first
pub data Demand : Type 0 where
  anything : Demand
  name_ends : Demand
  space_next : Demand

abbrev pub Meets : Demand → Text → Type 0
Meets anything rest = Unit {0}
Meets name_ends rest = begins_with is_alpha rest ≡ false
Meets space_next rest = begins_with is_space rest ≡ true

pub record Says (breaks12 : Bool) (demand : Demand) (text : Text) (tokens : List Token) : Type 0 where
  pub scalars : all_scalars text ≡ true
  pub rendered : is_rendered_text text ≡ true
  pub reads : (rest : Text) → Meets demand rest → tokens_from breaks12 free (text ++ rest) ≡ tokens ++ tokens_from breaks12 free rest

-- a text meets a demand, whatever follows it
pub record Opens (demand : Demand) (text : Text) : Type 0 where
  pub meets : (rest : Text) → Meets demand (text ++ rest)

pub opens_append : {demand : Demand} (a b : Text) → Opens demand a → Opens demand (a ++ b)
opens_append {demand} a b o = record { meets = λ rest. subst (Meets demand) (sym (append_assoc a b rest)) (o.meets (b ++ rest)) }

pub opens_any : (text : Text) → Opens anything text
opens_any text = record { meets = λ rest. tt }

-- One text after another.
pub says_then : {breaks12 : Bool} {d e : Demand} {a b : Text} {j k : List Token} → Says breaks12 d a j → Opens d b → Says breaks12 e b k
    → Says breaks12 e (a ++ b) (j ++ k)
says_then {breaks12} {d} {e} {a} {b} {j} {k} first opens second =
    record {
      scalars = all_scalars-append a b first.scalars second.scalars;
      rendered = rendered-append a b first.rendered second.rendered;
      reads = λ rest meets.
          ap (tokens_from breaks12 free) (append_assoc a b rest)
          ∙ first.reads (b ++ rest) (opens.meets rest)
          ∙ ap (λ t. j ++ t) (second.reads rest meets)
          ∙ sym (append_assoc j k (tokens_from breaks12 free rest));
    }

pub says_after : {breaks12 : Bool} {e : Demand} {a b : Text} {j k : List Token} → Says breaks12 anything a j → Says breaks12 e b k
    → Says breaks12 e (a ++ b) (j ++ k)
says_after {breaks12} {e} {a} {b} first second = says_then first (opens_any b) second

pub says_text : {breaks12 : Bool} {d : Demand} (a : Text) {b : Text} {k : List Token} → a ≡ b → Says breaks12 d b k → Says breaks12 d a k
says_text {breaks12} {d} a {b} {k} e says = subst (λ t. Says breaks12 d t k) (sym e) says

pub says_tokens : {breaks12 : Bool} {d : Demand} {a : Text} {j : List Token} (k : List Token) → j ≡ k → Says breaks12 d a j → Says breaks12 d a k
says_tokens {breaks12} {d} {a} k e says = subst (λ t. Says breaks12 d a t) e says

-- a text that any text may follow may be followed by a text that meets a demand
pub says_less : {breaks12 : Bool} {a : Text} {k : List Token} (d : Demand) → Says breaks12 anything a k → Says breaks12 d a k
says_less d says = record { scalars = says.scalars; rendered = says.rendered; reads = λ rest meets. says.reads rest tt }

pub says_nothing : (breaks12 : Bool) → Says breaks12 anything [] []
says_nothing breaks12 = record { scalars = refl; rendered = refl; reads = λ rest meets. refl }

-- Spaces and line feeds have no token.
abbrev pub is_white : Text → Bool
is_white text = list_all (λ c. c == space || c == line_feed) text

white-cases : (c : ℕ) (P : ℕ → Type 0) → (c == space || c == line_feed) ≡ true → P space → P line_feed → P c
white-cases c P h a b = by (c == space) refl (c == line_feed) refl
  where
    by : (x : Bool) → (c == space) ≡ x → (y : Bool) → (c == line_feed) ≡ y → P c
    by true e y f = subst P (sym (eqb-true c space e)) a
    by false e true f = subst P (sym (eqb-true c line_feed f)) b
    by false e false f = absurd (true≢false (sym h ∙ (rw (e, f) refl)))

pub says_white : (breaks12 : Bool) (text : Text) → is_white text ≡ true → Says breaks12 anything text []
says_white breaks12 [] h = says_nothing breaks12
says_white breaks12 (c ∷ text) h =
    let p : ((c == space || c == line_feed) ≡ true) × (is_white text ≡ true) = and_parts _ _ h in
    let more = says_white breaks12 text p.1 in
    white-cases c (λ x. Says breaks12 anything (x ∷ text) []) p.0
    (record { scalars = more.scalars; rendered = more.rendered; reads = more.reads })
    (record { scalars = more.scalars; rendered = more.rendered; reads = more.reads })

pub white-opens : (a b : Text) → is_white a ≡ true → Opens name_ends b → Opens name_ends (a ++ b)
white-opens [] b h o = o
white-opens (c ∷ a) b h o =
    let p : ((c == space || c == line_feed) ≡ true) × (is_white a ≡ true) = and_parts _ _ h in
    white-cases c (λ x. Opens name_ends (x ∷ (a ++ b))) p.0 (record { meets = λ rest. refl }) (record { meets = λ rest. refl })

spaces-white : (n : ℕ) → is_white (replicate n space) ≡ true
spaces-white zero = refl
spaces-white (suc n) = spaces-white n

pub space_if-white : (need : Bool) (cursor : Cursor) → is_white (space_if need cursor) ≡ true
space_if-white need cursor = by (need && not cursor.whitespace)
  where
    by : (b : Bool) → is_white (if b then space ∷ [] else []) ≡ true
    by true = refl
    by false = refl

pub new_line-white : (at : ℕ) (cursor : Cursor) → is_white (new_line at cursor).text ≡ true
new_line-white at cursor = by (breaks_line at cursor)
  where
    by : (b : Bool) → is_white (if b then line_feed ∷ replicate at space else replicate (at - cursor.column) space) ≡ true
    by true = spaces-white at
    by false = spaces-white (at - cursor.column)

pub line_says : (breaks12 : Bool) (at : ℕ) (cursor : Cursor) → Says breaks12 anything (new_line at cursor).text []
line_says breaks12 at cursor = says_white breaks12 (new_line at cursor).text (new_line-white at cursor)

-- An indicator after a space or none.
pub indicator_says : {breaks12 : Bool} {d : Demand} {symbol : Text} {k : List Token} (need whitespace indention : Bool) (cursor : Cursor)
    → Says breaks12 d symbol k
    → Says breaks12 d (indicator symbol need whitespace indention cursor).text k
indicator_says {breaks12} need whitespace indention cursor says = says_after (says_white breaks12 (space_if need cursor) (space_if-white need cursor)) says

pub indicator_opens : (symbol : Text) (need whitespace indention : Bool) (cursor : Cursor) → Opens name_ends symbol
    → Opens name_ends (indicator symbol need whitespace indention cursor).text
indicator_opens symbol need whitespace indention cursor o = white-opens (space_if need cursor) symbol (space_if-white need cursor) o

-- after a space the next character is one
pub space_first : (cursor : Cursor) (b : Text) → cursor.whitespace ≡ false → Opens space_next (space_if true cursor ++ b)
space_first cursor b e = by cursor.whitespace e
  where
    by : (w : Bool) → w ≡ false → Opens space_next ((if true && not w then space ∷ [] else []) ++ b)
    by true e = absurd (true≢false e)
    by false e = record { meets = λ rest. refl }

-- a character that is no break begins the same between tokens with either rule of breaks
pub step_fixed : (breaks12 : Bool) (c : ℕ) → is_break c ≡ false → step_between_tokens breaks12 c ≡ step_between_tokens true c
step_fixed true c h = refl
step_fixed false c h = rw (break_line false c h, break_line true c h) refl

-- an indicator that is a token
pub symbol_says : (breaks12 : Bool) (c : ℕ) (token : Token) → is_break c ≡ false → all_scalars (c ∷ []) ≡ true → is_rendered_text (c ∷ []) ≡ true
    → step_between_tokens true c ≡ ends_token token → Says breaks12 anything (c ∷ []) (token ∷ [])
symbol_says breaks12 c token other scalars rendered step = record {
  scalars = scalars;
  rendered = rendered;
  reads = λ rest meets. ap (λ (here : CanonicalStep). here.tokens ++ tokens_from breaks12 here.place rest) (step_fixed breaks12 c other ∙ step);
}
