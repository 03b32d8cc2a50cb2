-- Characters between double quotes whose texts are written at once: they are of ASCII, and none becomes a fold.
use Rattle.yaml_scalar.proofs.Common.{ℕ, if◌then◌else◌, chars, Option, Some, Result, Err, Ok, nat_lt, Bool, false, not, true, ◌&&◌, ◌||◌, List, [], ◌++◌, ◌∷◌}
use Rattle.yaml_scalar.proofs.Common.{refl, ◌≡◌, append-nil, append_assoc, ap, subst, sym, ◌∙◌, arith, and_parts, and_from, not-true, nat_tests, list_all, Text}
use Rattle.yaml_scalar.proofs.Common.{list_all-append, is_ascii, is_space, Cursor, Rendered, render_then, column_after, render_text, is_past_width, escape_text}
use Rattle.yaml_scalar.proofs.Common.{needs_escape, character_text, may_fold, double_fold, double_inside, Page, Wrote, AreBatched, is_unbroken_ascii, last_from}
use Rattle.std.{proofs.Common.IsErrAnd, proofs.Common.IsErr, proofs.lemmas.Result.err_from_is_err_and, specs.Borrow.Bor}
use Rattle.yaml_base.specs.declared.errors.yaml_error_t.{yaml_error_t}
use Rattle.yaml_pen.proofs.Writing.{column_after-append}
use Rattle.yaml_base.proofs.TagForms.{last-append}
use Rattle.yaml_scalar.proofs.{EscapeBytes.escape-plain, Unbroken.unescaped}
use Rattle.yaml_pen.proofs.StillToWrite.{StillToWrite, still_rest, still_failed, still_same, still_as}
use Rattle.yaml_scalar.specs.Batch.{is_batched, characters_text, WroteBatch}

-- the texts of one character more
characters-more : (unicode : Bool) (prefix : Text) (c : ℕ)
    → characters_text unicode (prefix ++ c ∷ []) ≡ characters_text unicode prefix ++ character_text unicode c
characters-more unicode [] c = append-nil (character_text unicode c)
characters-more unicode (d ∷ prefix) c = grind (arith, append_assoc, characters-more unicode prefix c)

-- none is batched at first
pub batched_none : (unicode : Bool) (before : ℕ) (text : Text) (bytes : List ℕ) → bytes ≡ [] → AreBatched unicode before text bytes before text
batched_none unicode before text bytes e = record { prefix = []; parts = refl; bytes_are = e; all = refl; last_is = refl }

-- and then one more
pub batched_more : {unicode : Bool} {before last : ℕ} {text rest : Text} {bytes : List ℕ} (c : ℕ) (after : Text)
    → AreBatched unicode before text bytes last rest → rest ≡ c ∷ after → is_batched unicode c ≡ true
    → AreBatched unicode before text (bytes ++ character_text unicode c) c after
batched_more {unicode} {before} c after are next passes =
    record {
      prefix = are.prefix ++ c ∷ [];
      parts = are.parts ∙ ap (λ t. are.prefix ++ t) next ∙ sym (append_assoc are.prefix (c ∷ []) after);
      bytes_are = ap (λ b. b ++ character_text unicode c) are.bytes_are ∙ sym (characters-more unicode are.prefix c);
      all = list_all-append (is_batched unicode) are.prefix (c ∷ []) ∙ and_from _ _ are.all (and_from _ true passes refl);
      last_is = sym (last-append before are.prefix c);
    }

left_of : (a b : Bool) → b ≡ false → (a || b) ≡ true → a ≡ true
left_of a b e h = grind (arith, nat_tests)

-- one that isn't escaped is of ASCII
pub batched_ascii : (unicode : Bool) (c : ℕ) → needs_escape unicode c ≡ false → is_batched unicode c ≡ true → is_ascii c ≡ true
batched_ascii unicode c is h = grind (arith, nat_tests, left_of, is_ascii, needs_escape, and_parts, not, is_space)

low : (c : ℕ) → is_ascii c ≡ true → nat_lt c 128 ≡ true
low c h = grind (arith, nat_tests)

character-plain : (unicode : Bool) (c : ℕ) → is_batched unicode c ≡ true → list_all is_unbroken_ascii (character_text unicode c) ≡ true
character-plain unicode c h = go (needs_escape unicode c) refl
  where
    go : (b : Bool) → needs_escape unicode c ≡ b → list_all is_unbroken_ascii (if b then escape_text c else c ∷ []) ≡ true
    go true is = escape-plain c
    go false is =
        and_from _ true (and_from _ _ (low c (batched_ascii unicode c is h)) (ap not (unescaped unicode c is).no_break)) refl

-- their texts are of ASCII
characters-plain : (unicode : Bool) (prefix : Text) → list_all (is_batched unicode) prefix ≡ true
    → list_all is_unbroken_ascii (characters_text unicode prefix) ≡ true
characters-plain unicode [] h = refl
characters-plain unicode (c ∷ prefix) h =
    let p = and_parts (is_batched unicode c) (list_all (is_batched unicode) prefix) h in
    list_all-append is_unbroken_ascii (character_text unicode c) (characters_text unicode prefix)
    ∙ and_from _ _ (character-plain unicode c p.0) (characters-plain unicode prefix p.1)

pub batched_plain : {unicode : Bool} {before last : ℕ} {text rest : Text} {bytes : List ℕ}
    → AreBatched unicode before text bytes last rest → list_all is_unbroken_ascii bytes ≡ true
batched_plain {unicode} are = ap (list_all is_unbroken_ascii) are.bytes_are ∙ characters-plain unicode are.prefix are.all

-- two texts before the rest
then-joined : (xs ys : Text) (cursor : Cursor) (next : Cursor → Rendered)
    → render_then (render_text xs cursor) (λ d. render_then (render_text ys d) next) ≡ render_then (render_text (xs ++ ys) cursor) next
then-joined xs ys cursor next = grind (arith, column_after-append, append_assoc)

-- none becomes a fold
batched_at : (unicode : Bool) (limit : Option ℕ) (indent before : ℕ) (prefix rest : Text) (cursor : Cursor) → list_all (is_batched unicode) prefix ≡ true
    → double_inside unicode limit indent (Some before) (prefix ++ rest) cursor
    ≡ render_then (render_text (characters_text unicode prefix) cursor) (double_inside unicode limit indent (Some (last_from before prefix)) rest)
batched_at unicode limit indent before [] rest cursor h = refl
batched_at unicode limit indent before (c ∷ prefix) rest cursor h =
    let p = and_parts (is_batched unicode c) (list_all (is_batched unicode) prefix) h in
    let no_space : is_space c ≡ false = not-true _ (and_parts (not (is_space c)) (is_ascii c || needs_escape unicode c) p.0).0 in
    let text : Text = character_text unicode c in
    let next : Cursor = record cursor { column = column_after text cursor.column } in
    ap (λ (b : Bool).
    render_then
    (if b && may_fold (Some before) (prefix ++ rest) && is_past_width limit cursor then double_fold indent (prefix ++ rest) cursor else render_text text cursor)
    (double_inside unicode limit indent (Some c) (prefix ++ rest)))
    no_space
    ∙ ap (λ (l : Rendered). let m : Rendered = record { text = text ++ l.text; cursor = l.cursor } in m)
    (batched_at unicode limit indent c prefix rest next p.1)
    ∙ then-joined text (characters_text unicode prefix) cursor (double_inside unicode limit indent (Some (last_from c prefix)) rest)

-- so their texts and the rest are still to be written
pub batched_still : (unicode : Bool) (limit : Option ℕ) (indent : ℕ) {whole : Cursor → Rendered} {before last : ℕ} {text rest : Text} {bytes : List ℕ}
    {start here : Page}
    → AreBatched unicode before text bytes last rest
    → StillToWrite (double_inside unicode limit indent (Some before) text) whole start here
    → StillToWrite (λ cursor. render_then (render_text bytes cursor) (double_inside unicode limit indent (Some last) rest)) whole start here
batched_still unicode limit indent {whole} {before} {last} {text} {rest} {bytes} {start} {here} are still =
    still_as (λ cursor. render_then (render_text bytes cursor) (double_inside unicode limit indent (Some last) rest))
    (ap (λ t. double_inside unicode limit indent (Some before) t here.cursor) are.parts
    ∙ batched_at unicode limit indent before are.prefix rest here.cursor are.all
    ∙ ap (λ b. render_then (render_text b here.cursor) (double_inside unicode limit indent (Some (last_from before are.prefix)) rest)) (sym are.bytes_are)
    ∙ ap (λ l. render_then (render_text bytes here.cursor) (double_inside unicode limit indent (Some l) rest)) (sym are.last_is))
    still

-- the batch is written, or the error returned
pub wrote_batch : {unicode : Bool} {before last : ℕ} {text : Text} {bytes rest : List ℕ} {old new : Page} {next : ℕ × Bor (List ℕ)}
    → AreBatched unicode before text bytes last (chars rest) → last ≡ next.0 → rest ≡ next.1.now → Wrote (render_text bytes) old new (Ok tt)
    → WroteBatch unicode before text old new (Ok next)
wrote_batch {unicode} {before} {last} {text} {bytes} {rest} are last_is rest_is wrote = grind (arith, nat_tests, chars)

pub failed_batched : {unicode : Bool} {before last : ℕ} {text rest : Text} {bytes : List ℕ} {old new : Page} {error : yaml_error_t}
    (answer : Result (ℕ × Bor (List ℕ)) yaml_error_t) → IsErr answer × IsErrAnd answer (λ returned. returned ≡ error)
    → AreBatched unicode before text bytes last rest → Wrote (render_text bytes) old new (Err error)
    → WroteBatch unicode before text old new answer
failed_batched {unicode} {before} {last} {text} {rest} {bytes} {old} {new} {error} answer is are wrote = grind (arith, nat_tests, err_from_is_err_and)

-- and the rest is still to be written
pub batched_left : (unicode : Bool) (limit : Option ℕ) (indent : ℕ) {whole : Cursor → Rendered} {before : ℕ} {text : Text} {next : ℕ × Bor (List ℕ)}
    {start here later : Page}
    → WroteBatch unicode before text here later (Ok next) → StillToWrite (double_inside unicode limit indent (Some before) text) whole start here
    → StillToWrite (double_inside unicode limit indent (Some next.0) (chars next.1.now)) whole start later
batched_left unicode limit indent {whole} {before} {text} {next} {start} {here} {later} written still =
    subst (λ (l : ℕ). StillToWrite (double_inside unicode limit indent (Some l) (chars next.1.now)) whole start later) (sym written.next.0)
    (still_same (double_inside unicode limit indent (Some written.last)) (sym written.next.1)
    (still_rest (batched_still unicode limit indent written.are still) written.wrote))

pub batched_failed : (unicode : Bool) (limit : Option ℕ) (indent : ℕ) {whole : Cursor → Rendered} {before : ℕ} {text : Text} {start here later : Page}
    {error : yaml_error_t}
    → WroteBatch unicode before text here later (Err error) → StillToWrite (double_inside unicode limit indent (Some before) text) whole start here
    → Wrote whole start later (Err error)
batched_failed unicode limit indent written still =
    still_failed (double_inside unicode limit indent (Some written.last) written.rest) (batched_still unicode limit indent written.are still) written.wrote
