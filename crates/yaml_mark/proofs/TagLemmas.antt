-- The spelling of a tag, which is defined by characters, follows from its bytes.
use Rattle.yaml_mark.proofs.Common.{suc, ℕ, ◌+◌, ◌<◌, ◌==◌, slice_get, position, MatchOption, IsUtf8, bytes_eq, Option, None, Some, string_bytes, drop}
use Rattle.yaml_mark.proofs.Common.{length, slice_index_or as get_or, take, encode_utf8 as encode, encode_utf8_all as encodes, Bool, cond, false, not, true}
use Rattle.yaml_mark.proofs.Common.{List, [], map, ◌++◌, ◌∷◌, refl, ◌≡◌, length-append, take-append-drop, ap, subst, sym, ◌∙◌, arith}
use Rattle.yaml_mark.proofs.Common.{take-append_seam, cases_lt, and_parts, and_from, same_from_decides, bytes_eq-Decides, encodes-append, IsUtf8-past_char}
use Rattle.yaml_mark.proofs.Common.{encodes-chars, chars-append, IsUtf8-string_bytes, position_or_len, IsCharBoundary, chars, Text, seen_directive, fits}
use Rattle.yaml_base.proofs.Common.{is_some, option_map, nat_lt, eq-eqb, le-ltb, lt-ltb, ltb-true, append_assoc, length-map, chars-encodes, length-le-encodes}
use Rattle.yaml_base.proofs.Common.{scalars, TagDirective, tag_fault, Spelling, shorthand, verbatim, spelling, nat_tests}
use Rattle.std.{proofs.Math.Seq.drop-append_seam, proofs.lemmas.List.length-drop, proofs.lemmas.Option.slice_get_within, proofs.lemmas.Option.slice_get_read}
use Rattle.std.{proofs.lemmas.Option.slice_get-map, proofs.lemmas.Str.IsCharBoundary-at_seam, proofs.lemmas.Str.scalars-chars, specs.Bool.Decides}
use Rattle.std.{specs.List.starts_with}
use lib.Dec.{eqb}
use Rattle.yaml_base.{proofs.TagForms.behind-whole, proofs.TagForms.behind_begins, proofs.TagForms.scalars_behind, specs.Tags.behind, specs.Tags.spelling_by}
use Rattle.yaml_base.{specs.declared.directives.yaml_tag_directive_t.yaml_tag_directive_t, specs.declared.errors.yaml_error_t.TheVariants.TagEmpty}
use Rattle.yaml_mark.{proofs.HandleLemmas.no_characters, proofs.HandleLemmas.characters_begin, specs.Spelled.begins_and_is_shorter, specs.Spelled.IsCutAt}

-- By bytes and by characters.

pub goes_on : (prefix tag : List ℕ) (r : Bool) → length prefix < length tag → r ≡ starts_with eqb tag prefix → r ≡ begins_and_is_shorter prefix tag
goes_on prefix tag r h e = rw (lt-ltb (length prefix) (length tag) h) e

-- a text begins with another and goes on
abbrev ContinuesScript : List ℕ → List ℕ → Type 0
ContinuesScript prefix text = (rest : List ℕ) × (0 < length rest) × (text ≡ prefix ++ rest)

by_bytes : (prefix tag : List ℕ) → Decides (begins_and_is_shorter prefix tag) (ContinuesScript prefix tag)
by_bytes prefix tag = (
  (λ h.
      let both = and_parts (nat_lt (length prefix) (length tag)) (bytes_eq prefix (take (length prefix) tag)) h in
      let shorter : length prefix < length tag = ltb-true _ _ both.0 in
      let head : prefix ≡ take (length prefix) tag = (bytes_eq-Decides prefix (take (length prefix) tag)).0 both.1 in (
        drop (length prefix) tag,
        omega (arith, length-drop (length prefix) tag),
        sym (take-append-drop (length prefix) tag) ∙ ap (λ x. x ++ drop (length prefix) tag) (sym head),
      )),
  (λ h.
      let shorter : length prefix < length tag = omega (arith, ap length h.2, length-append prefix h.0) in
      let head : prefix ≡ take (length prefix) tag =
      sym (take-append_seam prefix h.0) ∙ ap (take (length prefix)) (sym h.2)
      in
      and_from _ _ (lt-ltb _ _ shorter) ((bytes_eq-Decides prefix (take (length prefix) tag)).1 head)),
)

-- the text after a text in a text is one
text_past : (head : Text) (rest : List ℕ) → IsUtf8 (encodes head ++ rest) → IsUtf8 rest
text_past [] rest u = u
text_past (c ∷ head) rest u =
    text_past head rest (IsUtf8-past_char ((encode c ++ encodes head) ++ rest) (encodes head ++ rest) c u (append_assoc (encode c) (encodes head) rest))

text_after_quote : (prefix rest : List ℕ) → IsUtf8 prefix → IsUtf8 (prefix ++ rest) → IsUtf8 rest
text_after_quote prefix rest u v =
    let P : List ℕ → Type 0 = λ x. IsUtf8 (x ++ rest) in
    text_past (chars prefix) rest (subst P (sym (encodes-chars prefix u)) v)

some_behind : (o : Option Text) → is_some o ≡ true → (rest : Text) × (o ≡ Some rest)
some_behind o h = grind (arith, nat_tests)

behind-append : (prefix : Text) (c : ℕ) (rest : Text) → behind prefix (prefix ++ (c ∷ rest)) ≡ Some (c ∷ rest)
behind-append [] c rest = refl
behind-append (p ∷ prefix) c rest = rw (eq-eqb p p refl) (behind-append prefix c rest)

behind_nonempty : (prefix rest : Text) → 0 < length rest → is_some (behind prefix (prefix ++ rest)) ≡ true
behind_nonempty prefix [] h = absurd (omega arith)
behind_nonempty prefix (c ∷ rest) h = rw (behind-append prefix c rest) refl

some_length : (prefix text rest : Text) → behind prefix text ≡ Some rest → 0 < length rest
some_length prefix text [] h = absurd (behind_begins prefix text h)
some_length prefix text (c ∷ rest) h = omega arith

-- bytes of a nonempty text, and its characters
characters_too : (bytes : List ℕ) → IsUtf8 bytes → 0 < length bytes → 0 < length (chars bytes)
characters_too bytes u h = not_empty (chars bytes) bytes (encodes-chars bytes u) h
  where
    not_empty : (text : Text) (bytes : List ℕ) → encodes text ≡ bytes → 0 < length bytes → 0 < length text
    not_empty [] bytes e h = absurd (omega (arith, ap length e))
    not_empty (c ∷ text) bytes e h = omega arith

whole_text : (prefix text : List ℕ) (rest : Text) → IsUtf8 prefix → IsUtf8 text → chars prefix ++ rest ≡ chars text → text ≡ prefix ++ encodes rest
whole_text prefix text rest u v e =
    sym (encodes-chars text v) ∙ ap encodes (sym e) ∙ encodes-append (chars prefix) rest ∙ ap (λ x. x ++ encodes rest) (encodes-chars prefix u)

by_characters : (prefix tag : List ℕ) → IsUtf8 prefix → IsUtf8 tag → Decides (is_some (behind (chars prefix) (chars tag))) (ContinuesScript prefix tag)
by_characters prefix tag u v = (
  (λ h.
      let found = some_behind (behind (chars prefix) (chars tag)) h in
      let long = some_length (chars prefix) (chars tag) found.0 found.1 in (
        encodes found.0,
        omega (arith, length-le-encodes found.0, long),
        whole_text prefix tag found.0 u v (behind-whole (chars prefix) (chars tag) found.0 found.1),
      )),
  (λ h.
      let P : List ℕ → Type 0 = λ x. IsUtf8 x in
      let Q : Text → Type 0 = λ x. is_some (behind (chars prefix) x) ≡ true in
      let text = text_after_quote prefix h.0 u (subst P h.2 v) in
      let split : chars tag ≡ chars prefix ++ chars h.0 = ap chars h.2 ∙ chars-append prefix h.0 u in
      subst Q (sym split) (behind_nonempty (chars prefix) (chars h.0) (characters_too h.0 text h.1))),
)

fits_by_bytes : (prefix tag : List ℕ) → IsUtf8 prefix → IsUtf8 tag → begins_and_is_shorter prefix tag ≡ is_some (behind (chars prefix) (chars tag))
fits_by_bytes prefix tag u v = same_from_decides _ _ (by_bytes prefix tag) (by_characters prefix tag u v)

-- The first directive that fits.

abbrev pub first_place : {X : Type 0} → (X → Bool) → List X → Option ℕ
first_place p [] = None
first_place p (x ∷ xs) = cond (p x) (Some 0) (option_map suc (first_place p xs))

at_first : (passes : Bool) (n l : ℕ)
    → cond (nat_lt (cond (not passes) (1 + n) 0) (suc l)) (Some (cond (not passes) (1 + n) 0)) None
    ≡ cond passes (Some 0) (option_map suc (cond (nat_lt n l) (Some n) None))
at_first passes n l = grind (arith, nat_tests, lt-ltb, le-ltb, cases_lt)

pub position-first : {X : Type 0} (p : X → Bool) (xs : List X) → position p xs ≡ first_place p xs
position-first p [] = refl
position-first p (x ∷ xs) = grind (arith, nat_tests, at_first, position_or_len, length, cond, option_map, position-first p xs, p x)

first-map : {X Y : Type 0} (p : Y → Bool) (q : X → Bool) (f : X → Y) → ((x : X) → q x ≡ p (f x)) → (xs : List X) → first_place q xs ≡ first_place p (map f xs)
first-map p q f h [] = refl
first-map p q f h (x ∷ xs) = grind (arith, nat_tests, cond, option_map, first_place, first-map p q f h xs, h x, p (f x), f x)

pub first_by_bytes : {A : Type 0} (tag : List ℕ) → IsUtf8 tag → (list : List (yaml_tag_directive_t A))
    → position (λ d. begins_and_is_shorter (string_bytes d.prefix) tag) list ≡ position (fits tag) (map seen_directive list)
first_by_bytes tag u list =
    position-first (λ d. begins_and_is_shorter (string_bytes d.prefix) tag) list
    ∙ first-map (fits tag) (λ d. begins_and_is_shorter (string_bytes d.prefix) tag) seen_directive
    (λ d. fits_by_bytes (string_bytes d.prefix) tag (IsUtf8-string_bytes d.prefix) u) list
    ∙ sym (position-first (fits tag) (map seen_directive list))

-- the spelling of a tag, given the number of the first directive that fits
abbrev SpelledAt : List TagDirective → Text → Option ℕ → Spelling → Type 0
SpelledAt directives tag number spelled_as =
    MatchOption number
    (spelled_as ≡ verbatim tag)
    (λ n. (directive : TagDirective) × (suffix : Text) × (slice_get directives n ≡ Some directive) × (behind directive.prefix tag ≡ Some suffix)
    × (spelled_as ≡ shorthand directive.handle suffix))

next_place : (directive : TagDirective) (directives : List TagDirective) (tag : Text) (number : Option ℕ) (s : Spelling) → SpelledAt directives tag number s
    → SpelledAt (directive ∷ directives) tag (option_map suc number) s
next_place directive directives tag number s h = grind (arith, nat_tests)

place_of : (directive : TagDirective) (directives : List TagDirective) (tag : Text) (suffix : Option Text) → behind directive.prefix tag ≡ suffix
    → SpelledAt directives tag (first_place (λ d. is_some (behind d.prefix tag)) directives) (spelling directives tag)
    → SpelledAt (directive ∷ directives) tag (cond (is_some suffix) (Some 0) (option_map suc (first_place (λ d. is_some (behind d.prefix tag)) directives)))
    (spelling_by directive.handle suffix (spelling directives tag))
place_of directive directives tag suffix e h = grind (arith, nat_tests, next_place)

spelled_at : (directives : List TagDirective) (tag : Text)
    → SpelledAt directives tag (first_place (λ d. is_some (behind d.prefix tag)) directives) (spelling directives tag)
spelled_at [] tag = refl
spelled_at (directive ∷ directives) tag = grind (arith, nat_tests, place_of, behind, spelled_at directives tag)

at_position : (directives : List TagDirective) (tag : List ℕ) (number : Option ℕ) → number ≡ position (fits tag) directives
    → SpelledAt directives (chars tag) number (spelling directives (chars tag))
at_position directives tag number e =
    let P : Option ℕ → Type 0 = λ o. SpelledAt directives (chars tag) o (spelling directives (chars tag)) in
    subst P (sym (e ∙ position-first (fits tag) directives)) (spelled_at directives (chars tag))

pub spelled_whole : (directives : List TagDirective) (tag : List ℕ) → None ≡ position (fits tag) directives
    → spelling directives (chars tag) ≡ verbatim (chars tag)
spelled_whole directives tag e = at_position directives tag None e

-- the tag is the prefix and the suffix
seam : (tag : List ℕ) (prefix suffix : Text) → IsUtf8 tag → behind prefix (chars tag) ≡ Some suffix → tag ≡ encodes prefix ++ encodes suffix
seam tag prefix suffix u e =
    sym (encodes-chars tag u) ∙ ap encodes (sym (behind-whole prefix (chars tag) suffix e)) ∙ encodes-append prefix suffix

pub spelled_short : (directives : List TagDirective) (tag : List ℕ) (number place : ℕ) → IsUtf8 tag → Some number ≡ position (fits tag) directives
    → ((d : TagDirective) → slice_get directives number ≡ Some d → place ≡ length (encodes d.prefix))
    → IsCutAt directives tag number place (spelling directives (chars tag))
spelled_short directives tag number place u e long =
    let found = at_position directives tag (Some number) e in
    let cut = seam tag found.0.prefix found.1 u found.3 in
    let IsText : Text → Type 0 = λ x. scalars x ≡ true in
    let good : scalars found.1 ≡ true =
    scalars_behind found.0.prefix found.1 (subst IsText (sym (behind-whole found.0.prefix (chars tag) found.1 found.3)) (scalars-chars tag u))
    in
    let IsCut : ℕ → Type 0 = λ n. IsCharBoundary tag n in
    let at : place ≡ length (encodes found.0.prefix) = long found.0 found.2 in
    let suffix : drop place tag ≡ encodes found.1 =
    ap (λ n. drop n tag) at ∙ ap (drop (length (encodes found.0.prefix))) cut ∙ drop-append_seam (encodes found.0.prefix) (encodes found.1)
    in
    record {
      directive = found.0;
      given = found.2;
      prefix = ap (λ n. take n tag) at ∙ ap (take (length (encodes found.0.prefix))) cut ∙ take-append_seam (encodes found.0.prefix) (encodes found.1);
      shorter = omega (
        arith,
        ap length cut,
        length-append (encodes found.0.prefix) (encodes found.1),
        length-le-encodes found.1,
        some_length found.0.prefix (chars tag) found.1 found.3,
      );
      boundary = subst IsCut (sym at) (IsCharBoundary-at_seam tag (encodes found.0.prefix) (encodes found.1) cut (found.1, (good, refl)));
      spelling = found.4 ∙ ap (shorthand found.0.handle) (sym (ap chars suffix ∙ chars-encodes found.1 good));
    }

-- The length of a prefix.
pub prefix_at : {A : Type 0} (list : List (yaml_tag_directive_t A)) (number : ℕ) (at : yaml_tag_directive_t A) (directive : TagDirective)
    → at ≡ get_or list number at → slice_get (map seen_directive list) number ≡ Some directive → string_bytes at.prefix ≡ encodes directive.prefix
prefix_at list number at directive e k =
    let h : number < length list = omega (arith, slice_get_within (map seen_directive list) number directive k, length-map list seen_directive) in
    let read : slice_get (map seen_directive list) number ≡ Some (seen_directive at) =
    slice_get-map seen_directive list number ∙ ap (option_map seen_directive) (slice_get_read list (length list) number at refl h e)
    in
    let same : seen_directive at ≡ directive = cc in
    sym (encodes-chars (string_bytes at.prefix) (IsUtf8-string_bytes at.prefix)) ∙ ap (λ d. encodes d.prefix) same

-- The refusal of an empty tag.
pub empty_tag : (bytes : List ℕ) → (length bytes == 0) ≡ true → Some TagEmpty ≡ tag_fault (chars bytes)
empty_tag bytes h = rw (no_characters bytes h) refl

pub good_tag : (bytes : List ℕ) → IsUtf8 bytes → (length bytes == 0) ≡ false → None ≡ tag_fault (chars bytes)
good_tag bytes u h = rw (characters_begin bytes u h).2 refl
