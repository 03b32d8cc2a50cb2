-- A scalar that is plain as it is: plain is chosen for it, and only its place precedes it.
use Rattle.yaml_emitter.proofs.Common.{ℕ, ◌+◌, if◌then◌else◌, is_some, option_map, Option, None, Some, Result, Bool, false, not, true, ◌&&◌, ◌||◌, List, [], ap}
use Rattle.yaml_emitter.proofs.Common.{◌∷◌, refl, ◌≡◌, subst, sym, ◌∙◌, and_parts, false≢true, Text, Cursor, Rendered, render_then, ScalarStyle, any_style}
use Rattle.yaml_emitter.proofs.Common.{plain, double_quoted, literal, folded, TagDirective, scalar_tag, render_anchor, charset_of, choice_of}
use Rattle.yaml_emitter.proofs.Common.{allowed_by_quotes, allowed_by_blanks, allowed_under, scalar_piece, Place, deeper, byte_count, name_count, tag_count}
use Rattle.yaml_emitter.proofs.Common.{is_short, is_simple_scalar, render_place, seen_scalar_style, Effective, Spelling, spelling, Charset, Allowances}
use Rattle.yaml_emitter.proofs.Common.{ChosenStyle}
use Rattle.yaml_emitter.proofs.Common.{is_empty, allows_plain, lacks_tag_and_flags, is_plain, requested_style, quoted_style, fitting_style, fits_plain, chosen}
use Rattle.yaml_emitter.proofs.Common.{seen_name, seen_scalar, render_scalar_text, StandsPlain, render_spelled_tag, piece_at, Page, Wrote}
use Rattle.std.proofs.{Common.chars, lemmas.Bool.not-true}
use Rattle.yaml_base.proofs.Common.{Scalar, is_literal}
use Rattle.yaml_base.specs.{Places.is_root, scalars.BlockHeader.begins_blank, scalars.Style.is_block}
use Rattle.yaml_base.specs.declared.errors.yaml_error_t.{yaml_error_t}
use Rattle.yaml_emitter.proofs.pieces.WritingScalars.{wrote_scalar}
use Rattle.yaml_emitter.specs.{SimpleAsciiScalars.asks_plain, SimpleAsciiScalars.is_asked_plain, declared.writing.contents.ScalarContent.ScalarContent}
use Rattle.yaml_scalar.specs.SimpleAsciiTexts.{all_allowed, IsSimpleAscii}

-- by the tests of its parts
no_name : (name : Option Text) → not (is_some name) ≡ true → name ≡ None
no_name None h = refl
no_name (Some text) h = cc

plain_asked : (style : ScalarStyle) → asks_plain style ≡ true → requested_style false style ≡ plain
plain_asked plain h = refl
plain_asked any_style h = refl
plain_asked style h = cc

pub stands : {canonical : Bool} {content : ScalarContent} → is_asked_plain canonical content ≡ true → IsSimpleAscii content.value.now
    → StandsPlain canonical content
stands {canonical} {content} asked simple_ascii =
    let style = seen_scalar_style content.style in
    let p = and_parts (not canonical && content.plain_implicit && asks_plain style) (not (is_some (seen_name content.anchor))) asked in
    let q = and_parts (not canonical && content.plain_implicit) (asks_plain style) p.0 in
    let r = and_parts (not canonical) content.plain_implicit q.0 in
    record {
      readable = not-true canonical r.0;
      implicit = r.1;
      asked = plain_asked style q.1;
      anchor = no_name (seen_name content.anchor) p.1;
      simple_ascii = simple_ascii;
    }

-- its tag is left out
pub no_tag : {canonical : Bool} {content : ScalarContent} → StandsPlain canonical content → scalar_tag canonical (seen_scalar content) ≡ None
no_tag {canonical} {content} is =
    let seen = seen_scalar content in
    ap (λ (b : Bool). if b || (not seen.plain_implicit && not seen.quoted_implicit) then seen.tag else None) is.readable
    ∙ ap (λ (b : Bool). if not b && not seen.quoted_implicit then seen.tag else None) is.implicit

-- if every style may hold a value and plain is asked for, plain is chosen
asked_still : (simple : Bool) (asked : ScalarStyle) → requested_style false asked ≡ plain → requested_style (false || (simple && false)) asked ≡ plain
asked_still true asked h = h
asked_still false asked h = h

fits : (flow simple : Bool) → fits_plain all_allowed false false true flow simple ≡ true
fits true simple = refl
fits false simple = refl

not_bare : (quoted_implicit : Bool) → (not false && not quoted_implicit && not (is_plain plain)) ≡ false
not_bare true = refl
not_bare false = refl

-- whichever quotes replace the others
abbrev allowed_but : (double_quotes : Bool) → Allowances
allowed_but double_quotes = allowed_by_quotes double_quotes all_allowed

chosen_plain : (double_quotes : Bool) (asked : ScalarStyle) (quoted_implicit flow simple : Bool) → requested_style false asked ≡ plain
    → chosen (allowed_but double_quotes) asked false false true quoted_implicit flow simple false ≡ record { style = plain; bare = false }
chosen_plain double_quotes asked quoted_implicit flow simple h =
    let whole : ScalarStyle → ChosenStyle = λ style. record { style = style; bare = not false && not quoted_implicit && not (is_plain style) } in
    let style : ScalarStyle → ScalarStyle =
    fitting_style (allowed_but double_quotes) (fits_plain all_allowed false false true flow simple) (true && not flow && not simple) in
    ap (λ (s : ScalarStyle). whole (style s)) (asked_still simple asked h)
    ∙ ap (λ (b : Bool). whole (if b then plain else quoted_style (allowed_but double_quotes))) (fits flow simple)
    ∙ ap (λ (b : Bool). let c : ChosenStyle = record { style = plain; bare = b } in c) (not_bare quoted_implicit)

-- no block style is asked for, so its header is no matter
never_block : (style : ScalarStyle) (root portable blank : Bool) → requested_style false style ≡ plain
    → (if is_block style && root && portable && blank then double_quoted else style) ≡ style
never_block literal root portable blank h = absurd (false≢true (ap is_plain h))
never_block folded root portable blank h = absurd (false≢true (ap is_plain h))
never_block _ root portable blank h = refl

-- nor literal
never_literal : (s : Effective) (content : Scalar) → requested_style false content.style ≡ plain
    → (is_literal content.style && s.literal_blanks) ≡ false
never_literal s content h = ap (λ (x : Bool). x && s.literal_blanks) (unliteral content.style h)
  where
    unliteral : (style : ScalarStyle) → requested_style false style ≡ plain → is_literal style ≡ false
    unliteral literal h = absurd (false≢true (ap is_plain h))
    unliteral _ h = refl

filled : (text : Text) (charset : Charset) → allows_plain charset true text ≡ true → is_empty text ≡ false
filled [] charset h = cc
filled (c ∷ rest) charset h = refl

pub simple_ascii_choice : (s : Effective) (place : Place) (simple : Bool) {content : ScalarContent} → StandsPlain s.canonical content
    → choice_of s place simple (seen_scalar content) ≡ record { style = plain; bare = false }
simple_ascii_choice s place simple {content} is =
    let seen = seen_scalar content in
    let charset : Charset = charset_of s in
    let by : Allowances → (empty tag implicit canonical : Bool) → ChosenStyle =
    λ a empty tag implicit canonical. chosen a seen.style empty tag implicit seen.quoted_implicit place.in_flow simple canonical in
    let allowed = is.simple_ascii.allows charset in
    let others : Allowances = allowed_but s.double_quotes in
    let tag : Bool = is_some (scalar_tag s.canonical seen) in
    ap (λ (style : ScalarStyle). chosen (allowed_under s seen) style (is_empty seen.value) tag seen.plain_implicit seen.quoted_implicit place.in_flow simple
    s.canonical)
    (never_block seen.style (is_root place) s.portable (begins_blank seen.value) is.asked)
    ∙ ap (λ (x : Bool). by (allowed_by_quotes s.double_quotes (allowed_by_blanks x charset seen.value)) (is_empty seen.value) tag seen.plain_implicit
    s.canonical)
    (never_literal s seen is.asked)
    ∙ ap (λ (a : Allowances). by (allowed_by_quotes s.double_quotes a) (is_empty seen.value) tag seen.plain_implicit s.canonical) allowed
    ∙ ap (λ (e : Bool). by others e tag seen.plain_implicit s.canonical)
    (filled seen.value charset (ap (λ (a : Allowances). a.flow_plain_allowed) allowed))
    ∙ ap (λ (t : Option Text). by others false (is_some t) seen.plain_implicit s.canonical) (no_tag is)
    ∙ ap (λ (i : Bool). by others false false i s.canonical) is.implicit
    ∙ ap (λ (b : Bool). by others false false true b) is.readable
    ∙ chosen_plain s.double_quotes seen.style seen.quoted_implicit place.in_flow simple is.asked

-- the text of a value that is plain as it is, at its place, after an anchor if there is one
abbrev pub render_plain_at : Effective → Place → (simple : Bool) → (anchor : Option Text) → (value : List ℕ) → Cursor → Rendered
render_plain_at s place simple anchor value cursor =
    render_then
    (render_then (render_place s place simple cursor) (λ between. render_then (render_anchor anchor between) (render_spelled_tag s.portable None false)))
    (render_scalar_text plain s place.in_flow simple (deeper s.indent place.column) (chars value))

-- so its place and its text are the scalar's piece
pub wrote_simple_ascii : (s : Effective) (directives : List TagDirective) (place : Place) (simple : Bool) {content : ScalarContent} {value : List ℕ}
    (open_ended : ℕ)
    {before after : Page} {answer : Result (Unit {0}) yaml_error_t} → StandsPlain s.canonical content → content.value.now ≡ value
    → Wrote (render_plain_at s place simple None value) before after answer
    → Wrote (piece_at (scalar_piece s directives place simple (seen_scalar content)) open_ended) before after answer
wrote_simple_ascii s directives place simple {content} {value} open_ended {before} {after} {answer} is same wrote =
    let choice : ChosenStyle = record { style = plain; bare = false } in
    let none : Option Spelling = None in
    let own : Wrote (render_plain_at s place simple None content.value.now) before after answer =
    subst (λ (v : List ℕ). Wrote (render_plain_at s place simple None v) before after answer) (sym same) wrote in
    wrote_scalar s directives place simple (seen_scalar content) open_ended {choice = choice} {tag = none} (sym (simple_ascii_choice s place simple is))
    (sym (ap (option_map (spelling directives)) (no_tag is)))
    (subst (λ (a : Option Text). Wrote (render_plain_at s place simple a content.value.now) before after answer) (sym is.anchor) own)

-- it has a flag
flagged : (tag quoted : Bool) → lacks_tag_and_flags tag true quoted ≡ false
flagged true quoted = refl
flagged false quoted = refl

pub not_lacking : {canonical : Bool} {content : ScalarContent} (other : Bool) → StandsPlain canonical content
    → lacks_tag_and_flags (is_some (scalar_tag other (seen_scalar content))) content.plain_implicit content.quoted_implicit ≡ false
not_lacking {canonical} {content} other is =
    let tag = is_some (scalar_tag other (seen_scalar content)) in
    ap (λ (b : Bool). lacks_tag_and_flags tag b content.quoted_implicit) is.implicit ∙ flagged tag content.quoted_implicit

-- as a key it is simple if it is short
pub simple_ascii_key : {canonical : Bool} {content : ScalarContent} (key : Bool) (directives : List TagDirective) → key ≡ true → StandsPlain canonical content
    → is_short (byte_count (chars content.value.now) + 0 + 0) ≡ (key && (not canonical && is_simple_scalar canonical directives (seen_scalar content)))
simple_ascii_key {canonical} {content} key directives is_key is =
    let seen = seen_scalar content in
    let charset : Charset = record { unicode = true; breaks12 = true } in
    let count = byte_count seen.value in
    sym (ap (λ (b : Bool). b && (not canonical && is_simple_scalar canonical directives seen)) is_key
    ∙ ap (λ (b : Bool). not b && is_simple_scalar canonical directives seen) is.readable
    ∙ ap (λ (b : Bool). not b && is_short (count + name_count seen.anchor + tag_count directives (scalar_tag canonical seen)))
    (ap (λ (a : Allowances). a.multiline) (is.simple_ascii.allows charset))
    ∙ ap (λ (a : Option Text). is_short (count + name_count a + tag_count directives (scalar_tag canonical seen))) is.anchor
    ∙ ap (λ (t : Option Text). is_short (count + 0 + tag_count directives t)) (no_tag is))
