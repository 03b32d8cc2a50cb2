-- Scalars: the writers of the styles write the text that the layout has there, and with the text before it the scalar's piece.
use Rattle.yaml_emitter.proofs.Common.{ℕ, if◌then◌else◌, ◌==◌, option_map, Option, None, Result, negsuc, pos, ℤ, length, Bool, false, not, true, ◌&&◌}
use Rattle.yaml_emitter.proofs.Common.{List, refl, ◌≡◌, append_assoc, inl, inr, ap, subst, sym, ◌∙◌, arith, and_parts, ints, chars, Text, Cursor, Rendered}
use Rattle.yaml_emitter.proofs.Common.{render_then, ScalarStyle, plain, single_quoted, double_quoted, literal, folded, TagDirective, Scalar, Place}
use Rattle.yaml_emitter.proofs.Common.{scalar_tag, render_anchor, render_properties, render_separation, render_body, allowed_under, charset_of, choice_of, Page}
use Rattle.yaml_emitter.proofs.Common.{scalar_piece, deeper, render_place, Effective, Spelling, spelling, Charset, Allowances, is_empty, ChosenStyle}
use Rattle.yaml_emitter.proofs.Common.{quoted_style}
use Rattle.yaml_emitter.proofs.Common.{fitting_style, seen_effective, render_scalar_text, style_fits, render_spelled_tag, piece_at, wrote_as, Wrote}
use Rattle.yaml_base.proofs.Charsets.{literal_allowed}
use Rattle.yaml_base.proofs.Common.{allows_literal, not-true, false≢true, [], ◌∷◌}
use Rattle.yaml_scalar.proofs.Common.{limit_of, limit_where}
use Rattle.std.{proofs.Common.◌≤ℤ◌, proofs.lemmas.Bool.cases_Bool, specs.Str.IsUtf8}
use Rattle.yaml_base.specs.{declared.errors.yaml_error_t.yaml_error_t, scalars.SingleQuoted.render_single_quoted}
use Rattle.yaml_base.specs.scalars.{Folded.render_folded, Literal.render_literal, Plain.render_plain}
use Rattle.yaml_base.specs.{Layout.open_ended_after, Seen.seen_scalar_style, declared.styles.yaml_scalar_style_t.yaml_scalar_style_t}
use Rattle.yaml_base.specs.declared.styles.yaml_scalar_style_t.TheVariants.{YAML_PLAIN_SCALAR_STYLE}
use Rattle.yaml_base.specs.declared.styles.yaml_scalar_style_t.TheVariants.{YAML_SINGLE_QUOTED_SCALAR_STYLE}
use Rattle.yaml_base.specs.declared.styles.yaml_scalar_style_t.TheVariants.{YAML_LITERAL_SCALAR_STYLE, YAML_FOLDED_SCALAR_STYLE}
use Rattle.yaml_emitter.proofs.pieces.AtomsWritten.{lead-spelled}
use Rattle.yaml_emitter.specs.{Given.seen_width, declared.effective.EffectiveSettings.EffectiveSettings}
use Rattle.yaml_mark.proofs.HandleLemmas.{no_characters, characters_begin}
use Rattle.yaml_pen.specs.Page.{natural}

-- a width that isn't negative limits lines as in the settings
width_limit : (width : ℤ) → pos 0 ≤ℤ width → limit_of width ≡ seen_width width
width_limit (pos n) low = refl
width_limit (negsuc n) low = absurd (omega (arith, ints, low))

line_limit : (simple : Bool) (width : ℤ) → pos 0 ≤ℤ width → limit_where (not simple) width ≡ (if simple then None else seen_width width)
line_limit true width low = refl
line_limit false width low = width_limit width low

-- a block style isn't for a simple key
block_long : (value : Text) (simple : Bool) → style_fits folded value simple ≡ true → simple ≡ false
block_long value simple fits = not-true simple (and_parts (not (is_empty value)) (not simple) fits).1

-- all but block scalars leave the open-ended state
pub open_ended_kept : (style : yaml_scalar_style_t) → (style ≡ YAML_LITERAL_SCALAR_STYLE → ⊥) → (style ≡ YAML_FOLDED_SCALAR_STYLE → ⊥)
    → (value : Text) (open_ended : ℕ) → open_ended ≡ open_ended_after (seen_scalar_style style) value open_ended
open_ended_kept YAML_LITERAL_SCALAR_STYLE l f value open_ended = absurd (l refl)
open_ended_kept YAML_FOLDED_SCALAR_STYLE l f value open_ended = absurd (f refl)
open_ended_kept _ l f value open_ended = refl

module _ (settings : EffectiveSettings) (in_flow simple : Bool) (value : Text) {indent width : ℤ} {column : ℕ} (is : indent ≡ pos column)
    (width_is : width ≡ settings.width) (low : pos 0 ≤ℤ settings.width) where
  limit_is : limit_where (not simple) width ≡ (if simple then None else seen_width settings.width)
  limit_is = ap (limit_where (not simple)) width_is ∙ line_limit simple settings.width low

  abbrev text : ScalarStyle → Cursor → Rendered
  text style = render_scalar_text style (seen_effective settings) in_flow simple column value

  -- text in a style that is given by its name
  returned : {style : yaml_scalar_style_t} (name : yaml_scalar_style_t) {before after : Page} {answer : Result (Unit {0}) yaml_error_t}
      → style ≡ name → Wrote (text (seen_scalar_style name)) before after answer → Wrote (text (seen_scalar_style style)) before after answer
  returned name {before} {after} {answer} style_is wrote =
      subst (λ (s : yaml_scalar_style_t). Wrote (text (seen_scalar_style s)) before after answer) (sym style_is) wrote

  pub wrote_plain : {style : yaml_scalar_style_t} → style ≡ YAML_PLAIN_SCALAR_STYLE → {before after : Page} {answer : Result (Unit {0}) yaml_error_t}
      → Wrote (render_plain in_flow (limit_where (not simple) width) (natural indent) value) before after answer
      → Wrote (render_scalar_text (seen_scalar_style style) (seen_effective settings) in_flow simple column value) before after answer
  wrote_plain style_is {before} wrote =
      returned YAML_PLAIN_SCALAR_STYLE style_is
      (wrote_as (text plain)
      (ap (λ (l : Option ℕ). render_plain in_flow l (natural indent) value before.cursor) limit_is
      ∙ ap (λ (i : ℤ). render_plain in_flow (if simple then None else seen_width settings.width) (natural i) value before.cursor) is)
      wrote)

  pub wrote_single : {style : yaml_scalar_style_t} → style ≡ YAML_SINGLE_QUOTED_SCALAR_STYLE
      → {before after : Page} {answer : Result (Unit {0}) yaml_error_t}
      → Wrote (render_single_quoted (limit_where (not simple) width) (natural indent) value) before after answer
      → Wrote (render_scalar_text (seen_scalar_style style) (seen_effective settings) in_flow simple column value) before after answer
  wrote_single style_is {before} wrote =
      returned YAML_SINGLE_QUOTED_SCALAR_STYLE style_is
      (wrote_as (text single_quoted)
      (ap (λ (l : Option ℕ). render_single_quoted l (natural indent) value before.cursor) limit_is
      ∙ ap (λ (i : ℤ). render_single_quoted (if simple then None else seen_width settings.width) (natural i) value before.cursor) is)
      wrote)

  pub wrote_literal : {best : ℤ} {style : yaml_scalar_style_t} → best ≡ pos settings.indent → style ≡ YAML_LITERAL_SCALAR_STYLE
      → {before after : Page} {answer : Result (Unit {0}) yaml_error_t}
      → Wrote (render_literal (natural indent) (natural best) value) before after answer
      → Wrote (render_scalar_text (seen_scalar_style style) (seen_effective settings) in_flow simple column value) before after answer
  wrote_literal {best} best_is style_is {before} wrote =
      returned YAML_LITERAL_SCALAR_STYLE style_is
      (wrote_as (text literal)
      (ap (λ (i : ℤ). render_literal (natural i) (natural best) value before.cursor) is
      ∙ ap (λ (i : ℤ). render_literal column (natural i) value before.cursor) best_is)
      wrote)

  pub wrote_folded : {best : ℤ} {style : yaml_scalar_style_t} → best ≡ pos settings.indent → style ≡ YAML_FOLDED_SCALAR_STYLE
      → style_fits (seen_scalar_style style) value simple ≡ true
      → {before after : Page} {answer : Result (Unit {0}) yaml_error_t}
      → Wrote (render_folded (limit_of width) (natural indent) (natural best) value) before after answer
      → Wrote (render_scalar_text (seen_scalar_style style) (seen_effective settings) in_flow simple column value) before after answer
  wrote_folded {best} best_is style_is fits {before} wrote =
      let long : simple ≡ false =
      block_long value simple (subst (λ (s : yaml_scalar_style_t). style_fits (seen_scalar_style s) value simple ≡ true) style_is fits) in
      returned YAML_FOLDED_SCALAR_STYLE style_is
      (wrote_as (text folded)
      (ap (λ (l : Option ℕ). render_folded l (natural indent) (natural best) value before.cursor) (ap limit_of width_is ∙ width_limit settings.width low)
      ∙ ap (λ (i : ℤ). render_folded (seen_width settings.width) (natural i) (natural best) value before.cursor) is
      ∙ ap (λ (i : ℤ). render_folded (seen_width settings.width) column (natural i) value before.cursor) best_is
      ∙ ap (λ (b : Bool). render_folded (if b then None else seen_width settings.width) column settings.indent value before.cursor) (sym long))
      wrote)

quoted_fits : (allowed : Allowances) (value : Text) (simple : Bool) → style_fits (quoted_style allowed) value simple ≡ true
quoted_fits allowed value simple =
    elim allowed.single_quoted_allowed as (λ (b : Bool). style_fits (if b then single_quoted else double_quoted) value simple ≡ true)
    [ true ↦ refl | false ↦ refl ]

block_or_double : (style : ScalarStyle) (fits : Bool) (value : Text) (simple : Bool)
    → style_fits style value simple ≡ (not (is_empty value) && not simple)
    → (fits ≡ true → (not (is_empty value) && not simple) ≡ true)
    → style_fits (if fits then style else double_quoted) value simple ≡ true
block_or_double style true value simple is holds = is ∙ holds refl
block_or_double style false value simple is holds = refl

fitting_fits : (allowed : Allowances) (plain_fits block_fits : Bool) (asked : ScalarStyle) (value : Text) (simple : Bool)
    → (block_fits ≡ true → (not (is_empty value) && not simple) ≡ true)
    → style_fits (fitting_style allowed plain_fits block_fits asked) value simple ≡ true
fitting_fits allowed false block_fits plain value simple holds = quoted_fits allowed value simple
fitting_fits allowed plain_fits block_fits single_quoted value simple holds = quoted_fits allowed value simple
fitting_fits allowed plain_fits block_fits literal value simple holds = block_or_double literal block_fits value simple refl holds
fitting_fits allowed plain_fits block_fits folded value simple holds = block_or_double folded block_fits value simple refl holds
fitting_fits allowed _ block_fits _ value simple holds = refl

both : (a b c : Bool) (d : Bool) → (a && b && c) ≡ true → (a ≡ true → d ≡ true) → (d && c) ≡ true
both a b c d is holds =
    let outer = and_parts (a && b) c is in
    ap (λ x. x && c) (holds (and_parts a b outer.0).0) ∙ outer.1

-- a value that literal takes isn't empty
literal_some : (charset : Charset) (value : Text) → allows_literal charset value ≡ true → not (is_empty value) ≡ true
literal_some charset [] allowed = absurd (false≢true allowed)
literal_some charset (c ∷ rest) allowed = refl

-- the style that is chosen fits
pub chosen_fits : (s : Effective) (place : Place) (simple : Bool) (content : Scalar)
    → style_fits (choice_of s place simple content).style content.value simple ≡ true
chosen_fits s place simple content =
    let allowed = allowed_under s content in
    fitting_fits allowed _ _ _ content.value simple
    (λ fits. both allowed.block_allowed (not place.in_flow) (not simple) (not (is_empty content.value)) fits
    (λ block. literal_some (charset_of s) content.value (literal_allowed s content block)))

module _ (s : Effective) (directives : List TagDirective) (place : Place) (simple : Bool) (content : Scalar) where
  -- the text before a scalar's text, its tag as it is spelled, and the text
  abbrev pub render_scalar : ChosenStyle → Option Spelling → Cursor → Rendered
  render_scalar choice tag cursor =
      render_then
      (render_then (render_place s place simple cursor)
      (λ between. render_then (render_anchor content.anchor between) (render_spelled_tag s.portable tag choice.bare)))
      (render_scalar_text choice.style s place.in_flow simple (deeper s.indent place.column) content.value)

  whole_rendered : (open_ended : ℕ) (tag : Option Spelling) (cursor : Cursor) → tag ≡ option_map (spelling directives) (scalar_tag s.canonical content)
      → render_scalar (choice_of s place simple content) tag cursor ≡ piece_at (scalar_piece s directives place simple content) open_ended cursor
  whole_rendered open_ended tag cursor is =
      let choice = choice_of s place simple content in
      let text = render_scalar_text choice.style s place.in_flow simple (deeper s.indent place.column) content.value in
      let whole = piece_at (scalar_piece s directives place simple content) open_ended cursor in
      let lead = render_then (render_place s place simple cursor)
      (render_properties s.portable directives content.anchor (scalar_tag s.canonical content) choice.bare) in
      let separation = render_separation choice.style place.in_flow content.value lead.cursor in
      let body = render_body choice.style s (if simple then None else s.width) (deeper s.indent place.column) content.value separation.cursor in
      ap (λ (l : Rendered). render_then l text)
      (lead-spelled s directives place simple content.anchor (scalar_tag s.canonical content) tag choice.bare cursor is)
      ∙ ap (λ (text : Text). let l : Rendered = record { text = text; cursor = whole.cursor } in l) (sym (append_assoc lead.text separation.text body.text))

  pub wrote_scalar : (open_ended : ℕ) {choice : ChosenStyle} {tag : Option Spelling} {before after : Page} {answer : Result (Unit {0}) yaml_error_t}
      → choice ≡ choice_of s place simple content → tag ≡ option_map (spelling directives) (scalar_tag s.canonical content)
      → Wrote (render_scalar choice tag) before after answer
      → Wrote (piece_at (scalar_piece s directives place simple content) open_ended) before after answer
  wrote_scalar open_ended {choice} {tag} {before} is tag_is wrote =
      wrote_as (piece_at (scalar_piece s directives place simple content) open_ended)
      (ap (λ (c : ChosenStyle). render_scalar c tag before.cursor) is ∙ whole_rendered open_ended tag before.cursor tag_is)
      wrote

-- a text without bytes is one without characters
pub empty_value : (bytes : List ℕ) → IsUtf8 bytes → (length bytes == 0) ≡ is_empty (chars bytes)
empty_value bytes text =
    elim (cases_Bool (length bytes == 0)) as (λ _. (length bytes == 0) ≡ is_empty (chars bytes)) [
      | inl none ↦ none ∙ ap is_empty (sym (no_characters bytes none))
      | inr some ↦ let first = characters_begin bytes text some in some ∙ ap is_empty (sym first.2)
    ]
