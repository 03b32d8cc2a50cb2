-- Each scalar in a block fits if its names and its body are readable.
use Rattle.yaml_base.proofs.Common.{ℕ, ◌≤◌, if◌then◌else◌, is_some, Option, None, Some, Bool, false, not, true, ◌&&◌, ◌||◌, List, [], refl, ◌≡◌, true≢false}
use Rattle.yaml_base.proofs.Common.{and_parts, Text, Cursor, ScalarStyle, plain, TagDirective, scalar_tag, scalar_node, render_body, allowed_under}
use Rattle.yaml_base.proofs.Common.{style_asked_at, choice_of, Place, deeper, is_simple_at, read_in_style, Effective, is_tidy, Allowances, is_empty}
use Rattle.yaml_base.proofs.{Charsets.literal_still, Charsets.literal_allowed, stream_flow.StreamFlowScalars.rules_of}
use Rattle.yaml_base.proofs.{stream_flow.StreamFlowScalars.bare_not_plain, stream_flow.StreamFlowWords.scalar_in, stream_lines.StreamBlockEnds.block_fitting}
use Rattle.yaml_base.proofs.{stream_nodes.StreamEmptyFits.empty_fits, stream_nodes.StreamFits.FitsOr, stream_nodes.StreamLeaves.block_place}
use Rattle.yaml_base.proofs.{stream_nodes.StreamLeaves.ScalarsFit, stream_nodes.StreamProperties.IsNamed, stream_nodes.StreamStands.TagStands}
use Rattle.yaml_base.specs.{scalars.BlockHeader.header_open_ended, Comments.bars_blank}
use Rattle.yaml_base.proofs.Common.{literal, folded, open_ended_after, ap}
use Rattle.yaml_base.proofs.stream_flow.StreamFlowScalars.{body_ended}
use Rattle.yaml_base.proofs.Common.{◌==◌, allows_literal, is_plain, is_block, requested_style, fits_plain}
use Rattle.yaml_base.proofs.stream_nodes.StreamScalarsFit.{body_fits, render_styled, body_cursor, styled_fits}

-- one reason less
fewer_barred : (x a b : Bool) → (x && (a || b)) ≡ false → (x && a) ≡ false
fewer_barred false a b h = refl
fewer_barred true false b h = refl
fewer_barred true true b h = h

-- a scalar in a style fits if its body is tidy and reads as its value
scalar_fits : (s : Effective) (own directives : List TagDirective) (anchor tag : Option Text) (bare : Bool) (style : ScalarStyle) (limit : Option ℕ)
    (indent : ℕ) (value : Text)
    (place : Place) (cursor : Cursor) → 2 ≤ s.indent → s.indent ≤ 9 → IsNamed anchor → TagStands s.portable own directives tag
    → (bare ≡ true → is_plain style ≡ false) → (is_block style ≡ true → allows_literal (record { unicode = s.unicode; breaks12 = s.breaks12 }) value ≡ true)
    → is_tidy style s.breaks12 place.column (render_body style s limit indent value (body_cursor s directives anchor tag bare style value cursor)).text ≡ true
    → read_in_style style s.breaks12 false place.column
    (render_body style s limit indent value (body_cursor s directives anchor tag bare style value cursor)).text ≡ Some value
    → (let rendered = render_styled s directives anchor tag bare style limit indent value cursor in
    FitsOr (rules_of s own) 1 rendered (scalar_in anchor tag style bare value) place cursor (rendered.cursor.indention && header_open_ended value == 2))
scalar_fits s own directives anchor tag true plain limit indent [] place cursor low high named stands meant allowed tidy read =
    absurd (true≢false (meant refl))
scalar_fits s own directives anchor tag false plain limit indent [] place cursor low high named stands meant allowed tidy read =
    empty_fits s own directives anchor tag limit indent place cursor false named stands
scalar_fits s own directives anchor tag bare style limit indent value place cursor low high named stands meant allowed tidy read =
    styled_fits s own directives anchor tag bare style limit indent value place cursor named stands meant refl
    (body_fits s own place.column style limit indent value (body_cursor s directives anchor tag bare style value cursor) low high allowed refl tidy read)

-- so does each scalar in a block
pub scalars_fit : (s : Effective) (own directives : List TagDirective) → 2 ≤ s.indent → s.indent ≤ 9 → ScalarsFit s own directives
scalars_fit s own directives low high content role column cursor complex stands names body =
    let place = block_place role column in
    let simple = is_simple_at place s.canonical directives (scalar_node content) in
    let choice = choice_of s place simple content in
    let tag = scalar_tag s.canonical content in
    let allowed : Allowances = allowed_under s content in
    scalar_fits s own directives content.anchor tag choice.bare choice.style (if simple then None else s.width)
    (deeper s.indent column) content.value place cursor low high
    names.0 names.1
    (λ h. bare_not_plain (is_some tag) content.quoted_implicit (is_plain choice.style) h)
    (λ h. literal_still s.unicode s.breaks12 s.portable content.value
    (literal_allowed s content
    (and_parts allowed.block_allowed true
    (and_parts (allowed.block_allowed && true) (not simple)
    (block_fitting allowed (fits_plain allowed (is_empty content.value) (is_some tag) content.plain_implicit false simple)
    (allowed.block_allowed && true && not simple) (requested_style (s.canonical || (simple && allowed.multiline)) (style_asked_at s place content)) h)).0).0))
    body.tidy body.reads

-- if no blank line is barred after a scalar where a head is written, none is barred by the scalar
pub blank_allowed : (s : Effective) (style : ScalarStyle) (limit : Option ℕ) (indent : ℕ) (value : Text) (cursor : Cursor) (open_ended : ℕ)
    → (let after = (render_body style s limit indent value cursor).cursor in
    bars_blank (open_ended_after style value open_ended == 2) after ≡ false → (after.indention && header_open_ended value == 2) ≡ false)
blank_allowed s literal limit indent value cursor open_ended h = fewer_barred _ (header_open_ended value == 2) _ h
blank_allowed s folded limit indent value cursor open_ended h = fewer_barred _ (header_open_ended value == 2) _ h
blank_allowed s style limit indent value cursor open_ended h =
    ap (λ b. b && header_open_ended value == 2) (body_ended s style limit indent value cursor refl).indention
