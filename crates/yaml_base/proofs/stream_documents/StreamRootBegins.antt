-- The beginning of a readable root, after a space if one is needed: a character that no reader skips.
use Rattle.yaml_base.proofs.Common.{arith, ℕ, ◌==◌, Option, None, Some, Bool, false, true, ◌&&◌, List, [], ◌++◌, ◌∷◌, refl, ◌≡◌, true≢false, append-nil}
use Rattle.yaml_base.proofs.Common.{append_assoc, ap, ◌∙◌, and_parts, or_parts, false≢true, Text, space, Cursor, Rendered, space_if, ScalarStyle, any_style}
use Rattle.yaml_base.proofs.Common.{plain, single_quoted, double_quoted, literal, folded, TagDirective, render_properties, render_alias, render_body}
use Rattle.yaml_base.proofs.Common.{is_read_break, read_in_style, Effective, spelling, spelled, is_read_white, read_plain, ParsedTag, has_clean_edges}
use Rattle.yaml_base.proofs.{stream_documents.StreamRootsStand.Begins, stream_nodes.StreamOwnTexts.own_shows, stream_flow.StreamFlowReads.FlowContent}
use Rattle.yaml_base.proofs.{stream_flow.StreamFlowWords.Given, stream_flow.StreamPropertyWords.lead, stream_nodes.StreamBegun.properties_whole}
use Rattle.yaml_base.proofs.{stream_nodes.StreamProperties.IsNamed, stream_lines.StreamLineLaws.break_line, stream_nodes.StreamAgrees.plain_fits}
use Rattle.yaml_base.proofs.{stream_documents.StreamNoComment.no_plain, stream_lines.StreamCuts.none_not_some}
use Rattle.yaml_base.proofs.Common.{sym, eqb-true, is_tidy_style, Allowances, is_empty, is_plain, fitting_style, Tree, Rules, nat_tests}
use Rattle.yaml_base.proofs.stream_nodes.StreamLeads.{lead_rendered, tag_is_written}
use Rattle.yaml_base.proofs.stream_nodes.StreamScalarsFit.{render_styled, body_cursor, separation_text}
use Rattle.yaml_base.proofs.stream_nodes.StreamStands.{tag_written, tag_meant, TagStands}

-- Characters

-- the rendered text after a space if one is needed
spaced_begins : (breaks12 : Bool) (cursor : Cursor) (own : Rendered) (head : ℕ) (tail : Text) → own.text ≡ space_if true cursor ++ (head ∷ tail)
    → (head == space) ≡ false → (head == 0x23) ≡ false → is_read_break breaks12 head ≡ false → Begins breaks12 cursor own
spaced_begins breaks12 cursor own head tail e shows uncommented goes_on = grind (arith, true≢false)

-- the text after properties or without them
led_begins : (rules : Rules) (cursor : Cursor) (own : Rendered) (anchor tag : Option Text) (parsed : Option ParsedTag) (c : ℕ) (t : Text)
    → Given rules anchor tag parsed
    → (c == space) ≡ false → (c == 0x23) ≡ false → is_read_break rules.breaks12 c ≡ false → own.text ≡ space_if true cursor ++ (lead anchor tag ++ (c ∷ t))
    → Begins rules.breaks12 cursor own
led_begins rules cursor own None None parsed c t given shows uncommented goes_on e =
    spaced_begins rules.breaks12 cursor own c t e shows uncommented goes_on
led_begins rules cursor own (Some name) None parsed c t given shows uncommented goes_on e =
    spaced_begins rules.breaks12 cursor own 0x26 ((name ++ (space ∷ [])) ++ (c ∷ t)) e refl refl (break_line rules.breaks12 0x26 refl)
led_begins rules cursor own (Some name) (Some tag) parsed c t given shows uncommented goes_on e =
    spaced_begins rules.breaks12 cursor own 0x26 (((name ++ (space ∷ tag)) ++ (space ∷ [])) ++ (c ∷ t)) e refl refl (break_line rules.breaks12 0x26 refl)
led_begins rules cursor own None (Some tag) (Some parsed) c t given shows uncommented goes_on e = grind (arith, spaced_begins, break_line)
led_begins rules cursor own None (Some tag) None c t given shows uncommented goes_on e = absurd given.tagged

-- Properties

-- properties, if there are some
pub properties_begin : (s : Effective) (own directives : List TagDirective) (anchor tag : Option Text) (cursor : Cursor)
    → TagStands s.portable own directives tag
    → (anchor ≡ None → tag ≡ None → ⊥) → Begins s.breaks12 cursor (render_properties s.portable directives anchor tag false cursor)
properties_begin s own directives None None cursor stands some = absurd (some refl refl)
properties_begin s own directives (Some name) None cursor stands some =
    spaced_begins _ cursor _ 0x26 name (properties_whole s.portable directives (Some name) None cursor 0x26 name refl) refl refl
    (break_line s.breaks12 0x26 refl)
properties_begin s own directives None (Some tag) cursor stands some =
    spaced_begins _ cursor _ 0x21 _
    (properties_whole s.portable directives None (Some tag) cursor 0x21 stands.rest stands.begins) refl refl (break_line s.breaks12 0x21 refl)
properties_begin s own directives (Some name) (Some tag) cursor stands some =
    let rest = name ++ (space ∷ spelled s.portable (spelling directives tag)) in
    spaced_begins s.breaks12 cursor (render_properties s.portable directives (Some name) (Some tag) false cursor) 0x26 rest
    (properties_whole s.portable directives (Some name) (Some tag) cursor 0x26 rest refl) refl refl (break_line s.breaks12 0x26 refl)

-- Aliases

-- an alias
pub alias_begins : (s : Effective) (name : Text) (cursor : Cursor) → Begins s.breaks12 cursor (render_alias name false cursor)
alias_begins s name cursor = grind (arith, spaced_begins, append-nil, append_assoc)

-- Collections in flow

-- a collection in flow
pub flow_begins : (rules : Rules) (cursor : Cursor) (own : Rendered) (anchor tag given_tag : Option Text) (tree : Tree)
    → FlowContent rules cursor own anchor tag given_tag tree → Given rules anchor tag (tag_meant given_tag false) → Begins rules.breaks12 cursor own
flow_begins rules cursor own anchor tag given_tag tree of given = grind (arith, led_begins, own_shows, or_parts)

-- Scalars

-- a text begins with a character that no reader skips
pub record HeadShows (breaks12 : Bool) (text : Text) : Type 0 where
  pub head : ℕ
  pub tail : Text
  pub is : text ≡ head ∷ tail
  pub shows : (head == space) ≡ false
  pub uncommented : (head == 0x23) ≡ false
  pub goes_on : is_read_break breaks12 head ≡ false

-- a character that isn't white
shown_head : (breaks12 : Bool) (c : ℕ) (t : Text) → is_read_white breaks12 c ≡ false → (c == 0x23) ≡ false → HeadShows breaks12 (c ∷ t)
shown_head breaks12 c t h uncommented = grind (arith, or_parts)

clean_head : (breaks12 : Bool) (c : ℕ) (t : Text) → has_clean_edges breaks12 (c ∷ t) ≡ true → is_read_white breaks12 c ≡ false
clean_head breaks12 c t h = grind (arith, and_parts, false≢true)

-- plain text begins no comment
plain_uncommented : (breaks12 : Bool) (c : ℕ) (t value : Text) → read_plain breaks12 false (c ∷ t) ≡ Some value → (c == 0x23) ≡ false
plain_uncommented breaks12 c t value read = by (c == 0x23) refl
  where
    by : (x : Bool) → (c == 0x23) ≡ x → x ≡ false
    by false e = refl
    by true e = absurd (none_not_some (sym (no_plain breaks12 t) ∙ ap (λ d. read_plain breaks12 false (d ∷ t)) (sym (eqb-true c 0x23 e)) ∙ read))

-- a tidy plain text that reads as more than nothing
plain_head : (breaks12 : Bool) (text value : Text) → is_empty value ≡ false → has_clean_edges breaks12 text ≡ true → read_plain breaks12 false text ≡ Some value
    → HeadShows breaks12 text
plain_head breaks12 [] [] some clean read = absurd (true≢false some)
plain_head breaks12 [] (c ∷ value) some clean read = cc
plain_head breaks12 (c ∷ text) value some clean read =
    shown_head breaks12 c text (clean_head breaks12 c text clean) (plain_uncommented breaks12 c text value read)

-- a body that isn't empty
pub body_head : (s : Effective) (style : ScalarStyle) (limit : Option ℕ) (indent : ℕ) (column : Option ℕ) (value : Text) (cursor : Cursor)
    → (is_plain style && is_empty value) ≡ false → is_tidy_style style s.breaks12 (render_body style s limit indent value cursor).text ≡ true
    → read_in_style style s.breaks12 false column (render_body style s limit indent value cursor).text ≡ Some value
    → HeadShows s.breaks12 (render_body style s limit indent value cursor).text
body_head s plain limit indent column value cursor some tidy read = grind (arith, plain_head, and_parts)
body_head s single_quoted limit indent column value cursor some tidy read = grind (arith, shown_head, break_line)
body_head s double_quoted limit indent column value cursor some tidy read = grind (arith, shown_head, break_line)
body_head s any_style limit indent column value cursor some tidy read = absurd (false≢true tidy)
body_head s literal limit indent column value cursor some tidy read = shown_head s.breaks12 0x7C _ (break_line s.breaks12 0x7C refl) refl
body_head s folded limit indent column value cursor some tidy read = shown_head s.breaks12 0x3E _ (break_line s.breaks12 0x3E refl) refl

-- equal texts begin alike
begins_alike : (breaks12 : Bool) (cursor : Cursor) (own other : Rendered) → other.text ≡ own.text → Begins breaks12 cursor own → Begins breaks12 cursor other
begins_alike breaks12 cursor own other e b = grind (arith)

-- an empty plain scalar with properties
pub empty_begins : (s : Effective) (own directives : List TagDirective) (anchor tag : Option Text) (bare : Bool) (style : ScalarStyle) (limit : Option ℕ)
    (indent : ℕ) (value : Text) (cursor : Cursor) → TagStands s.portable own directives tag → is_plain style ≡ true → is_empty value ≡ true → bare ≡ false
    → (anchor ≡ None → tag ≡ None → ⊥) → Begins s.breaks12 cursor (render_styled s directives anchor tag bare style limit indent value cursor)
empty_begins s own directives anchor tag true plain limit indent [] cursor stands is empty h some = absurd (true≢false h)
empty_begins s own directives anchor tag false plain limit indent [] cursor stands is empty h some =
    let begun = render_properties s.portable directives anchor tag false cursor in
    begins_alike _ cursor begun _ (append-nil (begun.text ++ []) ∙ append-nil begun.text) (properties_begin s own _ anchor tag cursor stands some)
empty_begins s own directives anchor tag bare plain limit indent (c ∷ value) cursor stands is empty h some = absurd (false≢true empty)
empty_begins s own directives anchor tag bare style limit indent value cursor stands is empty h some = absurd (false≢true is)

-- a scalar whose body isn't empty
pub styled_begins : (s : Effective) (own directives : List TagDirective) (anchor tag : Option Text) (bare : Bool) (style : ScalarStyle) (limit : Option ℕ)
    (indent : ℕ) (value : Text) (cursor : Cursor) → IsNamed anchor → TagStands s.portable own directives tag → (is_plain style && is_empty value) ≡ false
    → HeadShows s.breaks12 (render_body style s limit indent value (body_cursor s directives anchor tag bare style value cursor)).text
    → Begins s.breaks12 cursor (render_styled s directives anchor tag bare style limit indent value cursor)
styled_begins s own directives anchor tag bare style limit indent value cursor named stands some h =
    let text = (render_body style s limit indent value (body_cursor s directives anchor tag bare style value cursor)).text in
    let before = lead anchor (tag_written s.portable directives tag bare) in
    led_begins _ _ _ _ _ _ _ _
    (record { named = named; tagged = tag_is_written _ own _ tag bare stands }) h.shows h.uncommented h.goes_on
    (ap (λ t. ((render_properties s.portable directives anchor tag bare cursor).text ++ t) ++ text) (separation_text style value _ some)
    ∙ ap (λ t. t ++ text) (lead_rendered _ _ _ tag bare _)
    ∙ append_assoc (space_if true cursor) before text ∙ ap (λ t. space_if true cursor ++ (before ++ t)) h.is)

-- plain is chosen only if it is asked for and fits
pub plain_asked : (allowed : Allowances) (plain_fits block_fits : Bool) (asked : ScalarStyle)
    → is_plain (fitting_style allowed plain_fits block_fits asked) ≡ true
    → (is_plain asked ≡ true) × (plain_fits ≡ true)
plain_asked allowed true block_fits asked h = (grind (arith, nat_tests, false≢true), refl)
plain_asked allowed false block_fits asked h = absurd (false≢true (plain_fits allowed false block_fits asked h))
