-- Writing atoms gives the text that the definitions render.
use Rattle.yaml_emitter.proofs.Common.{ℕ, if◌then◌else◌, is_some, option_map, Option, None, Some, Bool, false, true, List, ◌++◌, refl, ◌≡◌}
use Rattle.yaml_emitter.proofs.Common.{append-nil, ap, sym, ◌∙◌, Text, Cursor, Rendered, render_nothing, render_then, TagDirective, render_anchor, render_tag}
use Rattle.yaml_emitter.proofs.Common.{render_properties, Role, as_root, as_item, as_key, as_value, Place, line_column}
use Rattle.yaml_emitter.proofs.Common.{tag_count, render_flow_place, render_block_place, render_place, Effective, Spelling, spelling, seen_tag}
use Rattle.yaml_emitter.proofs.Common.{render_spelled_tag, spelled_count}
use Rattle.yaml_emitter.{specs.declared.writing.spelling.SpelledTag.SpelledTag}

-- a place in flow
pub flow_here : (s : Effective) (place : Place) (simple : Bool) (cursor : Cursor) → place.in_flow ≡ true
    → render_flow_place s place.role simple place.column cursor ≡ render_place s place simple cursor
flow_here s place simple cursor is =
    sym (ap (λ (b : Bool). if b then render_flow_place s place.role simple place.column cursor else render_block_place place.role simple place.column
    cursor) is)

-- a place by its line's column is as good
pub flow_at_line : (s : Effective) (role : Role) (simple : Bool) (line column : Option ℕ) (cursor : Cursor) → line ≡ Some (line_column column)
    → render_flow_place s role simple line cursor ≡ render_flow_place s role simple column cursor
flow_at_line s role simple line column cursor is =
    ap (λ (l : Option ℕ). render_flow_place s role simple l cursor) is ∙ by_line role
  where
    by_line : (role : Role) → render_flow_place s role simple (Some (line_column column)) cursor ≡ render_flow_place s role simple column cursor
    by_line as_root = refl
    by_line (as_item first) = refl
    by_line (as_key first) = refl
    by_line (as_value true) = refl
    by_line (as_value false) = refl

-- the bytes of a tag are those of its spelling
pub tag_count-spelled : (directives : List TagDirective) (tag : Option Text) → spelled_count (option_map (spelling directives) tag) ≡ tag_count directives tag
tag_count-spelled directives None = refl
tag_count-spelled directives (Some tag) = refl

-- a tag is written exactly if its spelling is
pub written_is_some : (directives : List TagDirective) (text : Option Text) (tag : Option SpelledTag) → seen_tag tag ≡ option_map (spelling directives) text
    → is_some tag ≡ is_some text
written_is_some directives None (Some tag) is = cc
written_is_some directives (Some text) None is = cc
written_is_some directives _ _ is = refl

tag-spelled : (portable : Bool) (directives : List TagDirective) (tag : Option Text) (bare : Bool) (cursor : Cursor)
    → render_spelled_tag portable (option_map (spelling directives) tag) bare cursor ≡ render_tag portable directives tag bare cursor
tag-spelled portable directives (Some tag) bare cursor = refl
tag-spelled portable directives _ _ cursor = refl

-- the text before a node, with its tag as it is spelled
pub lead-spelled : (s : Effective) (directives : List TagDirective) (place : Place) (simple : Bool) (anchor tag : Option Text) (spelled : Option Spelling)
    (bare : Bool) (cursor : Cursor)
    → spelled ≡ option_map (spelling directives) tag
    → render_then (render_place s place simple cursor) (λ between. render_then (render_anchor anchor between) (render_spelled_tag s.portable spelled bare))
    ≡ render_then (render_place s place simple cursor) (render_properties s.portable directives anchor tag bare)
lead-spelled s directives place simple anchor tag spelled bare cursor is =
    let here = render_place s place simple cursor in
    let named = render_anchor anchor here.cursor in
    ap (λ (o : Option Spelling). render_then here (λ between. render_then (render_anchor anchor between) (render_spelled_tag s.portable o bare))) is
    ∙ ap (λ (last : Rendered). let l : Rendered = record { text = here.text ++ (named.text ++ last.text); cursor = last.cursor } in l)
    (tag-spelled s.portable directives tag bare named.cursor)

-- a text that nothing follows is the whole text
pub rendered_alone : (render next : Cursor → Rendered) (cursor : Cursor) → ((after : Cursor) → next after ≡ render_nothing after)
    → render cursor ≡ render_then (render cursor) next
rendered_alone render next cursor none =
    let here = render cursor in
    ap (λ (text : Text). let l : Rendered = record { text = text; cursor = here.cursor } in l) (sym (append-nil here.text))
    ∙ ap (λ (last : Rendered). let l : Rendered = record { text = here.text ++ last.text; cursor = last.cursor } in l) (sym (none here.cursor))
