-- The text before a node, and that of lines outside nodes, holds no character that meets a test which spares printable ASCII and LF:
-- indicators, spaces, breaks, names, and tags in percent forms.
use Rattle.yaml_emitter.proofs.Common.{ℕ, if◌then◌else◌, ◌==◌, Option, None, Some, codes, Bool, false, not, true, ◌&&◌, ◌||◌, List, [], ◌++◌, ◌∷◌, refl, ◌≡◌}
use Rattle.yaml_emitter.proofs.Common.{ap, ◌∙◌, arith, and_parts, and_from, nat_tests, list_all, list_any, IsHandle, handle_form, AreFound, spelling_is, Text}
use Rattle.yaml_emitter.proofs.Common.{space, is_alpha, Cursor, Rendered, render_nothing, render_then, new_line, space_if, indicator, is_past_width}
use Rattle.yaml_emitter.proofs.Common.{ScalarStyle, plain, Version, TagDirective, DocumentStart}
use Rattle.yaml_emitter.proofs.Common.{render_indicator, spaced, yaml_directive, render_if, render_closing_marker, render_version, render_tag_directive}
use Rattle.yaml_emitter.proofs.Common.{render_tag_directives, has_directives, is_explicit, render_document_marker, render_document_start, Standing}
use Rattle.yaml_emitter.proofs.Common.{render_anchor, render_handle, render_spelling, render_tag, render_properties, render_alias, render_separation}
use Rattle.yaml_emitter.proofs.Common.{Brackets, render_end, Role, as_root, as_item, as_key, as_value, Place, line_column, flow_break, opening_or_comma}
use Rattle.yaml_emitter.proofs.Common.{render_flow_place, render_block_place, render_place, percent_escaped, suffix_escaped, prefix_escaped, Effective}
use Rattle.yaml_emitter.proofs.Common.{exclamation_mark, Spelling, spelling, any_both, any_one, is_graph, Spares, lacks_line}
use Rattle.yaml_base.proofs.Common.{version_1_1, version_1_2, empty_or_comma, key_indicator}
use Rattle.yaml_base.specs.{Cursor.render_name, Indicators.document_start, Indicators.document_end, Indicators.tag_directive, Layout.then_line_end}
use Rattle.yaml_base.specs.{Layout.version_word}
use Rattle.yaml_emitter.proofs.canonical.CanonicalNames.{is_written, all_written, alphas-written, escaped-written, suffix-written, prefix-written, handle_text}
use Rattle.yaml_emitter.proofs.canonical.CanonicalPlaces.{AnchorOk}
use Rattle.yaml_scalar.proofs.{LineTexts.any_cond, Sparing.lacks_graph}

-- the characters of a tag are printable ASCII
written_graph : (c : ℕ) → is_written c ≡ true → is_graph c ≡ true
written_graph c h = grind (arith, nat_tests)

-- names, and the texts of tags
graph_written : (text : Text) → all_written text ≡ true → list_all is_graph text ≡ true
graph_written [] h = refl
graph_written (c ∷ rest) h =
    let p : (is_written c ≡ true) × (all_written rest ≡ true) = and_parts _ _ h in
    and_from _ _ (written_graph c p.0) (graph_written rest p.1)

-- so is a text from its `!` on
graph_exclamation : (text rest : Text) → text ≡ exclamation_mark ∷ rest → all_written rest ≡ true → list_all is_graph text ≡ true
graph_exclamation text rest e h = ap (list_all is_graph) e ∙ graph_written rest h

-- and a handle
graph_handle : (handle : Text) → IsHandle handle → list_all is_graph handle ≡ true
graph_handle handle is = let form = handle_text handle is in graph_exclamation handle form.rest form.is form.written

module _ (test : ℕ → Bool) (spares : Spares test) where
  -- a layout holds no character that meets the test
  abbrev pub Lacks : Rendered → Type 0
  Lacks rendered = list_any test rendered.text ≡ false

  -- one layout and then another
  pub lacks_then : (first : Rendered) (next : Cursor → Rendered) → Lacks first → ((cursor : Cursor) → Lacks (next cursor)) → Lacks (render_then first next)
  lacks_then first next h k = any_both test first.text (next first.cursor).text h (k first.cursor)

  -- one of two
  pub lacks_either : (b : Bool) (x y : Rendered) → Lacks x → Lacks y → Lacks (if b then x else y)
  lacks_either true x y h k = h
  lacks_either false x y h k = k

  -- a space, if one is needed
  pub lacks_space : (need : Bool) (cursor : Cursor) → list_any test (space_if need cursor) ≡ false
  lacks_space need cursor = any_cond test (need && not cursor.whitespace) (space ∷ []) [] (any_one test space [] spares.blank refl) refl

  -- an indicator of printed indicators
  pub lacks_indicator : (symbol : Text) (need whitespace indention : Bool) (cursor : Cursor) → list_all is_graph symbol ≡ true
      → Lacks (indicator symbol need whitespace indention cursor)
  lacks_indicator symbol need whitespace indention cursor h =
      any_both test (space_if need cursor) symbol (lacks_space need cursor) (lacks_graph test spares symbol h)

  -- Places

  -- a new line in flow
  lacks_flow_break : (s : Effective) (column : Option ℕ) (cursor : Cursor) → Lacks (flow_break s column cursor)
  lacks_flow_break s column cursor = lacks_either (s.canonical || is_past_width s.width cursor) (new_line (line_column column) cursor) (render_nothing cursor)
      (lacks_line test spares (line_column column) cursor) refl

  -- an opening bracket or a comma
  lacks_opening : (bracket : Text) (first : Bool) (cursor : Cursor) → list_all is_graph bracket ≡ true → Lacks (opening_or_comma bracket first cursor)
  lacks_opening bracket true cursor h = lacks_indicator bracket true true false cursor h
  lacks_opening bracket false cursor h = lacks_indicator (codes ",") false false false cursor refl

  -- the indicator of a key
  lacks_key_indicator : (simple ind : Bool) (cursor : Cursor) → Lacks (key_indicator simple ind cursor)
  lacks_key_indicator true ind cursor = refl
  lacks_key_indicator false ind cursor = lacks_indicator (codes "?") true false ind cursor refl

  -- a place in flow
  lacks_flow_place : (s : Effective) (role : Role) (simple : Bool) (column : Option ℕ) (cursor : Cursor) → Lacks (render_flow_place s role simple column cursor)
  lacks_flow_place s as_root simple column cursor = refl
  lacks_flow_place s (as_item first) simple column cursor =
      lacks_then (opening_or_comma (codes "[") first cursor) (flow_break s column) (lacks_opening (codes "[") first cursor refl) (lacks_flow_break s column)
  lacks_flow_place s (as_key first) simple column cursor =
      lacks_then (render_then (opening_or_comma (codes "{") first cursor) (flow_break s column)) (key_indicator simple false)
      (lacks_then (opening_or_comma (codes "{") first cursor) (flow_break s column) (lacks_opening (codes "{") first cursor refl) (lacks_flow_break s column))
      (lacks_key_indicator simple false)
  lacks_flow_place s (as_value true) simple column cursor = lacks_indicator (codes ":") false false false cursor refl
  lacks_flow_place s (as_value false) simple column cursor =
      lacks_then (flow_break s column cursor) (indicator (codes ":") true false false) (lacks_flow_break s column cursor)
      (λ after. lacks_indicator (codes ":") true false false after refl)

  -- a place in a block
  lacks_block_place : (role : Role) (simple : Bool) (column : Option ℕ) (cursor : Cursor) → Lacks (render_block_place role simple column cursor)
  lacks_block_place as_root simple column cursor = refl
  lacks_block_place (as_item first) simple column cursor =
      lacks_then (new_line (line_column column) cursor) (indicator (codes "-") true false true) (lacks_line test spares (line_column column) cursor)
      (λ after. lacks_indicator (codes "-") true false true after refl)
  lacks_block_place (as_key first) simple column cursor =
      lacks_then (new_line (line_column column) cursor) (key_indicator simple true) (lacks_line test spares (line_column column) cursor)
      (lacks_key_indicator simple true)
  lacks_block_place (as_value true) simple column cursor = lacks_indicator (codes ":") false false false cursor refl
  lacks_block_place (as_value false) simple column cursor =
      lacks_then (new_line (line_column column) cursor) (indicator (codes ":") true false true) (lacks_line test spares (line_column column) cursor)
      (λ after. lacks_indicator (codes ":") true false true after refl)

  -- the text of a place before its node
  pub lacks_place : (s : Effective) (place : Place) (simple : Bool) (cursor : Cursor) → Lacks (render_place s place simple cursor)
  lacks_place s place simple cursor =
      lacks_either place.in_flow (render_flow_place s place.role simple place.column cursor) (render_block_place place.role simple place.column cursor)
      (lacks_flow_place s place.role simple place.column cursor) (lacks_block_place place.role simple place.column cursor)

  -- Names and tags

  -- a name
  pub lacks_name : (name : Text) → list_all is_alpha name ≡ true → list_any test name ≡ false
  lacks_name name h = lacks_graph test spares name (graph_written name (alphas-written name h))

  -- percent forms
  lacks_percent : (text : Text) → list_any test (percent_escaped text) ≡ false
  lacks_percent text = lacks_graph test spares (percent_escaped text) (graph_written (percent_escaped text) (escaped-written text))

  -- the text after a tag's handle
  lacks_suffix : (portable : Bool) (text : Text) → list_any test (suffix_escaped portable text) ≡ false
  lacks_suffix portable text =
      lacks_graph test spares (suffix_escaped portable text) (graph_written (suffix_escaped portable text) (suffix-written portable text))

  -- a directive's prefix
  lacks_prefix : (portable : Bool) (text : Text) → list_any test (prefix_escaped portable text) ≡ false
  lacks_prefix portable text =
      lacks_graph test spares (prefix_escaped portable text) (graph_written (prefix_escaped portable text) (prefix-written portable text))

  -- an anchor
  lacks_anchor : (anchor : Option Text) (cursor : Cursor) → AnchorOk anchor → Lacks (render_anchor anchor cursor)
  lacks_anchor None cursor ok = refl
  lacks_anchor (Some name) cursor ok =
      lacks_then (indicator (codes "&") true false false cursor) (render_name name) (lacks_indicator (codes "&") true false false cursor refl)
      (λ after. lacks_name name ok.alphas)

  -- a handle
  lacks_handle : (handle : Text) (cursor : Cursor) → list_all is_graph handle ≡ true → Lacks (render_handle handle cursor)
  lacks_handle handle cursor h = any_both test (space_if true cursor) handle (lacks_space true cursor) (lacks_graph test spares handle h)

  -- a tag's text by the directives in force
  lacks_spelling : (portable : Bool) (own directives : List TagDirective) (tag : Text) (cursor : Cursor) → AreFound own directives
      → Lacks (render_spelling portable (spelling directives tag) cursor)
  lacks_spelling portable own directives tag cursor found =
      let P : Spelling → Type 0 = λ spelled. Lacks (render_spelling portable spelled cursor) in
      spelling_is P own directives tag found
      (lacks_then (render_then (indicator (codes "!<") true false false cursor) (render_name (percent_escaped tag))) (indicator (codes ">") false false false)
      (lacks_then (indicator (codes "!<") true false false cursor) (render_name (percent_escaped tag))
      (lacks_indicator (codes "!<") true false false cursor refl)
      (λ after. lacks_percent tag))
      (λ after. lacks_indicator (codes ">") false false false after refl))
      (λ handle prefix c suffix f g whole.
      lacks_then (render_handle handle cursor) (render_name (suffix_escaped portable (c ∷ suffix)))
      (lacks_handle handle cursor (graph_handle handle (handle_form handle f)))
      (λ after. lacks_suffix portable (c ∷ suffix)))

  -- a tag that is written, or the bare tag
  lacks_tag : (portable : Bool) (own directives : List TagDirective) (tag : Option Text) (bare : Bool) (cursor : Cursor) → AreFound own directives
      → Lacks (render_tag portable directives tag bare cursor)
  lacks_tag portable own directives (Some tag) bare cursor found = lacks_spelling portable own directives tag cursor found
  lacks_tag portable own directives None true cursor found = lacks_handle (codes "!") cursor refl
  lacks_tag portable own directives None false cursor found = refl

  -- the anchor and the tag
  pub lacks_properties : (portable : Bool) (own directives : List TagDirective) (anchor tag : Option Text) (bare : Bool) (cursor : Cursor)
      → AreFound own directives
      → AnchorOk anchor
      → Lacks (render_properties portable directives anchor tag bare cursor)
  lacks_properties portable own directives anchor tag bare cursor found ok =
      lacks_then (render_anchor anchor cursor) (render_tag portable directives tag bare) (lacks_anchor anchor cursor ok)
      (λ after. lacks_tag portable own directives tag bare after found)

  -- an alias
  pub lacks_alias : (name : Text) (simple : Bool) (cursor : Cursor) → list_all is_alpha name ≡ true → Lacks (render_alias name simple cursor)
  lacks_alias name simple cursor h =
      any_both test ((indicator (codes "*") true false false cursor).text ++ name) _
      (any_both test (indicator (codes "*") true false false cursor).text name (lacks_indicator (codes "*") true false false cursor refl) (lacks_name name h))
      (any_cond test simple (codes " ") [] (any_one test space [] spares.blank refl) refl)

  -- the space before a body
  pub lacks_separation : (style : ScalarStyle) (in_flow : Bool) (value : Text) (cursor : Cursor) → Lacks (render_separation style in_flow value cursor)
  lacks_separation plain in_flow value cursor = lacks_space _ cursor
  lacks_separation _ in_flow value cursor = lacks_space true cursor

  -- Ends of collections

  -- a bracket or a comma before a closing bracket
  lacks_comma : (s : Effective) (opening : Text) (empty : Bool) (column : Option ℕ) (cursor : Cursor) → list_all is_graph opening ≡ true
      → Lacks (empty_or_comma s opening empty column cursor)
  lacks_comma s opening true column cursor h = lacks_indicator opening true true false cursor h
  lacks_comma s opening false column cursor h =
      lacks_either s.canonical (render_then (indicator (codes ",") false false false cursor) (new_line (line_column column))) (render_nothing cursor)
      (lacks_then (indicator (codes ",") false false false cursor) (new_line (line_column column)) (lacks_indicator (codes ",") false false false cursor refl)
      (lacks_line test spares (line_column column))) refl

  -- brackets of printed indicators
  pub lacks_end : (s : Effective) (brackets : Brackets) (in_flow empty : Bool) (column : Option ℕ) (cursor : Cursor)
      → list_all is_graph brackets.opening ≡ true → list_all is_graph brackets.closing ≡ true → Lacks (render_end s brackets in_flow empty column cursor)
  lacks_end s brackets false empty column cursor h k = refl
  lacks_end s brackets true empty column cursor h k =
      lacks_then (empty_or_comma s brackets.opening empty column cursor) (indicator brackets.closing false false false)
      (lacks_comma s brackets.opening empty column cursor h) (λ after. lacks_indicator brackets.closing false false false after k)

  -- Documents

  -- a word of a line of its own
  lacks_word : (symbol : Text) (cursor : Cursor) → list_all is_graph symbol ≡ true → Lacks (render_indicator (spaced symbol) cursor)
  lacks_word symbol cursor h = lacks_indicator symbol true false false cursor h

  -- a line and its break
  lacks_ended : (rendered : Rendered) → Lacks rendered → Lacks (then_line_end rendered)
  lacks_ended rendered h = lacks_then rendered (new_line 0) h (lacks_line test spares 0)

  -- a text that is rendered only if a test holds
  pub lacks_if : (b : Bool) (next : Cursor → Rendered) (cursor : Cursor) → Lacks (next cursor) → Lacks (render_if b next cursor)
  lacks_if true next cursor h = h
  lacks_if false next cursor h = refl

  -- `...` on a line of its own
  pub lacks_closing : (cursor : Cursor) → Lacks (render_closing_marker cursor)
  lacks_closing cursor = lacks_ended (render_indicator document_end cursor) (lacks_word (codes "...") cursor refl)

  -- the number of a version
  lacks_number : (b : Bool) (cursor : Cursor) → Lacks (render_indicator (if b then version_1_2 else version_1_1) cursor)
  lacks_number true cursor = lacks_word (codes "1.2") cursor refl
  lacks_number false cursor = lacks_word (codes "1.1") cursor refl

  -- a `%YAML` line
  lacks_version : (version : Option Version) (cursor : Cursor) → Lacks (render_version version cursor)
  lacks_version None cursor = refl
  lacks_version (Some version) cursor =
      lacks_ended (render_then (render_indicator yaml_directive cursor) (render_indicator (version_word version)))
      (lacks_then (render_indicator yaml_directive cursor) (render_indicator (version_word version)) (lacks_word (codes "%YAML") cursor refl)
      (λ after. lacks_number _ after))

  -- a `%TAG` line
  lacks_directive : (portable : Bool) (directive : TagDirective) (cursor : Cursor) → IsHandle directive.handle
      → Lacks (render_tag_directive portable directive cursor)
  lacks_directive portable directive cursor h =
      let symbol = render_indicator tag_directive cursor in
      let handle = render_then symbol (render_handle directive.handle) in
      lacks_ended (render_then handle (render_handle (prefix_escaped portable directive.prefix)))
      (lacks_then handle (render_handle (prefix_escaped portable directive.prefix))
      (lacks_then symbol (render_handle directive.handle) (lacks_word (codes "%TAG") cursor refl)
      (λ after. lacks_handle directive.handle after (graph_handle directive.handle h)))
      (λ after. any_both test (space_if true after) (prefix_escaped portable directive.prefix) (lacks_space true after)
      (lacks_prefix portable directive.prefix)))

  -- all of them
  lacks_directives : (portable : Bool) (own directives : List TagDirective) (cursor : Cursor) → AreFound own directives
      → Lacks (render_tag_directives portable directives cursor)
  lacks_directives portable own [] cursor found = refl
  lacks_directives portable own (directive ∷ rest) cursor found =
      lacks_then (render_tag_directive portable directive cursor) (render_tag_directives portable rest)
      (lacks_directive portable directive cursor (handle_form directive.handle found.0))
      (λ after. lacks_directives portable own rest after found.2)

  -- `---`
  lacks_marker : (canonical : Bool) (cursor : Cursor) → Lacks (render_document_marker canonical cursor)
  lacks_marker canonical cursor =
      let line = new_line 0 cursor in
      lacks_then (render_then line (render_indicator document_start)) (render_if canonical (new_line 0))
      (lacks_then line (render_indicator document_start) (lacks_line test spares 0 cursor) (λ after. lacks_word (codes "---") after refl))
      (λ after. lacks_if canonical (new_line 0) after (lacks_line test spares 0 after))

  -- a document's start
  pub lacks_document : (s : Effective) (first : Bool) (own : List TagDirective) (start : DocumentStart) (standing : Standing) → AreFound own start.directives
      → Lacks (render_document_start s first start standing)
  lacks_document s first own start standing found =
      let was_open = has_directives start && not (standing.open_ended == 0) in
      let closed = render_if was_open render_closing_marker standing.cursor in
      let versioned = render_then closed (render_version start.version) in
      let directed = render_then versioned (render_tag_directives s.portable start.directives) in
      lacks_then directed (render_if (is_explicit (s.canonical || s.portable) first start) (render_document_marker s.canonical))
      (lacks_then versioned (render_tag_directives s.portable start.directives)
      (lacks_then closed (render_version start.version) (lacks_if was_open render_closing_marker standing.cursor (lacks_closing standing.cursor))
      (lacks_version start.version))
      (λ after. lacks_directives s.portable own start.directives after found))
      (λ after. lacks_if (is_explicit (s.canonical || s.portable) first start) (render_document_marker s.canonical) after (lacks_marker s.canonical after))
