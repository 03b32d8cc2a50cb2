-- Scalars in blocks fit: in each style, after an anchor and a tag or without them, and if nothing is written.
use Rattle.yaml_base.proofs.Common.{nat_tests, ℕ, ◌≤◌, if◌then◌else◌, Option, None, Some, Bool, false, true, ◌&&◌, List, [], ◌++◌, ◌∷◌, refl, ◌≡◌, true≢false}
use Rattle.yaml_base.proofs.Common.{append-nil, append_assoc, ap, subst, sym, ◌∙◌, arith, false≢true, Text, Cursor, Rendered, render_then, column_after}
use Rattle.yaml_base.proofs.Common.{space_if, ScalarStyle, any_style, plain, single_quoted, double_quoted, literal, folded, TagDirective, render_properties}
use Rattle.yaml_base.proofs.Common.{render_separation, render_body, Place, read_in_style, Effective, read_block, is_tidy, is_empty, allows_literal, ending}
use Rattle.yaml_base.proofs.Common.{indentation_hint, ending_hint, ends_in_break, double_inside, render_quote, runs, render_runs, quotes_doubled, single_quote}
use Rattle.yaml_base.proofs.stream_lines.StreamBlockEnds.{EndsBreak, ending_breaks, EndsLines, literal_end, folded_lines_end, column_ended, last_is_read}
use Rattle.yaml_base.{proofs.Common.is_plain, proofs.Common.is_block, proofs.Common.spaces, proofs.Common.Rules, proofs.stream_lines.StreamBlockEnds.hint_text}
use Rattle.yaml_base.{proofs.stream_lines.StreamBlockEnds.strips, proofs.stream_flow.StreamFlowWords.Given, proofs.stream_flow.StreamFlowWords.scalar_in}
use Rattle.yaml_base.{proofs.stream_flow.StreamPropertyWords.lead, proofs.stream_lines.StreamCuts.none_not_some, proofs.stream_lines.StreamLineLaws.is_closed}
use Rattle.yaml_base.{proofs.stream_lines.StreamStrip.strip_more, proofs.stream_nodes.StreamBlocks.below_ends, proofs.stream_nodes.StreamFits.FitsOr}
use Rattle.yaml_base.{proofs.stream_nodes.StreamFits.sparing, proofs.stream_nodes.StreamOwnPlain.plain_drops, specs.CommentReading.keeps_breaks}
use Rattle.yaml_base.{proofs.stream_lines.StreamBlockEnds.header_drops, specs.scalars.BlockHeader.header_open_ended}
use Rattle.yaml_base.proofs.Common.{and-false, ◌||◌, ◌==◌}
use Rattle.yaml_base.{proofs.stream_nodes.StreamLeafFits.text_node, proofs.stream_nodes.StreamOwnPlain.own_plain, proofs.stream_nodes.StreamOwnWords.feed}
use Rattle.yaml_base.{proofs.stream_nodes.StreamOwnWords.own_quoted, proofs.stream_nodes.StreamProperties.IsNamed, specs.scalars.BlockHeader.render_header}
use Rattle.yaml_base.{specs.scalars.BlockHeader.block_body, proofs.stream_nodes.StreamOwnTexts.OwnText, proofs.stream_nodes.StreamOwnTexts.own_reads}
use Rattle.yaml_base.proofs.stream_flow.StreamFlowScalars.{rules_of, is_flow_style, body_ended}
use Rattle.yaml_base.proofs.stream_nodes.StreamLeads.{lead_rendered, tag_is_written, before_count, before_spaces, before_some}
use Rattle.yaml_base.proofs.stream_nodes.StreamStands.{tag_written, tag_meant, TagStands}
use Rattle.yaml_base.proofs.stream_lines.StreamClosed.{closed, Settled, closed_behind}
use Rattle.yaml_base.proofs.stream_nodes.StreamOwnBlocks.{block_indicator, block_style, own_block, block_tidy_more}

-- Bodies

-- the rendered text of a scalar's body: it ends settled at a line's end, and up to there it is its own text
pub record BodyFits (rules : Rules) (column : Option ℕ) (style : ScalarStyle) (value : Text) (body : Rendered) : Type 0 where
  pub settled : Settled body.cursor
  pub ends : is_closed rules.breaks12 (closed body) ≡ true
  pub own : OwnText rules column (closed body) style value
  pub drops : (body.cursor.indention && header_open_ended value == 2) ≡ false → keeps_breaks (closed body) ≡ false

-- one after which a new line begins with a break
broken_body : (rules : Rules) (column : Option ℕ) (style : ScalarStyle) (value : Text) (body : Rendered) → body.cursor.indention ≡ false
    → OwnText rules column (body.text ++ feed) style value → keeps_breaks (body.text ++ feed) ≡ false → BodyFits rules column style value body
broken_body rules column style value body h own drops = grind (arith, false≢true, below_ends)

-- a body that isn't empty in a style of flow
flow_body : (s : Effective) (own : List TagDirective) (column : Option ℕ) (style : ScalarStyle) (limit : Option ℕ) (indent : ℕ) (value : Text) (cursor : Cursor)
    → is_flow_style style ≡ true → (is_plain style && is_empty value) ≡ false
    → is_tidy style s.breaks12 column (render_body style s limit indent value cursor).text ≡ true
    → read_in_style style s.breaks12 false column (render_body style s limit indent value cursor).text ≡ Some value
    → BodyFits (rules_of s own) column style value (render_body style s limit indent value cursor)
flow_body s own column plain limit indent value cursor flow some tidy read =
    let text = by (render_body plain s limit indent value cursor).text value some tidy read in
    broken_body _ column plain value _ refl text.0 text.1
  where
    by : (text value : Text) → is_empty value ≡ false → is_tidy plain s.breaks12 column text ≡ true
        → read_in_style plain s.breaks12 false column text ≡ Some value
        → OwnText (rules_of s own) column (text ++ feed) plain value × (keeps_breaks (text ++ feed) ≡ false)
    by [] [] some tidy read = absurd (true≢false some)
    by [] (c ∷ value) some tidy read = cc
    by (c ∷ text) value some tidy read = (
      own_plain (rules_of s own) column c text value tidy read,
      plain_drops s.breaks12 column c text value (text ++ feed) tidy read,
    )
flow_body s own column single_quoted limit indent value cursor flow some tidy read =
    broken_body _ column _ value _ (body_ended s single_quoted limit indent value cursor refl).indention
    (own_quoted (rules_of s own) column false (render_runs quotes_doubled limit indent true (runs value) (single_quote cursor).cursor).text value tidy read)
    refl
flow_body s own column double_quoted limit indent value cursor flow some tidy read =
    broken_body (rules_of s own) column double_quoted value (render_body double_quoted s limit indent value cursor)
    (body_ended s double_quoted limit indent value cursor refl).indention
    (own_quoted (rules_of s own) column true (double_inside s.unicode limit indent None value (render_quote cursor).cursor).text value tidy read)
    refl
flow_body s own column any_style limit indent value cursor flow some tidy read = absurd (none_not_some read)
flow_body s own column literal limit indent value cursor flow some tidy read = absurd (false≢true flow)
flow_body s own column folded limit indent value cursor flow some tidy read = absurd (false≢true flow)

-- Block scalars

-- the text of a header and its lines, after the indicator
abbrev header_rest : ℕ → Text → Text → Text
header_rest best_indent value lines = (indentation_hint best_indent value ++ ending_hint (ending value)) ++ (feed ++ lines)

-- a block scalar's text is its indicator and that
block_text : (symbol best_indent : ℕ) (value lines : Text) (cursor : Cursor)
    → (block_body symbol best_indent value lines cursor).text ≡ symbol ∷ header_rest best_indent value lines
block_text symbol best_indent value lines cursor = grind (arith, hint_text, append_assoc)

-- its header keeps its final breaks only if a blank line is barred after it
block_drops : (symbol best_indent : ℕ) (value lines : Text) → 2 ≤ best_indent → best_indent ≤ 9
    → (ends_in_break (ending value) && header_open_ended value == 2) ≡ false → keeps_breaks (symbol ∷ header_rest best_indent value lines) ≡ false
block_drops symbol best_indent value lines low high allowed =
    ap (λ b. (symbol == 0x7C || symbol == 0x3E) && b) (header_drops best_indent value lines low high allowed) ∙ and-false (symbol == 0x7C || symbol == 0x3E)

-- if the value ends in a break, so do its lines
block_kept : (s : Effective) (own : List TagDirective) (column : Option ℕ) (l : Bool) (value lines : Text) (cursor : Cursor)
    → ends_in_break (ending value) ≡ true → (end : EndsBreak value) → EndsLines lines end.last
    → allows_literal (record { unicode = s.unicode; breaks12 = s.breaks12 }) value ≡ true
    → OwnText (rules_of s own) column (block_body (block_indicator l) s.indent value lines cursor).text (block_style l) value
    → ((ends_in_break (ending value) && header_open_ended value == 2) ≡ false
    → keeps_breaks (block_body (block_indicator l) s.indent value lines cursor).text ≡ false)
    → BodyFits (rules_of s own) column (block_style l) value (block_body (block_indicator l) s.indent value lines cursor)
block_kept s own column l value lines cursor h end lines_end allowed text drops =
    let body = block_body (block_indicator l) s.indent value lines cursor in
    let header = render_header (block_indicator l) s.indent value cursor in
    let same : closed body ≡ body.text = ap (λ x. body.text ++ (if x then [] else feed)) h ∙ append-nil body.text in
    let prefix = header.text ++ lines_end.prefix in
    let whole : body.text ≡ prefix ++ (end.last ∷ []) =
    ap (λ t. header.text ++ t) lines_end.is ∙ sym (append_assoc header.text lines_end.prefix (end.last ∷ [])) in
    record {
      settled =
          λ w. (ap (λ t. column_after t header.cursor.column) lines_end.is ∙ column_ended lines_end.prefix end.last header.cursor.column end.breaks, refl);
      ends =
          ap (is_closed s.breaks12) (same ∙ whole)
          ∙ closed_behind s.breaks12 prefix end.last [] (last_is_read (record { unicode = s.unicode; breaks12 = s.breaks12 }) value end allowed);
      own = subst (λ t. OwnText (rules_of s own) column t (block_style l) value) (sym same) text;
      drops = λ bars. ap keeps_breaks same ∙ drops bars;
    }

-- a block scalar
block_fits_body : (s : Effective) (own : List TagDirective) (column : Option ℕ) (l : Bool) (value lines : Text) (cursor : Cursor) → 2 ≤ s.indent → s.indent ≤ 9
    → ((end : EndsBreak value) → EndsLines lines end.last) → allows_literal (record { unicode = s.unicode; breaks12 = s.breaks12 }) value ≡ true
    → is_tidy (block_style l) s.breaks12 column (block_body (block_indicator l) s.indent value lines cursor).text ≡ true
    → read_block s.breaks12 column (block_body (block_indicator l) s.indent value lines cursor).text ≡ Some value
    → BodyFits (rules_of s own) column (block_style l) value (block_body (block_indicator l) s.indent value lines cursor)
block_fits_body s own column l value lines cursor low high lines_end allowed tidy read = by (ends_in_break (ending value)) refl
  where
    body : Rendered
    body = block_body (block_indicator l) s.indent value lines cursor

    header : Text
    header = indentation_hint s.indent value ++ ending_hint (ending value)

    rest : Text
    rest = header_rest s.indent value lines

    same : body.text ≡ block_indicator l ∷ rest
    same = block_text (block_indicator l) s.indent value lines cursor

    tidy_here : is_tidy (block_style l) s.breaks12 column (block_indicator l ∷ rest) ≡ true
    tidy_here = ap (is_tidy (block_style l) s.breaks12 column) (sym same) ∙ tidy

    read_here : read_block s.breaks12 column (block_indicator l ∷ rest) ≡ Some value
    read_here = ap (read_block s.breaks12 column) (sym same) ∙ read

    by : (x : Bool) → ends_in_break (ending value) ≡ x → BodyFits (rules_of s own) column (block_style l) value body
    by true h =
        let end = ending_breaks value h in
        block_kept s own column l value lines cursor h end (lines_end end) allowed
        (subst (λ t. OwnText (rules_of s own) column t (block_style l) value) (sym same) (own_block _ column l rest value tidy_here read_here))
        (λ bars. ap keeps_breaks same ∙ block_drops (block_indicator l) s.indent value lines low high bars)
    by false h =
        broken_body _ column _ value body h (subst (λ t. OwnText (rules_of s own) column (t ++ feed) (block_style l) value) (sym same)
        (own_block (rules_of s own) column l (rest ++ feed) value (block_tidy_more l s.breaks12 column (block_indicator l ∷ rest) tidy_here)
        (strip_more s.breaks12 column (block_indicator l) rest value (strips s.indent value (feed ++ lines) low high h) read_here)))
        (ap (λ t. keeps_breaks (t ++ feed)) same ∙ ap (λ t. keeps_breaks (block_indicator l ∷ t)) (append_assoc header (feed ++ lines) feed)
        ∙ block_drops (block_indicator l) s.indent value (lines ++ feed) low high (ap (λ b. b && header_open_ended value == 2) h))

-- a body that isn't empty fits in each style
pub body_fits : (s : Effective) (own : List TagDirective) (column : Option ℕ) (style : ScalarStyle) (limit : Option ℕ) (indent : ℕ) (value : Text)
    (cursor : Cursor)
    → 2 ≤ s.indent → s.indent ≤ 9 → (is_block style ≡ true → allows_literal (record { unicode = s.unicode; breaks12 = s.breaks12 }) value ≡ true)
    → (is_plain style && is_empty value) ≡ false
    → is_tidy style s.breaks12 column (render_body style s limit indent value cursor).text ≡ true
    → read_in_style style s.breaks12 false column (render_body style s limit indent value cursor).text ≡ Some value
    → BodyFits (rules_of s own) column style value (render_body style s limit indent value cursor)
body_fits s own column literal limit indent value cursor low high allowed some tidy read =
    block_fits_body s own column true value _ cursor low high (literal_end indent value) (allowed refl) tidy read
body_fits s own column folded limit indent value cursor low high allowed some tidy read =
    block_fits_body s own column false value _ cursor low high (folded_lines_end limit indent value) (allowed refl) tidy read
body_fits s own column style limit indent value cursor low high allowed some tidy read =
    flow_body s own column style limit indent value cursor refl some tidy read

-- Scalars

-- the rendered text of a scalar after the indicators of its place
abbrev pub render_styled : Effective → List TagDirective → Option Text → Option Text → (bare : Bool) → ScalarStyle → Option ℕ → ℕ → Text → Cursor → Rendered
render_styled s directives anchor tag bare style limit indent value cursor =
    render_then
    (render_then (render_properties s.portable directives anchor tag bare cursor) (render_separation style false value))
    (render_body style s limit indent value)

-- the cursor at which its body begins
abbrev pub body_cursor : Effective → List TagDirective → Option Text → Option Text → (bare : Bool) → ScalarStyle → Text → Cursor → Cursor
body_cursor s directives anchor tag bare style value cursor =
    (render_separation style false value (render_properties s.portable directives anchor tag bare cursor).cursor).cursor

-- a space precedes each body but an empty plain one
pub separation_text : (style : ScalarStyle) (value : Text) (cursor : Cursor) → (is_plain style && is_empty value) ≡ false
    → (render_separation style false value cursor).text ≡ space_if true cursor
separation_text style value cursor h = grind (arith, nat_tests, true≢false)

-- the text up to its last line's end
styled_closed : (s : Effective) (directives : List TagDirective) (anchor tag : Option Text) (bare : Bool) (style : ScalarStyle) (limit : Option ℕ)
    (indent : ℕ) (value : Text) (cursor : Cursor)
    → (is_plain style && is_empty value) ≡ false
    → closed (render_styled s directives anchor tag bare style limit indent value cursor)
    ≡ space_if true cursor ++ (lead anchor (tag_written s.portable directives tag bare)
    ++ closed (render_body style s limit indent value (body_cursor s directives anchor tag bare style value cursor)))
styled_closed s directives anchor tag bare style limit indent value cursor some = grind (arith, append_assoc, separation_text, lead_rendered)

-- a scalar whose body fits does
pub styled_fits : (s : Effective) (own directives : List TagDirective) (anchor tag : Option Text) (bare : Bool) (style : ScalarStyle) (limit : Option ℕ)
    (indent : ℕ) (value : Text)
    (place : Place) (cursor : Cursor) → IsNamed anchor → TagStands s.portable own directives
    tag → (bare ≡ true → is_plain style ≡ false) → (is_plain style && is_empty value) ≡ false
    → BodyFits (rules_of s own) place.column style value (render_body style s limit indent value (body_cursor s directives anchor tag bare style value cursor))
    → (let rendered = render_styled s directives anchor tag bare style limit indent value cursor in
    FitsOr (rules_of s own) 1 rendered (scalar_in anchor tag style bare value) place cursor (rendered.cursor.indention && header_open_ended value == 2))
styled_fits s own directives anchor tag bare style limit indent value place cursor named stands meant some body =
    let rules = rules_of s own in
    let rendered = render_styled s directives anchor tag bare style limit indent value cursor in
    let written = tag_written s.portable directives tag bare in
    let given : Given rules anchor written (tag_meant tag bare) =
    record { named = named; tagged = tag_is_written s.portable own directives tag bare stands } in
    let text = closed (render_body style s limit indent value (body_cursor s directives anchor tag bare style value cursor)) in
    let before = lead anchor written in
    let count = before_count cursor.whitespace in
    let same : closed rendered ≡ spaces count ++ (before ++ text) =
    styled_closed s directives anchor tag bare style limit indent value cursor some ∙ ap (λ t. t ++ (before ++ text)) (before_spaces cursor.whitespace) in
    sparing (keeps_breaks text) (rendered.cursor.indention && header_open_ended value == 2) body.drops
    (text_node rules rendered place cursor count (before ++ text) (scalar_in anchor tag style bare value) (keeps_breaks text) same
    (ap (is_closed rules.breaks12)
    (same ∙ ap (λ t. spaces count ++ (before ++ t)) body.own.is ∙ sym (append_assoc (spaces count) before (body.own.head ∷ body.own.tail)))
    ∙ closed_behind rules.breaks12 (spaces count ++ before) body.own.head body.own.tail (ap (is_closed rules.breaks12) (sym body.own.is) ∙ body.ends))
    body.settled (before_some cursor.whitespace) (own_reads rules place.column text value style anchor written tag bare body.own given meant))
