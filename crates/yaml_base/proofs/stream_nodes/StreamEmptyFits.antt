-- An empty plain scalar in a block, of which its anchor and tag are written or nothing, fits.
use Rattle.yaml_base.proofs.Common.{nat_tests, ◌||◌}
use Rattle.yaml_base.proofs.Common.{suc, zero, ℕ, ◌≤◌, if◌then◌else◌, option_map, Option, None, Some, Bool, false, true, not, List, [], ◌++◌, ◌∷◌}
use Rattle.yaml_base.proofs.Common.{refl, ◌≡◌, append-nil, append_assoc, ap, sym, ◌∙◌, arith, false≢true, Text, line_feed, Cursor, Rendered, render_nothing}
use Rattle.yaml_base.proofs.Common.{plain, TagDirective, render_properties, Place, Effective, ParsedTag, stood_plain, scalar_tree, Line, lines_of, spaces}
use Rattle.yaml_base.proofs.Common.{blanked, text_read, ReadsText, node_at, begins_properties, after_properties, text_or_properties, node_read, Rules}
use Rattle.yaml_base.proofs.{stream_flow.StreamFlowScalars.rules_of, stream_flow.StreamFlowWords.scalar_in, stream_lines.StreamCuts.none_not_some}
use Rattle.yaml_base.proofs.stream_lines.StreamInside.{skipped_blank}
use Rattle.yaml_base.proofs.{stream_lines.StreamInside.blank_spaces, stream_lines.StreamInside.blank_both, stream_lines.StreamLineLaws.is_closed}
use Rattle.yaml_base.proofs.{stream_nodes.StreamAgrees.tagging_in, stream_nodes.StreamBegun.begun_kind, stream_nodes.StreamFits.Fits}
use Rattle.yaml_base.proofs.stream_nodes.StreamFits.{FitsOr, sparing, with_blanks}
use Rattle.yaml_base.proofs.stream_lines.StreamBlanks.{blanks_after, blanks_read, blanks_skipped, closed_after, inside_after}
use Rattle.yaml_base.specs.CommentReading.{blanks, blank_text}
use Rattle.yaml_base.proofs.{stream_lines.StreamMarkerless.all_markerless, stream_lines.StreamSections.AreContent}
use Rattle.yaml_base.proofs.stream_lines.StreamInside.{Passes, inside_passes}
use Rattle.yaml_base.proofs.Common.{subst, LinesReader, without_skipped_lines}
use Rattle.yaml_base.proofs.stream_lines.{StreamTidyLaws.lines_after_first, StreamClosed.Settled}
use Rattle.yaml_base.proofs.{stream_nodes.StreamProperties.IsNamed, stream_nodes.StreamScalarsFit.render_styled, stream_nodes.StreamStands.TagStands}
use Rattle.yaml_base.proofs.Common.{no_properties, collection_tag_parsed, tagging_of}
use Rattle.yaml_base.proofs.stream_lines.StreamClosed.{closed, spaces_line, lines_broken}
use Rattle.yaml_base.proofs.stream_nodes.StreamLeafFits.{TextReads, text_node}
use Rattle.yaml_base.proofs.stream_nodes.StreamBlocks.{Said, BegunKind, unsaid, is_parsed, below_ends}

-- after an empty plain body white space has ended
abbrev pub emptied : Rendered → Rendered
emptied begun = record { text = (begun.text ++ []) ++ []; cursor = record { column = begun.cursor.column; whitespace = false; indention = false } }

-- if nothing is written but breaks
nothing_but : (rules : Rules) (place : Place) (cursor : Cursor) (own : Rendered) (count : ℕ) → Settled own.cursor
    → closed own ≡ line_feed ∷ blank_text count → Fits rules 1 own (scalar_in None None plain false []) place cursor
nothing_but rules place cursor own count settled same = record {
  settled = settled;
  ends = ap (is_closed rules.breaks12) same ∙ closed_after rules.breaks12 (line_feed ∷ []) count refl;
  opens = λ w. record {
    head = [];
    ending = line_feed ∷ [];
    rest = blanks count;
    is = ap (lines_of rules.breaks12) same ∙ blanks_after rules.breaks12 (line_feed ∷ []) count refl;
    symbol = refl;
  };
  inside = λ q d within. subst (Passes q d) (sym later) (inside_passes q d (blanks count) (inside_after q d [] count refl));
  within = λ c e. subst AreContent (sym later) (all_markerless false (blanks count) (inside_after false 0 [] count refl));
  reads = λ depth deep here k begins.
      ap (λ t. node_read depth rules here place.column (lines_of rules.breaks12 (spaces k ++ t))) same ∙ read depth deep here k;
}
  where
    later : lines_after_first (lines_of rules.breaks12 (closed own)) ≡ blanks count
    later = ap (λ t. lines_after_first (lines_of rules.breaks12 t)) same
        ∙ ap lines_after_first (blanks_after rules.breaks12 (line_feed ∷ []) count refl)

    read : (depth : ℕ) → 1 ≤ depth → (here : Bool) (k : ℕ)
        → node_read depth rules here place.column (lines_of rules.breaks12 (spaces k ++ (line_feed ∷ blank_text count)))
        ≡ Some (scalar_in None None plain false [])
    read zero deep here k = absurd (omega arith)
    read (suc depth) deep here k =
        let by : ReadsText = λ at text. text_or_properties (begins_properties text) rules (node_read depth rules) place.column at text in
        let line : Line = record { text = spaces k; ending = line_feed ∷ [] } in
        ap (node_read (suc depth) rules here place.column)
        (lines_broken rules.breaks12 (spaces k) (blank_text count) (spaces_line rules.breaks12 k) ∙ ap (λ ls. line ∷ ls) (blanks_read rules.breaks12 count))
        ∙ ap (λ x. node_at rules (node_read depth rules) by no_properties (here || x) (not x) (if x then without_skipped_lines (blanks count)
        else line ∷ blanks count)) (skipped_blank (spaces k) (blank_spaces k))
        ∙ ap (node_at rules (node_read depth rules) by no_properties (here || true) false) (blanks_skipped count)

-- if nothing is written
nothing_fits : (rules : Rules) (place : Place) (cursor : Cursor) (bars : Bool)
    → FitsOr rules 1 (emptied (render_nothing cursor)) (scalar_in None None plain false []) place cursor bars
nothing_fits rules place cursor bars = record {
  fits = nothing_but rules place cursor (emptied (render_nothing cursor)) 0 (λ h. absurd (false≢true h)) refl;
  spares = λ allowed count.
      nothing_but rules place cursor (with_blanks count (emptied (render_nothing cursor))) count (λ h. (refl, refl))
      (append-nil (line_feed ∷ blank_text count));
}

-- the properties give the scalar's tagging
empty_tagging : (read : Option ParsedTag) (tag : Option Text) → collection_tag_parsed read ≡ Some tag
    → tagging_of read stood_plain ≡ Some (tagging_in tag (record { style = plain; bare = false }))
empty_tagging read tag h = grind (arith, nat_tests, none_not_some)

-- the words of properties alone are read as the empty scalar
parsed_reads_nothing : (rules : Rules) (column : Option ℕ) (anchor tag : Option Text) (cursor : Cursor) (begun : Rendered)
    (parsed : Said rules anchor tag cursor begun)
    → TextReads rules column ((parsed.head ∷ parsed.tail) ++ (line_feed ∷ [])) (scalar_in anchor tag plain false []) false
parsed_reads_nothing rules column anchor tag cursor begun parsed = record {
  head = parsed.head;
  first = parsed.tail;
  ending = line_feed ∷ [];
  rest = [];
  is = lines_broken rules.breaks12 (parsed.head ∷ parsed.tail) [] parsed.one_line;
  shows = parsed.shows;
  kind = parsed.kind;
  deeper = λ c e. refl;
  read = λ reads at. read reads at [] refl;
  spares = λ allowed ends count reads at. read reads at (blanks count) (blanks_skipped count);
}
  where
    read : (reads : LinesReader) (at : ℕ) (rest : List Line) → without_skipped_lines rest ≡ []
        → text_or_properties (begins_properties (parsed.head ∷ parsed.tail)) rules reads column at (parsed.head ∷ parsed.tail) (line_feed ∷ []) rest
        ≡ Some (scalar_in anchor tag plain false [])
    read reads at rest none =
        let texts : ReadsText = λ at. text_read rules column parsed.read.properties in
        let line = blanked at parsed.read.text (line_feed ∷ []) in
        ap (λ x. text_or_properties x rules reads column at (parsed.head ∷ parsed.tail) (line_feed ∷ []) rest) parsed.begins
        ∙ ap (after_properties rules reads column at (line_feed ∷ []) rest) parsed.reads
        ∙ ap (λ x. node_at rules reads texts parsed.read.properties (false || x) (not x) (if x then without_skipped_lines rest else line ∷ rest))
        (skipped_blank (spaces at ++ parsed.read.text) (blank_both at parsed.read.text parsed.blank))
        ∙ ap (node_at rules reads texts parsed.read.properties true false) none
        ∙ ap (option_map (λ tagging. scalar_tree parsed.read.properties.anchor tagging [])) (empty_tagging parsed.read.properties.tag tag parsed.read_tag)
        ∙ ap (λ a. Some (scalar_tree a (tagging_in tag (record { style = plain; bare = false })) [])) parsed.anchor_read

-- so they fit
parsed_fits_nothing : (rules : Rules) (place : Place) (anchor tag : Option Text) (cursor : Cursor) (begun : Rendered) (bars : Bool)
    → Said rules anchor tag cursor begun → FitsOr rules 1 (emptied begun) (scalar_in anchor tag plain false []) place cursor bars
parsed_fits_nothing rules place anchor tag cursor begun bars parsed =
    let word = parsed.head ∷ parsed.tail in
    let same : closed (emptied begun) ≡ (spaces parsed.count ++ word) ++ (line_feed ∷ []) =
    ap (λ t. t ++ (line_feed ∷ [])) (append-nil (begun.text ++ []) ∙ append-nil begun.text ∙ parsed.text) in
    sparing false bars (λ h. refl) (text_node rules _ place cursor _ _ _ false (same ∙ append_assoc (spaces parsed.count) word (line_feed ∷ []))
    (ap (is_closed rules.breaks12) same ∙ below_ends _ (spaces parsed.count ++ word) [] refl) (λ h. absurd (false≢true h)) parsed.some
    (parsed_reads_nothing rules place.column anchor tag cursor begun parsed))

-- an empty plain scalar fits
pub empty_fits : (s : Effective) (own directives : List TagDirective) (anchor tag : Option Text) (limit : Option ℕ) (indent : ℕ) (place : Place)
    (cursor : Cursor) (bars : Bool)
    → IsNamed anchor → TagStands s.portable own directives tag
    → FitsOr (rules_of s own) 1 (render_styled s directives anchor tag false plain limit indent [] cursor) (scalar_in anchor tag plain false []) place
    cursor bars
empty_fits s own directives anchor tag limit indent place cursor bars named stands = by anchor tag (begun_kind s own directives anchor tag cursor named stands)
  where
    by : (anchor tag : Option Text) → BegunKind (rules_of s own) anchor tag cursor (render_properties s.portable directives anchor tag false cursor)
        → FitsOr (rules_of s own) 1 (emptied (render_properties s.portable directives anchor tag false cursor)) (scalar_in anchor tag plain false []) place
        cursor bars
    by None None kind = nothing_fits (rules_of s own) place cursor bars
    by anchor tag (is_parsed parsed) =
        parsed_fits_nothing (rules_of s own) place anchor tag cursor (render_properties s.portable directives anchor tag false cursor) bars parsed
    by (Some name) tag (unsaid no_anchor no_tag nothing) = absurd (none_not_some (sym no_anchor))
    by anchor (Some name) (unsaid no_anchor no_tag nothing) = absurd (none_not_some (sym no_tag))
