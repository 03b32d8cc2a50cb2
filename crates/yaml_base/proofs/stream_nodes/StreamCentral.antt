-- The text of a collection's entries at a column reads as its tree.
use Rattle.yaml_base.proofs.Common.{ℕ, fold, Option, Some, Bool, false, true, List, [], ◌≡◌, append-nil, ap, sym, ◌∙◌, Text, Cursor, Rendered, Line, lines_of}
use Rattle.yaml_base.proofs.Common.{Indented, LinesReader, ReadsText, node_by_kind, node_read, Rules, Properties, collection_tag_parsed}
use Rattle.yaml_base.proofs.stream_nodes.StreamBlocks.{opened_reads, Block}
use Rattle.yaml_base.proofs.stream_nodes.StreamLaid.{Content, no_content, tree_of, held, entry_step, entries_kind, Laid}
use Rattle.yaml_base.{proofs.stream_lines.StreamInside.splits_alone, specs.streams.StreamLines.entries_at}

-- a collection is read by its kind, if its lines are these entries
pub read_by_kind : (q : Bool) (rules : Rules) (reads : LinesReader) (reads_text : ReadsText) (properties : Properties) (first : Bool) (line : Indented)
    (ending : Text) (rest lines : List Line) (entries : List (List Line)) (content : Content q) (tag : Option Text)
    → entries_at q line.column lines ≡ record { before = []; entries = entries }
    → fold (entry_step q rules reads line.column) (Some (held q (no_content q))) entries ≡ Some (held q content)
    → collection_tag_parsed properties.tag ≡ Some tag
    → node_by_kind (entries_kind q) rules reads reads_text properties true first line ending rest lines ≡ Some (tree_of q properties.anchor tag content)
read_by_kind true rules reads reads_text properties first line ending rest lines entries content tag split read parsed = simp (split, read, parsed)
read_by_kind false rules reads reads_text properties first line ending rest lines entries content tag split read parsed = simp (split, read, parsed)

-- the text of the items of a sequence, or of the pairs of a mapping, reads
pub laid_block : (q : Bool) (rules : Rules) (e : ℕ) (cursor : Cursor) (empty : Bool) (own : Rendered) (size : ℕ) (content : Content q)
    (all : Laid q rules e cursor empty own size content) → empty ≡ false → Block rules size e all.text (λ anchor tag. tree_of q anchor tag content)
laid_block q rules e cursor empty own size content all h =
    let lines = lines_of rules.breaks12 all.text in
    let entries = all.reads.entries in
    let opening = all.opened h in
    record {
      kind = entries_kind q;
      opened = opening;
      reads = λ depth deep reads_text properties first tag parsed.
          opened_reads rules (node_read depth rules) reads_text properties true first e lines (entries_kind q) opening
          ∙ read_by_kind q rules (node_read depth rules) reads_text properties first _ opening.ending opening.rest lines entries content tag
          (splits_alone q e lines entries all.reads.splits)
          (ap (fold (entry_step q rules (node_read depth rules) e) (Some (held q (no_content q)))) (sym (append-nil entries))
          ∙ all.reads.reads depth deep []) parsed;
    }
