use Rattle.toml_ordered.proofs.Common.{◌≤◌, length, shadow, Utf8, table_firsts, EndsWith, ReadsUpTo, document_view}
use Rattle.toml_ordered.proofs.{Conflicts.KnowsFirsts, Turns.GoesOn}
use Rattle.toml_ordered.proofs.document.read_document.Given as goal

-- the text is read on from the document so far
abbrev pub invariant-lines : goal.invariant-lines
invariant-lines l =
    shadow (Utf8 l.rest) × (length l.rest ≤ length l.fn.text) × GoesOn l.fn.text (document_view l.read) l.rest
    × KnowsFirsts l.fn.text (table_firsts l.read.root) l.rest
    × ReadsUpTo l.fn.text (document_view l.read) l.rest × EndsWith l.fn.text l.rest

abbrev pub decreases-lines : goal.decreases-lines
decreases-lines l = length l.rest
