-- One document more of a stream: its directives, its `---` and its root, or a root without `---` at the stream's start.
use Rattle.yaml_base.proofs.Common.{ℕ, ◌==◌, is_some, Option, None, Some, codes, length, Bool, false, not, true, ◌&&◌, List, [], ◌++◌, ◌∷◌, refl, ◌≡◌}
use Rattle.yaml_base.proofs.Common.{eqb-true, append-nil, append_assoc, ap, subst, sym, ◌∙◌, arith, or_parts, false≢true, Text, line_feed, Version}
use Rattle.yaml_base.proofs.Common.{TagDirective, DocumentStart, has_directives, Effective, DocumentTree, start_marker, Section, Prologue, no_prologue}
use Rattle.yaml_base.proofs.stream_lines.{StreamClosed.lines_broken, StreamClosed.closed_both, StreamLineLaws.is_closed, StreamLineLaws.unbroken_line}
use Rattle.yaml_base.proofs.Common.{prologue_read, and-false, after_prologue, with_prologue, section_by_kind, lines_of}
use Rattle.yaml_base.proofs.{Common.without_skipped_lines, stream_lines.StreamSections.all_kept}
use Rattle.yaml_base.proofs.stream_documents.StreamRootsStand.{prologue_text, PrologueStands}
use Rattle.yaml_base.proofs.stream_documents.StreamSoFar.{WalkProgress, prefix_alone, one_more, Percents, percents_markerless, percents_shown, prefix_prologue}
use Rattle.yaml_base.specs.streams.StreamDocuments.{StreamPlace, after_root, document_read}

-- Ends

-- `...` on its line
abbrev pub dots : Text
dots = codes "..." ++ (line_feed ∷ [])

-- before the first document, and after one whose end is written, there may be directives, which belong to the next `---`; after another document its
-- root is read
abbrev pub Awaits : (breaks12 : Bool) → ℕ → Text → List DocumentTree → (ended : Bool) → Type 0
Awaits breaks12 depth text documents true =
    (lines : Text) (parsed : Prologue) → is_closed breaks12 lines ≡ true → Percents (lines_of breaks12 lines)
    → prologue_read (lines_of breaks12 lines) ≡ Some parsed
    → WalkProgress breaks12 depth (text ++ lines) (record { documents = documents; place = after_prologue parsed })
Awaits breaks12 depth text documents false = WalkProgress breaks12 depth text (record { documents = documents; place = after_root })

-- so it is at a stream's start
pub awaits_first : (breaks12 : Bool) (depth : ℕ) → Awaits breaks12 depth [] [] true
awaits_first breaks12 depth = grind (arith, prefix_alone, percents_markerless, prefix_prologue)

-- and after `...`
pub awaits_ended : (breaks12 : Bool) (depth : ℕ) (text : Text) (documents : List DocumentTree)
    → WalkProgress breaks12 depth text (record { documents = documents; place = after_root })
    → Awaits breaks12 depth (text ++ dots) documents true
awaits_ended breaks12 depth text documents so = λ lines parsed ends percents reads.
    subst (λ t. WalkProgress breaks12 depth t (record { documents = documents; place = after_prologue parsed })) (sym (append_assoc text dots lines))
    (one_more breaks12 depth text _ _ _ _ _ so (closed_both breaks12 dots lines refl ends)
    (lines_broken breaks12 (codes "...") lines (unbroken_line breaks12 (codes "...") refl)) refl (percents_markerless (lines_of breaks12 lines) percents)
    (ap (λ ls. with_prologue documents (prologue_read (without_skipped_lines ls)))
    (all_kept (lines_of breaks12 lines) (percents_markerless (lines_of breaks12 lines) percents))
    ∙ ap (λ ls. with_prologue documents (prologue_read ls)) (percents_shown (lines_of breaks12 lines) percents) ∙ ap (with_prologue documents) reads))

-- Directives

-- the next `---` begins a document with this prologue
pub record BehindPrologue (breaks12 : Bool) (depth : ℕ) (text : Text) (documents : List DocumentTree) (prologue : Prologue) : Type 0 where
  pub place : StreamPlace
  pub so_far : WalkProgress breaks12 depth text (record { documents = documents; place = place })
  pub opens : (section : Section)
      → section_by_kind start_marker depth breaks12 documents place section ≡ document_read depth breaks12 documents prologue section

-- the version and the directives of a document's start
abbrev pub prologue_parsed : DocumentStart → Prologue
prologue_parsed start = record { version = start.version; directives = start.directives }

-- `...` if it is needed
abbrev pub dots_if : Bool → Text
dots_if true = dots
dots_if false = []

-- no directives
pub no_directives : (start : DocumentStart) → has_directives start ≡ false → (start.version ≡ None) × (start.directives ≡ [])
no_directives start h =
    let parts : (is_some start.version ≡ false) × (not (length start.directives == 0) ≡ false) =
    or_parts (is_some start.version) (not (length start.directives == 0)) h in
    (none start.version parts.0, empty start.directives parts.1)
  where
    none : (o : Option Version) → is_some o ≡ false → o ≡ None
    none None h = refl
    none (Some v) h = absurd (false≢true (sym h))

    empty : (l : List TagDirective) → not (length l == 0) ≡ false → l ≡ []
    empty [] h = refl
    empty (d ∷ l) h = absurd (by (length (d ∷ l) == 0) refl h)
      where
        by : (x : Bool) → (length (d ∷ l) == 0) ≡ x → not x ≡ false → ⊥
        by true e h = let same = eqb-true (length (d ∷ l)) 0 e in omega arith
        by false e h = false≢true (sym h)

-- are written as nothing
pub no_prologue_written : (s : Effective) (start : DocumentStart) → has_directives start ≡ false → prologue_text s start ≡ []
no_prologue_written s start h = grind (arith, no_directives)

-- and say nothing
pub nothing_parsed : (start : DocumentStart) → has_directives start ≡ false → no_prologue ≡ prologue_parsed start
nothing_parsed start h = grind (arith, no_directives)

-- the directives of a document, after `...` if the document before them is open
pub behind_prologue : (s : Effective) (depth : ℕ) (text : Text) (documents : List DocumentTree) (start : DocumentStart) (ended : Bool)
    → Awaits s.breaks12 depth text documents ended → PrologueStands s start
    → BehindPrologue s.breaks12 depth (text ++ (dots_if (has_directives start && not ended) ++ prologue_text s start)) documents (prologue_parsed start)
behind_prologue s depth text documents start true awaits stands =
    subst (λ x. BehindPrologue s.breaks12 depth (text ++ (dots_if x ++ prologue_text s start)) documents (prologue_parsed start))
    (sym (and-false (has_directives start)))
    (record {
      place = after_prologue (prologue_parsed start);
      so_far = awaits (prologue_text s start) (prologue_parsed start) stands.ends stands.percents stands.reads;
      opens = λ section. refl;
    })
behind_prologue s depth text documents start false awaits stands = by (has_directives start) refl
  where
    by : (x : Bool) → has_directives start ≡ x
        → BehindPrologue s.breaks12 depth (text ++ (dots_if (x && true) ++ prologue_text s start)) documents (prologue_parsed start)
    by true h =
        subst (λ t. BehindPrologue s.breaks12 depth t documents (prologue_parsed start)) (append_assoc text dots (prologue_text s start))
        (record {
          place = after_prologue (prologue_parsed start);
          so_far = awaits_ended s.breaks12 depth text documents awaits (prologue_text s start) (prologue_parsed start) stands.ends stands.percents stands.reads;
          opens = λ section. refl;
        })
    by false h =
        subst (λ t. BehindPrologue s.breaks12 depth t documents (prologue_parsed start))
        (sym (append-nil text) ∙ ap (λ t. text ++ t) (sym (no_prologue_written s start h)))
        (record {
          place = after_root;
          so_far = awaits;
          opens = λ section. ap (λ prologue. document_read depth s.breaks12 documents prologue section) (nothing_parsed start h);
        })
