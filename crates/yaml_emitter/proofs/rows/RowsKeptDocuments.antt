-- Worked rows: two documents, and events after them. An output that keeps its flushed bytes begins with all bytes of the two, whatever
-- comes in the third: an event that is refused, a failure of memory, a limit that is passed. So it isn't empty.
use Rattle.yaml_emitter.proofs.Common.{ℕ, ◌≤◌, None, Some, codes, length, false, true, List, [], ◌++◌, ◌∷◌, refl, ◌≡◌, subst, arith, Text, any_style, Event}
use Rattle.yaml_emitter.proofs.Common.{DocumentStart, document_start, mapping_end, scalar_node, Document, Documents, no_documents, documents_and, settings_for}
use Rattle.yaml_emitter.proofs.Common.{bytes_written, pieces, IsPrefix, refusal, nothing_given, BeginsOutput, State, StaysFlushed, whole_documents, Option}
use Rattle.yaml_emitter.proofs.Common.{KeepsDocuments, stream_end, IsAcceptedPrefix, most_open, Promised}
use Rattle.yaml_base.specs.declared.errors.{yaml_error_t.yaml_error_t, yaml_error_t.TheVariants.ExpectedDocumentStart, yaml_error_t.TheVariants.ExpectedNode}
use Rattle.yaml_emitter.proofs.{AcceptedLists.few_open, standing.KeptDocuments.documents_kept}
use Rattle.yaml_emitter.specs.{KeptDocuments.DocumentsStay, KeptDocuments.KeepsAcceptedDocuments}

-- a start without directives
abbrev start : DocumentStart
start = record { version = None; directives = []; implicit = true }

-- a document of one text
abbrev letter : Text → Document
letter value =
    record {
      start = start;
      root = scalar_node
          (record { anchor = None; tag = None; value = value; plain_implicit = true; quoted_implicit = true; style = any_style });
      end_implicit = true;
    }

abbrev first : Documents
first = documents_and no_documents (letter (codes "a"))

-- two documents, and the start of a third
abbrev pub two : List Event
two = whole_documents None first (letter (codes "b"))

abbrev pub third : List Event
third = document_start start ∷ []

abbrev pub begun : List Event
begun = two ++ third

-- the text of the two
abbrev pub both : List ℕ
both = codes "a\n--- b\n"

two_bytes : (later : List Event)
    → bytes_written (settings_for nothing_given (two ++ later)) (pieces (settings_for nothing_given (two ++ later)) (two ++ later) (length two)) ≡ both
unfolding lib.Utf8.encode
two_bytes later = refl

-- the end of a mapping that wasn't begun is refused in the third document, whose start isn't
third_begins : refusal false two (document_start start) ≡ None
third_begins = refl

third_refused : refusal false begun mapping_end ≡ Some ExpectedNode
third_refused = refl

-- the two are in every output that keeps the documents
pub kept : (events later : List Event) (output : List ℕ) → events ≡ two ++ later → KeepsDocuments nothing_given events output → IsPrefix both output
kept events later output is keeps =
    let kept = subst (λ events. KeepsDocuments nothing_given events output) is keeps in
    subst (λ bytes. IsPrefix bytes output) (two_bytes later) (kept None first (letter (codes "b")) later refl)

-- and in every output that keeps the flushed bytes of the first events, if the two are among them
flushed : (later : List Event) (count : ℕ) (output : List ℕ) → length two ≤ count → StaysFlushed nothing_given (two ++ later) count output
    → IsPrefix both output
flushed later count output within stays = subst (λ bytes. IsPrefix bytes output) (two_bytes later) (stays (length two) within refl)

-- so in that of an emitter that stopped before the end of a mapping that wasn't begun, or at it, whatever its error is
stopped_before : (state : State) → BeginsOutput nothing_given (begun ++ mapping_end ∷ []) begun (length begun) state → IsPrefix both state.page.output
stopped_before state h = flushed (third ++ mapping_end ∷ []) (length begun) state.page.output (omega arith) h.flushed

stopped_within : (state : State) → BeginsOutput nothing_given (begun ++ mapping_end ∷ []) (begun ++ mapping_end ∷ []) (length begun) state
    → IsPrefix both state.page.output
stopped_within state h = flushed (third ++ mapping_end ∷ []) (length begun) state.page.output (omega arith) h.flushed

-- so that none is empty
pub not_empty : (output : List ℕ) → IsPrefix both output → output ≡ [] → ⊥
not_empty output begins empty = let is = (subst (IsPrefix both) empty begins).parts in cc

emptied_before : (state : State) → BeginsOutput nothing_given (begun ++ mapping_end ∷ []) begun (length begun) state → state.page.output ≡ [] → ⊥
emptied_before state h = not_empty state.page.output (stopped_before state h)

-- the two begin an accepted list
two_begin : IsAcceptedPrefix false two
two_begin =
    let few : 0 ≤ most_open = omega arith in
    let whole = two ++ stream_end ∷ [] in
    record {
      rest = stream_end ∷ [];
      accepted =
          record {
            stream = record { encoding = None; documents = documents_and first (letter (codes "b")) };
            is_stream = refl;
            sound = refl;
            shallow = λ prefix rest is. few_open most_open whole prefix rest (few, (few, (few, (few, (few, (few, (few, (few, few)))))))) is;
          };
    }

-- if the end of a mapping is refused right after them, the end of the second, which writes nothing, isn't the event refused: its
-- bytes are in the output
end_refused : refusal false two mapping_end ≡ Some ExpectedDocumentStart
end_refused = refl

refused_keeps : (state : State) → Promised nothing_given (two ++ mapping_end ∷ []) state → state.error ≡ Some ExpectedDocumentStart
    → IsPrefix both state.page.output
refused_keeps state promised is =
    let stay : KeepsAcceptedDocuments nothing_given (two ++ mapping_end ∷ []) state.page.output =
    subst (λ (error : Option yaml_error_t). DocumentsStay error nothing_given (two ++ mapping_end ∷ []) state) is
    (documents_kept nothing_given (two ++ mapping_end ∷ []) state promised) in
    subst (λ bytes. IsPrefix bytes state.page.output) (two_bytes (mapping_end ∷ []))
    (stay None first (letter (codes "b")) (mapping_end ∷ []) refl two_begin)

emptied_refused : (state : State) → Promised nothing_given (two ++ mapping_end ∷ []) state → state.error ≡ Some ExpectedDocumentStart
    → state.page.output ≡ [] → ⊥
emptied_refused state promised is = not_empty state.page.output (refused_keeps state promised is)
