-- Canonical bytes read as the content of their list.
use Rattle.yaml_emitter.proofs.Common.{◌≤◌, if◌then◌else◌, ◌==◌, unwrap_or, option_map, option_and_then, Option, Some, Bool, false, true, List, [], ◌++◌, ◌∷◌}
use Rattle.yaml_emitter.proofs.Common.{refl, ◌≡◌, append-nil, ap, subst, sym, ◌∙◌, and_parts, and_from, list_all, all_scalars, tree_of-stream_events}
use Rattle.yaml_emitter.proofs.Common.{all_of_both, Text, line_feed, Event, stream_start, stream_end, Stream, documents_events, stream_events, layout, Piece}
use Rattle.yaml_emitter.proofs.Common.{text_of, break_text, with_breaks_written, has_scalar_texts, bytes_written, list_layout, IsAccepted, LineBreak}
use Rattle.yaml_emitter.proofs.Common.{carriage_return_break, Effective, effective, documents_read, canonical_content, free}
use Rattle.yaml_emitter.proofs.Common.{tokens_from, documents_content}
use lib.Utf8.{scalar}
use Rattle.yaml_base.{proofs.BreakLaws.breaks-round, proofs.stream_nodes.StreamNames.all_good, specs.Grammar.tree_of, specs.LineBreaks.with_line_breaks_read}
use Rattle.yaml_base.{specs.Meaning.CanonicalBytesRead, specs.reading.Content.content_of}
use Rattle.yaml_emitter.proofs.canonical.{CanonicalBytes.characters_back, CanonicalDocuments.stream_read, CanonicalPlaces.in_canonical}
use Rattle.yaml_emitter.proofs.canonical.{CanonicalStream.stream_says, CanonicalText.all_scalars-append, CanonicalTokens.documents_tokens}
use Rattle.yaml_emitter.proofs.canonical.CanonicalSound.{is_good_canonical, DocumentsOk, documents_ok, each_document}
use Rattle.yaml_emitter.proofs.layouts.Meaning.{is_indent}

-- line breaks are scalar values
written_scalars : (setting : LineBreak) (text : Text) → all_scalars text ≡ true → all_scalars (with_breaks_written setting text) ≡ true
written_scalars setting [] h = refl
written_scalars setting (c ∷ rest) h =
    let p : (scalar c ≡ true) × (all_scalars rest ≡ true) = and_parts _ _ h in
    all_scalars-append (if c == line_feed then break_text setting else c ∷ []) (with_breaks_written setting rest) (by (c == line_feed) p.0)
    (written_scalars setting rest p.1)
  where
    break_scalars : (given : LineBreak) → all_scalars (break_text given) ≡ true
    break_scalars carriage_return_break = refl
    break_scalars _ = refl

    by : (b : Bool) → scalar c ≡ true → all_scalars (if b then break_text setting else c ∷ []) ≡ true
    by true h = break_scalars setting
    by false h = and_from _ true h refl

good_stream : (stream : Stream) → list_all is_good_canonical (stream_events stream) ≡ true → DocumentsOk stream.documents
good_stream stream h =
    let rest : List Event = documents_events stream.documents ++ stream_end ∷ [] in
    let parts : (is_good_canonical (stream_start stream.encoding) ≡ true) × (list_all is_good_canonical rest ≡ true) = and_parts _ _ h in
    documents_ok stream.documents (all_of_both is_good_canonical (documents_events stream.documents) (stream_end ∷ []) parts.1).0

module _ (s : Effective) (wide : 2 ≤ s.indent) (stream : Stream) (ok : DocumentsOk stream.documents) where
  abbrev pieces : List Piece
  pieces = layout (in_canonical s) stream

  tokens_are : (breaks12 : Bool) → tokens_from breaks12 free (text_of pieces) ≡ documents_tokens s.portable stream.documents
  tokens_are breaks12 =
      ap (tokens_from breaks12 free) (sym (append-nil (text_of pieces)))
      ∙ (stream_says breaks12 s wide stream ok).reads [] tt ∙ append-nil (documents_tokens s.portable stream.documents)

  -- The bytes of a stream in canonical mode read as its documents.
  pub bytes_read : (breaks12 : Bool) → canonical_content breaks12 (bytes_written (in_canonical s) pieces) ≡ Some (documents_content stream.documents)
  bytes_read breaks12 =
      let parsed = stream_says breaks12 s wide stream ok in
      let written = with_breaks_written s.line_break (text_of pieces) in
      ap (option_and_then (λ text. documents_read (tokens_from breaks12 free (with_line_breaks_read text))))
      (characters_back s.encoding written (written_scalars s.line_break (text_of pieces) parsed.scalars))
      ∙ ap (λ text. documents_read (tokens_from breaks12 free text)) (breaks-round s.line_break (text_of pieces) parsed.rendered)
      ∙ ap documents_read (tokens_are breaks12)
      ∙ stream_read s.portable stream.documents (each_document s.portable stream.documents ok)

list_read : (s : Effective) (breaks12 : Bool) (events : List Event) → 2 ≤ s.indent → s.canonical ≡ true → IsAccepted true events
    → list_all has_scalar_texts events ≡ true
    → canonical_content breaks12 (bytes_written s (list_layout s events)) ≡ content_of events
list_read s breaks12 events wide e accepted texts =
    let stream = accepted.stream in
    let good : list_all is_good_canonical (stream_events stream) ≡ true =
    ap (list_all is_good_canonical) accepted.is_stream ∙ all_good true events accepted.sound texts in
    let same : s ≡ in_canonical s = ap (λ b. let made : Effective = record s { canonical = b } in made) e in
    let tree : tree_of events ≡ Some stream = ap tree_of (sym accepted.is_stream) ∙ tree_of-stream_events stream in
    let rendered : list_layout s events ≡ layout s stream = ap (λ (t : Option Stream). unwrap_or (option_map (layout s) t) []) tree in
    let content : content_of events ≡ Some (documents_content stream.documents) = ap (option_map (λ (t : Stream). documents_content t.documents)) tree in
    ap (λ (p : List Piece). canonical_content breaks12 (bytes_written s p)) rendered
    ∙ ap (λ (t : Effective). canonical_content breaks12 (bytes_written t (layout t stream))) same
    ∙ bytes_read s wide stream (good_stream stream good) breaks12
    ∙ sym content

pub canonical_bytes_read : CanonicalBytesRead
canonical_bytes_read given encoding events e accepted texts =
    list_read (effective given encoding) given.breaks12 events (is_indent given.indent).low e
    (subst (λ b. IsAccepted b events) e accepted) texts
