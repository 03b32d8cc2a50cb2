-- All that an emitter promises.
use Rattle.yaml_emitter.proofs.Common.{suc, zero, ℕ, ◌≤◌, IsSome, Option, None, Some, length, take, Bool, true, List, [], ◌++◌, ◌∷◌}
use Rattle.yaml_emitter.proofs.Common.{refl, ◌≡◌, length-take-le, ap, subst, sym, ◌∙◌, written_within, Text, encode, Event, stream_start}
use Rattle.yaml_emitter.proofs.Common.{stream_end, documents_events, Piece, encoding_asked, settings_for, text_written, last_flushes}
use Rattle.yaml_emitter.proofs.Common.{list_layout, pieces, written, IsAccepted, Settings, Effective, progress, reads_alike, HoldsRaw}
use Rattle.yaml_emitter.proofs.Common.{canonical_content, agrees, stream_trees, ends_stream, EndsExactly, Promised, HoldsPieces, StandsWithoutError}
use Rattle.yaml_emitter.proofs.Common.{MachineStands, StateStands, StandsAfter, State, machine_of, IsUncut, Page, encoded}
use Rattle.yaml_base.specs.declared.{errors.yaml_error_t.yaml_error_t}
use Rattle.yaml_emitter.proofs.{canonical.CanonicalOutput.output_reads}
use Rattle.yaml_emitter.proofs.{events_done.SeenTexts.values_of_texts, layouts.Meaning.meaning_is_kept, layouts.RawTexts.texts_hold_raw}
use Rattle.yaml_emitter.proofs.{layouts.StreamOutput.output_reads_back, layouts.StreamOutput.output_reads_by_either, layouts.TidyStreams.bodies_are_tidy}
use Rattle.yaml_emitter.proofs.{standing.PromisingRoom.promises_fits, standing.StandingEnds.all_written, standing.StandingEnds.promises_end}
use Rattle.yaml_emitter.proofs.{standing.StandingEnds.whole_text, standing.StandingFull.take-length, standing.StandingFull.promises_full}
use Rattle.yaml_emitter.proofs.standing.StandingPromises.{stands_well, promises_text, promises_held, promises_refusal, promises_output, promises_within}
use Rattle.yaml_emitter.specs.Promises.{bytes_of_some, HasAllBytes, IsWritten}

-- All that is flushed is the bytes of the pieces.
page_bytes : (prefix : List Event) (n : ℕ) (s : Effective) (rendered : List Piece) (text : Text) (page : Page) → length prefix ≡ n
    → HoldsPieces s prefix rendered page
    → page.text ≡ text → page.output ≡ encoded page → page.output ≡ bytes_of_some n (encode (Some s.encoding) text)
page_bytes [] zero s rendered text page count h is all = ap (λ (p : Page). p.output) h
page_bytes (event ∷ prefix) (suc n) s rendered text page count h is all = all ∙ ap (λ e. encode e page.text) h.0.encoding ∙ ap (encode (Some s.encoding)) is
page_bytes _ _ s rendered text page count h is all = cc

pub promises_bytes : (given : Settings) (all : List Event) (state : State) → StateStands given all state → state.error ≡ None
    → state.page.output ≡ encoded state.page → HasAllBytes given all state
promises_bytes given all state h none sound_output =
    let s = settings_for given all in
    let well : StandsWithoutError given all state.held (machine_of state) = stands_well given all state h none in
    page_bytes (take (written all) all) (written all) s (progress s all).pieces (text_written s (pieces s all (written all))) state.page
    (length-take-le (written all) all (written_within all)) well.progress.page (promises_text given all state h none) sound_output

-- A list that ends the stream is one more event, its end.
record EndsStream (all : List Event) : Type 0 where
  before : List Event
  parts : before ++ stream_end ∷ [] ≡ all

end_of : (all : List Event) → ends_stream all ≡ true → EndsStream all
end_of [] h = cc
end_of (stream_end ∷ []) h = record { before = []; parts = refl }
end_of (event ∷ []) h = cc
end_of (event ∷ next ∷ rest) h =
    let more = end_of (next ∷ rest) (later event h) in
    record { before = event ∷ more.before; parts = ap (λ l. event ∷ l) more.parts }
  where
    later : (event : Event) → ends_stream (event ∷ next ∷ rest) ≡ true → ends_stream (next ∷ rest) ≡ true
    later stream_end h = h
    later event h = h

promises_ends : (given : Settings) (all : List Event) (state : State) → StateStands given all state → ends_stream all ≡ true → EndsExactly given all state
promises_ends given all state h ends =
    let end = end_of all ends in
    subst (λ events. EndsExactly given events state) end.parts
    (promises_end given end.before state (subst (λ events. StateStands given events state) (sym end.parts) h))

-- The end of an accepted list flushes.
last_hands : (prefix : List Event) → last_flushes (prefix ++ stream_end ∷ []) ≡ true
last_hands (event ∷ next ∷ rest) = last_hands (next ∷ rest)
last_hands _ = refl

accepted_hands : (canonical : Bool) (all : List Event) → IsAccepted canonical all → last_flushes all ≡ true
accepted_hands canonical all accepted = ap last_flushes (sym accepted.is_stream)
    ∙ last_hands (stream_start accepted.stream.encoding ∷ documents_events accepted.stream.documents)

-- All bytes are the encoded text, once an event was written.
all_bytes : (prefix rest : List Event) (event : Event) (s : Effective) (rendered : List Piece) (text : Text) (page : Page) → prefix ≡ event ∷ rest
    → HoldsPieces s prefix rendered page → page.text ≡ text → page.output ≡ encoded page → page.output ≡ encode (Some s.encoding) text
all_bytes [] rest event s rendered text page is h same all = cc
all_bytes (first ∷ prefix) rest event s rendered text page is h same all =
    all ∙ ap (λ e. encode e page.text) h.0.encoding ∙ ap (encode (Some s.encoding)) same

promises_whole : (given : Settings) (all : List Event) (state : State) → StandsAfter given all state → state.error ≡ None → IsAccepted given.canonical all
    → IsWritten given all state
promises_whole given all state h none accepted =
    let whole = whole_text given all state h.so accepted none in
    let well : StandsWithoutError given all state.held (machine_of state) = stands_well given all state h.so none in
    let begins : take (written all) all ≡ all = ap (λ n. take n all) (all_written given.canonical all accepted) ∙ take-length all in
    let s = settings_for given all in
    let sound_output = well.progress.flushed_whole (ap last_flushes begins ∙ accepted_hands given.canonical all accepted) in
    let output = whole.output sound_output in
    let bytes =
    all_bytes (take (written all) all) (documents_events accepted.stream.documents ++ stream_end ∷ []) (stream_start accepted.stream.encoding) s
    (progress s all).pieces (text_written s (list_layout s all)) state.page (begins ∙ sym accepted.is_stream) well.progress.page whole.text sound_output
    in
    let uncut : IsUncut given all = subst (λ (bytes : List ℕ). length bytes ≤ given.limit) bytes (promises_within given all state h.so) in
    record {
      text = whole.text;
      output = output;
      means = meaning_is_kept given (encoding_asked all) all accepted (values_of_texts all h.texts);
      tidy = bodies_are_tidy given (encoding_asked all) all accepted;
      raw = subst (HoldsRaw (settings_for given all)) (sym whole.text) (texts_hold_raw given (encoding_asked all) all accepted);
      reads = λ canonical. ap (canonical_content given.breaks12) output
          ∙ output_reads given all (record { canonical = canonical; accepted = accepted; scalars = h.texts; uncut = uncut });
      uncut = uncut;
      reads_back = λ portable.
          ap (λ (bytes : List ℕ). agrees given.canonical all (stream_trees given.breaks12 bytes)) output
          ∙ output_reads_back given all (record { accepted = accepted; scalars = h.texts; portable = portable; uncut = uncut });
      reads_with_either_breaks = λ portable breaks12.
          ap (λ (bytes : List ℕ). agrees given.canonical all (stream_trees breaks12 bytes)) output
          ∙ output_reads_by_either given breaks12 all portable
          (record { accepted = accepted; scalars = h.texts; portable = ap (λ on. reads_alike on given.canonical all) portable; uncut = uncut });
    }

dropped_by : (error : Option yaml_error_t) (given : Settings) (all : List Event) (state : State)
    → MachineStands given all error state.held (machine_of state) → IsSome error
    → state.held ≡ []
dropped_by None given all state h some = cc
dropped_by (Some error) given all state h some = h.0

pub promised : (given : Settings) (all : List Event) (state : State) → StandsAfter given all state → Promised given all state
promised given all state h =
    record {
      text = promises_text given all state h.so;
      held = promises_held given all state h.so;
      dropped = dropped_by state.error given all state h.so;
      refused = λ error. promises_refusal given all state error h.so;
      output = promises_output given all state h.so;
      within = promises_within given all state h.so;
      full = promises_full given all state h.so;
      fits = promises_fits given all state h.so;
      flushed_whole = λ none hands. promises_bytes given all state h.so none ((stands_well given all state h.so none).progress.flushed_whole hands);
      ends = promises_ends given all state h.so;
      whole = promises_whole given all state h;
    }

-- If all bytes of the pieces are flushed, so are all of the text, and the page has no error.
page_encoded : (prefix : List Event) (n : ℕ) (s : Effective) (rendered : List Piece) (text : Text) (page : Page) → length prefix ≡ n
    → HoldsPieces s prefix rendered page
    → page.text ≡ text → page.output ≡ bytes_of_some n (encode (Some s.encoding) text) → page.output ≡ encoded page
page_encoded [] zero s rendered text page count h is all = all ∙ sym (ap (λ (p : Page). encoded p) h)
page_encoded (event ∷ prefix) (suc n) s rendered text page count h is all =
    all ∙ sym (ap (λ e. encode e page.text) h.0.encoding ∙ ap (encode (Some s.encoding)) is)
page_encoded _ _ s rendered text page count h is all = cc

page_unfailed : (prefix : List Event) (s : Effective) (rendered : List Piece) (page : Page) → HoldsPieces s prefix rendered page → page.error ≡ None
page_unfailed [] s rendered page h = ap (λ (p : Page). p.error) h
page_unfailed (event ∷ prefix) s rendered page h = h.2

pub stands_unfailed : (given : Settings) (all : List Event) (state : State) → StateStands given all state → state.error ≡ None → state.page.error ≡ None
stands_unfailed given all state h none =
    let well : StandsWithoutError given all state.held (machine_of state) = stands_well given all state h none in
    page_unfailed (take (written all) all) (settings_for given all) (progress (settings_for given all) all).pieces state.page well.progress.page

pub stands_encoded : (given : Settings) (all : List Event) (state : State) → StateStands given all state → state.error ≡ None → HasAllBytes given all state
    → state.page.output ≡ encoded state.page
stands_encoded given all state h none bytes =
    let s = settings_for given all in
    let well : StandsWithoutError given all state.held (machine_of state) = stands_well given all state h none in
    page_encoded (take (written all) all) (written all) s (progress s all).pieces (text_written s (pieces s all (written all))) state.page
    (length-take-le (written all) all (written_within all)) well.progress.page (promises_text given all state h none) bytes
