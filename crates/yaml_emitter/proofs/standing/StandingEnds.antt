-- The promises of an emitter at the stream's end, and about a list that is written whole.
use Rattle.yaml_emitter.proofs.Common.{suc, zero, ℕ, ◌≤◌, option_and_then, Option, None, Some, drop, length, take, Bool, false, List, [], ◌++◌, ◌∷◌, refl, ◌≡◌}
use Rattle.yaml_emitter.proofs.Common.{take-append-drop, append-nil, append_assoc, ap, subst, sym, ◌∙◌, arith, stands_from_begins, pushed-append, stream_pushed}
use Rattle.yaml_emitter.proofs.Common.{prefix_is_partial, list_layout_steps, encode, cut, Event, stream_end, Stream, stream_events, at_item, at_key, at_value}
use Rattle.yaml_emitter.proofs.Common.{Partial, before_stream, within_document, after_stream, pushed, partial_of, first_standing, settings_for, text_written}
use Rattle.yaml_emitter.proofs.Common.{bytes_written, output_of, list_layout, written, IsAccepted, IsAcceptedPrefix, Settings, Effective, at_stream, steps}
use Rattle.yaml_emitter.proofs.Common.{State}
use Rattle.yaml_emitter.proofs.Common.{RefusedAt, EndsExactly, HoldsPiecesWith, StandsWithoutError, StateStands, machine_of, Page, encoded}
use Rattle.yaml_base.{proofs.QueueLaws.stream_written, specs.Grammar.between_documents, specs.declared.errors.yaml_error_t.yaml_error_t}
use Rattle.yaml_emitter.{proofs.standing.StandingFull.drop-all, proofs.standing.StandingFull.take-length, proofs.standing.StandingPromises.stands_well}
use Rattle.yaml_emitter.{proofs.standing.StandingPromises.promises_refusal, proofs.standing.StandingTexts.holds_text, specs.Promises.HasRoomAndMemory}

-- The stream's end.
finishes : (p q : Partial) → pushed p (stream_end ∷ []) ≡ Some q → (t : Stream) × (q ≡ after_stream t)
finishes (between_documents e d) q h =
    let t : Stream = record { encoding = e; documents = d } in
    let same : after_stream t ≡ q = cc in
    (t, sym same)
finishes (within_document e d s []) q h = cc
finishes (within_document e d s (at_item c items ∷ levels)) q h = cc
finishes (within_document e d s (at_key c pairs ∷ levels)) q h = cc
finishes (within_document e d s (at_value c pairs key ∷ levels)) q h = cc
finishes p q h = cc

nothing_after : (rest : List Event) (t : Stream) (q : Partial) → pushed (after_stream t) rest ≡ Some q → rest ≡ []
nothing_after [] t q h = refl
nothing_after (x ∷ rest) t q h = cc

pub whole_accepted : (canonical : Bool) (all : List Event) → IsAcceptedPrefix canonical (all ++ stream_end ∷ []) → IsAccepted canonical (all ++ stream_end ∷ [])
whole_accepted canonical all begins =
    let events = all ++ stream_end ∷ [] in
    let stands = stands_from_begins canonical events begins in
    let before = prefix_is_partial all (stream_end ∷ []) stands.partial stands.is_partial in
    let done = finishes before.0 stands.partial
    (ap (λ o. option_and_then (λ r. pushed r (stream_end ∷ [])) o) (sym before.1) ∙ sym (pushed-append all (stream_end ∷ []) before_stream)
    ∙ stands.is_partial) in
    let whole : partial_of (events ++ begins.rest) ≡ Some (after_stream begins.accepted.stream) = ap partial_of (sym begins.accepted.is_stream)
    ∙ stream_pushed begins.accepted.stream in
    let none : begins.rest ≡ [] =
    nothing_after begins.rest done.0 (after_stream begins.accepted.stream)
    (ap (λ o. option_and_then (λ r. pushed r begins.rest) o) (sym (stands.is_partial ∙ ap (λ p. Some p) done.1))
    ∙ sym (pushed-append events begins.rest before_stream) ∙ whole) in
    subst (IsAccepted canonical) (ap (λ rest. events ++ rest) none ∙ append-nil events) begins.accepted

pub all_taken : (given : Settings) (all : List Event) (state : State) → StandsWithoutError given all state.held (machine_of state) → state.held ≡ []
    → take (written all) all ≡ all
all_taken given all state h none =
    sym (append-nil (take (written all) all))
    ∙ ap (λ rest. take (written all) all ++ rest) (sym none ∙ h.held)
    ∙ take-append-drop (written all) all

pub all_written : (canonical : Bool) (all : List Event) → IsAccepted canonical all → written all ≡ length all
all_written canonical all accepted = ap written (sym accepted.is_stream) ∙ stream_written accepted.stream ∙ ap length accepted.is_stream

none_refused : (given : Settings) (all : List Event) (error : yaml_error_t) (state : State) → IsAccepted given.canonical all → RefusedAt given all error state
    → ⊥
none_refused given all error state accepted h =
    h.ends (record { rest = h.later; accepted = subst (IsAccepted given.canonical) (sym (append_assoc h.prefix (h.event ∷ []) h.later ∙ h.parts)) accepted })

no_error : (error : Option yaml_error_t) (given : Settings) (all : List Event) (state : State) → StateStands given all state → state.error ≡ error
    → HasRoomAndMemory error
    → IsAccepted given.canonical all → error ≡ None
no_error None given all state h is room accepted = refl
no_error (Some error) given all state h is room accepted = absurd
    (none_refused given all error state accepted (promises_refusal given all state error h is room))

pub promises_end : (given : Settings) (all : List Event) (state : State) → StateStands given (all ++ stream_end ∷ []) state
    → EndsExactly given (all ++ stream_end ∷ []) state
promises_end given all state h room =
    let events = all ++ stream_end ∷ [] in (
      (λ accepted.
          let none = no_error state.error given events state h refl room accepted in
          let well = stands_well given events state h none in
          (none, well.held ∙ ap (λ n. drop n events) (all_written given.canonical events accepted) ∙ drop-all events)),
      (λ whole.
          let well = stands_well given events state h whole.0 in
          whole_accepted given.canonical all (subst (IsAcceptedPrefix given.canonical) (all_taken given events state well whole.1) well.progress.stands)),
    )

-- An accepted list is written whole.
take-whole : (n : ℕ) (bytes : List ℕ) → length bytes ≤ n → take n bytes ≡ bytes
take-whole zero [] h = refl
take-whole (suc n) [] h = refl
take-whole zero (x ∷ bytes) h = absurd (omega (arith, h))
take-whole (suc n) (x ∷ bytes) h = ap (λ l. x ∷ l) (take-whole n bytes (omega (arith, h)))

whole_output : (prefix : List Event) (s : Effective) (follows : Bool) (page : Page) → (prefix ≡ [] → ⊥)
    → HoldsPiecesWith None s prefix (steps s follows prefix at_stream first_standing).pieces page → page.output ≡ encoded page
    → page.output ≡ cut s.limit (bytes_written s (steps s follows prefix at_stream first_standing).pieces)
whole_output [] s follows page some h all = absurd (some refl)
whole_output (x ∷ prefix) s follows page some h all =
    let bytes = bytes_written s (steps s follows (x ∷ prefix) at_stream first_standing).pieces in
    let is : page.output ≡ bytes = all ∙ ap (λ e. encode e page.text) h.0.encoding ∙ ap (encode (Some s.encoding)) h.1 in
    let within : length bytes ≤ s.limit = omega (arith, h.0.sound_output.within, h.0.limit, ap length is) in
    is ∙ sym (take-whole s.limit bytes within)

-- a list that is written whole: its text, and its output if all is flushed
pub record WrittenText (given : Settings) (all : List Event) (state : State) : Type 0 where
  pub text : state.page.text ≡ text_written (settings_for given all) (list_layout (settings_for given all) all)
  pub output : state.page.output ≡ encoded state.page → state.page.output ≡ output_of given all

pub whole_text : (given : Settings) (all : List Event) (state : State) → StateStands given all state → IsAccepted given.canonical all → state.error ≡ None
    → WrittenText given all state
whole_text given all state h accepted none =
    let s = settings_for given all in
    let well = stands_well given all state h none in
    let begins : take (written all) all ≡ all = ap (λ n. take n all) (all_written given.canonical all accepted) ∙ take-length all in
    let layout : list_layout s all ≡ (steps s false all at_stream first_standing).pieces =
    list_layout_steps all accepted.stream s (ap partial_of (sym accepted.is_stream) ∙ stream_pushed accepted.stream) in
    let page : HoldsPiecesWith None s all (steps s false all at_stream first_standing).pieces state.page =
    subst (λ prefix. HoldsPiecesWith None s prefix (steps s false prefix at_stream first_standing).pieces state.page) begins well.progress.page in
    record {
      text = holds_text all s false None state.page page ∙ ap (text_written s) (sym layout);
      output = (λ sound_output.
          whole_output all s false state.page (λ empty. let wrong : stream_events accepted.stream ≡ [] = accepted.is_stream ∙ empty in cc) page sound_output
          ∙ ap (λ pieces. cut s.limit (bytes_written s pieces)) (sym layout));
    }
