-- The events that the writer was given in the walk over the tokens of a value.
use Rattle.yaml_json.proofs.Common.{ℕ, ◌-◌, ◌<◌, length, take, Bool, List, [], ◌++◌, ◌∷◌, refl, ◌≡◌, append-nil, append_assoc, inl, inr, ap, subst, sym, ◌∙◌}
use Rattle.yaml_json.proofs.Common.{arith, Token, Event, BeginsWithinDepth, FailedHaving, token_events, tokens_events, LeavesOpen, IsScalar, opener, closer}
use Rattle.yaml_json.proofs.Common.{BeganValue, BeginFailed, BeganFirstValue, FirstFailed, IsBare, WroteEvent, start_event, IfSome, failure_of, WriterState}
use Rattle.yaml_json.proofs.Common.{end_event, GaveEvent, with_collection, Ok, EndsInnermost, gave_same, yaml_error_t, Memory, CollectionKind, Mapping}
use Rattle.yaml_json.proofs.Common.{Sequence, FailsAt, GaveEvents, levels_after, levels_after_event, Stop, ReadsNone, GaveTokens, StepFailed}
use Rattle.std.proofs.Math.Seq.{take-append_seam}
use Rattle.yaml_json.proofs.{Stopping.if_some, Stops.unread_memory, Stops.gave_no_more, TokenLemmas.some_then}
use Rattle.yaml_json.proofs.Walking.{longer, closed_stands, closes_value, value_begins, awaiting_item, awaiting_named, next_stands}
use Rattle.yaml_json.specs.Walk.{GivesTaken, FailsGiving, WalkedOn}
use Rattle.yaml_writer.proofs.GivenLemmas.{ended}
use Rattle.yaml_writer.proofs.OpenLevels.{gave_event, gave_events_then, gave_none, levels_after-append, levels_after_end, levels_after_start}

-- ---- the writer

pub stood_nothing : (in_flow : Bool) (was : WriterState) → IsBare was → GaveTokens in_flow was [] [] was
stood_nothing in_flow was bare = record { gave = gave_none was bare; opened = sym (append-nil was.levels) }

-- One token more has one event more.
events_on : (canonical in_flow : Bool) (so : List Token) (token : Token) (event : Event) → token_events canonical in_flow token ≡ event ∷ []
    → tokens_events canonical in_flow so ++ event ∷ [] ≡ tokens_events canonical in_flow (so ++ token ∷ [])
events_on canonical in_flow so token event is =
    ap (λ (events : List Event). tokens_events canonical in_flow so ++ (events ++ [])) (sym is) ∙ sym (some_then canonical in_flow so (token ∷ []))

given_on : (in_flow : Bool) (was now later : WriterState) (so : List Token) (token : Token) (event : Event)
    → GaveEvents was (tokens_events was.canonical in_flow so) now → token_events was.canonical in_flow token ≡ event ∷ []
    → GaveEvents now (event ∷ []) later → GaveEvents was (tokens_events was.canonical in_flow (so ++ token ∷ [])) later
given_on in_flow was now later so token event one is other =
    gave_same was later (tokens_events was.canonical in_flow so ++ event ∷ []) (tokens_events was.canonical in_flow (so ++ token ∷ []))
    (events_on was.canonical in_flow so token event is) (gave_events_then was now later (tokens_events was.canonical in_flow so) (event ∷ []) one other)

open_on : (in_flow : Bool) (was : WriterState) (so : List Token) (token : Token) (event : Event) (levels opened : List CollectionKind)
    → levels_after (tokens_events was.canonical in_flow so) was.levels ≡ was.levels ++ levels → token_events was.canonical in_flow token ≡ event ∷ []
    → levels_after_event event (was.levels ++ levels) ≡ was.levels ++ opened
    → levels_after (tokens_events was.canonical in_flow (so ++ token ∷ [])) was.levels ≡ was.levels ++ opened
open_on in_flow was so token event levels opened one is next =
    ap (λ (events : List Event). levels_after events was.levels) (sym (events_on was.canonical in_flow so token event is))
    ∙ levels_after-append (tokens_events was.canonical in_flow so) (event ∷ []) was.levels ∙ ap (levels_after_event event) one ∙ next

-- The token of a scalar or a key opens no collection and closes none.
abbrev pub KeepsLevels : Token → Type 0
KeepsLevels token = (canonical in_flow : Bool) (levels : List CollectionKind) → levels_after (token_events canonical in_flow token) levels ≡ levels

pub scalar_keeps : (token : Token) → IsScalar token → KeepsLevels token
scalar_keeps (Token.string text) is canonical in_flow levels = refl
scalar_keeps (Token.number text) is canonical in_flow levels = refl
scalar_keeps (Token.boolean flag) is canonical in_flow levels = refl
scalar_keeps Token.null is canonical in_flow levels = refl
scalar_keeps _ is canonical in_flow levels = absurd is

pub event_keeps : (in_flow : Bool) (token : Token) (event : Bool → Event) → KeepsLevels token
    → ((canonical : Bool) → token_events canonical in_flow token ≡ event canonical ∷ []) → (canonical : Bool) (levels : List CollectionKind)
    → levels_after_event (event canonical) levels ≡ levels
event_keeps in_flow token event keeps is canonical levels =
    sym (ap (λ (events : List Event). levels_after events levels) (is canonical)) ∙ keeps canonical in_flow levels

-- a scalar, or a key: its event depends on the writer by its form alone
pub gives_scalar : (in_flow : Bool) (levels : List CollectionKind) (before after : WriterState) (token : Token) (event : Bool → Event) → KeepsLevels token
    → ((canonical : Bool) → token_events canonical in_flow token ≡ event canonical ∷ []) → WroteEvent before (event before.canonical) after
    → GivesTaken in_flow levels before (token ∷ []) levels after
gives_scalar in_flow levels before after token event keeps is wrote was so stood =
    let e = event before.canonical in
    let keeps_levels = event_keeps in_flow token event keeps is before.canonical in
    let events = is was.canonical ∙ ap (λ c. event c ∷ []) (sym stood.gave.canonical) in
    record {
      gave = given_on in_flow was before after so token e stood.gave events
          (record { emits = wrote.emits; canonical = wrote.canonical; levels = wrote.levels ∙ sym (keeps_levels before.levels); bare = wrote.bare });
      opened = open_on in_flow was so token e levels levels stood.opened events (keeps_levels (was.levels ++ levels));
    }

-- a collection begins
opener_events : (kind : CollectionKind) (canonical in_flow : Bool) → token_events canonical in_flow (opener kind) ≡ start_event in_flow kind ∷ []
opener_events Sequence canonical in_flow = refl
opener_events Mapping canonical in_flow = refl

pub gives_start : (in_flow : Bool) (levels : List CollectionKind) (before after : WriterState) (kind : CollectionKind)
    → GaveEvent (with_collection before kind) (start_event in_flow kind) (Ok tt) after
    → GivesTaken in_flow levels before (opener kind ∷ []) (levels ++ kind ∷ []) after
gives_start in_flow levels before after kind gave was so stood =
    let event = start_event in_flow kind in
    record {
      gave = given_on in_flow was before after so (opener kind) event stood.gave (opener_events kind was.canonical in_flow)
          (gave_event before (with_collection before kind) after event (Ok tt) refl refl (sym (levels_after_start in_flow kind before.levels)) gave);
      opened = open_on in_flow was so (opener kind) event levels (levels ++ kind ∷ []) stood.opened (opener_events kind was.canonical in_flow)
          (levels_after_start in_flow kind (was.levels ++ levels) ∙ append_assoc was.levels levels (kind ∷ []));
    }

-- the innermost ends
closer_events : (kind : CollectionKind) (canonical in_flow : Bool) → token_events canonical in_flow (closer kind) ≡ end_event kind ∷ []
closer_events Sequence canonical in_flow = refl
closer_events Mapping canonical in_flow = refl

-- these are open
pub open_levels : (in_flow : Bool) (was now : WriterState) (so : List Token) (outer : List CollectionKind) (kind : CollectionKind)
    → GaveTokens in_flow was so (outer ++ kind ∷ []) now → now.levels ≡ (was.levels ++ outer) ++ kind ∷ []
open_levels in_flow was now so outer kind stood = stood.gave.levels ∙ stood.opened ∙ sym (append_assoc was.levels outer (kind ∷ []))

pub gives_end : (in_flow : Bool) (outer : List CollectionKind) (before after : WriterState) (kind : CollectionKind)
    → EndsInnermost before (Ok tt) after → GivesTaken in_flow (outer ++ kind ∷ []) before (closer kind ∷ []) outer after
gives_end in_flow outer before after kind ends was so stood =
    let inside = open_levels in_flow was before so outer kind stood in
    let end = ended (was.levels ++ outer) kind before after inside stood.gave.bare ends in
    let left : levels_after_event (end_event kind) before.levels ≡ was.levels ++ outer =
    ap (levels_after_event (end_event kind)) inside ∙ levels_after_end kind (was.levels ++ outer) in
    record {
      gave = given_on in_flow was before after so (closer kind) (end_event kind) stood.gave (closer_events kind was.canonical in_flow)
          (record { emits = end.emits; canonical = end.canonical; levels = end.levels ∙ sym left; bare = end.bare });
      opened = open_on in_flow was so (closer kind) (end_event kind) (outer ++ kind ∷ []) outer stood.opened (closer_events kind was.canonical in_flow)
          (ap (levels_after_event (end_event kind)) (sym (append_assoc was.levels outer (kind ∷ []))) ∙ levels_after_end kind (was.levels ++ outer));
    }

-- ---- the writer fails

failed_on : (in_flow : Bool) (was now later : WriterState) (so : List Token) (token : Token) (event : Event) (error : yaml_error_t)
    → GaveEvents was (tokens_events was.canonical in_flow so) now → token_events was.canonical in_flow token ≡ event ∷ []
    → FailedHaving now (event ∷ []) error later → FailedHaving was (tokens_events was.canonical in_flow (so ++ token ∷ [])) error later
failed_on in_flow was now later so token event error one is failed =
    record { gave = given_on in_flow was now later so token event one is failed.gave; is_error = failed.is_error }

pub fails_event : (in_flow : Bool) (levels : List CollectionKind) (before after : WriterState) (token : Token) (event : Bool → Event)
    (error : yaml_error_t) → ((canonical : Bool) → token_events canonical in_flow token ≡ event canonical ∷ [])
    → FailsAt before (event before.canonical) error after → FailsGiving in_flow levels before (token ∷ []) error after
fails_event in_flow levels before after token event error is (inl memory) = inl memory
fails_event in_flow levels before after token event error is (inr gave) =
    inr (λ was so stood. failed_on in_flow was before after so token (event before.canonical) error stood.gave
    (is was.canonical ∙ ap (λ c. event c ∷ []) (sym stood.gave.canonical)) gave)

-- ---- one token

module _ (depth : ℕ) (in_flow : Bool) (levels : List CollectionKind) (before after : WriterState) where
  -- a scalar
  module _ (token : Token) (event : Bool → Event) (is : IsScalar token)
      (events : (canonical : Bool) → token_events canonical in_flow token ≡ event canonical ∷ []) where
    pub scalar_began : WroteEvent before (event before.canonical) after → BeganValue depth in_flow token levels before levels after
    scalar_began wrote = record { begins = inl (is, refl); gives = gives_scalar in_flow levels before after token event (scalar_keeps token is) events wrote }

    pub scalar_failed : (error : yaml_error_t) → FailsAt before (event before.canonical) error after → BeginFailed depth in_flow token levels before error after
    scalar_failed error failed =
        record { opened = levels; begins = inl (is, refl); fails = fails_event in_flow levels before after token event error events failed }

  -- a collection begins
  pub opener_began : (opened : List CollectionKind) (kind : CollectionKind) → length levels < depth → opened ≡ levels ++ kind ∷ []
      → GaveEvent (with_collection before kind) (start_event in_flow kind) (Ok tt) after → BeganValue depth in_flow (opener kind) levels before opened after
  opener_began opened kind fits is starts =
      record {
        begins = inr (kind, refl, fits, is);
        gives = subst (λ (all : List CollectionKind). GivesTaken in_flow levels before (opener kind ∷ []) all after) (sym is)
            (gives_start in_flow levels before after kind starts);
      }

  pub opener_failed : (kind : CollectionKind) → length levels < depth → (error : yaml_error_t) → FailsAt before (start_event in_flow kind) error after
      → BeginFailed depth in_flow (opener kind) levels before error after
  opener_failed kind fits error failed =
      record {
        opened = levels ++ kind ∷ [];
        begins = inr (kind, refl, fits, refl);
        fails = fails_event in_flow levels before after (opener kind) (λ canonical. start_event in_flow kind) error
            (λ canonical. opener_events kind canonical in_flow) failed;
      }

  pub opener_without_memory : (kind : CollectionKind) → length levels < depth → after ≡ before
      → BeginFailed depth in_flow (opener kind) levels before Memory after
  opener_without_memory kind fits same = record { opened = levels ++ kind ∷ []; begins = inr (kind, refl, fits, refl); fails = inl (refl, same) }

-- ---- one turn

pub innermost_gone : (levels outer new : List CollectionKind) (kind : CollectionKind) → levels ≡ outer ++ kind ∷ []
    → new ≡ take (length levels - 1) levels → new ≡ outer
innermost_gone levels outer new kind is rest =
    let e : length (outer ++ kind ∷ []) - 1 ≡ length outer = omega (arith, longer outer kind) in
    rest ∙ ap (λ (all : List CollectionKind). take (length all - 1) all) is ∙ ap (λ n. take n (outer ++ kind ∷ [])) e
    ∙ take-append_seam outer (kind ∷ [])

module _ (depth : ℕ) (in_flow : Bool) (ahead : List Token) (levels outer : List CollectionKind) (kind : CollectionKind)
    (is : levels ≡ outer ++ kind ∷ []) (before : WriterState) where
  -- a collection is closed
  pub step_closes : (after : List Token) (opened : List CollectionKind) (now : WriterState) → ahead ≡ closer kind ∷ after
      → opened ≡ take (length levels - 1) levels → EndsInnermost before (Ok tt) now → WalkedOn depth in_flow ahead levels before after opened now
  step_closes after opened now first rest ends =
      let same = innermost_gone levels outer opened kind is rest in
      record {
        taken = closer kind ∷ [];
        parts = first;
        shorter = omega (arith, ap length first);
        gives = subst (λ (all : List CollectionKind). GivesTaken in_flow all before (closer kind ∷ []) opened now) (sym is)
            (subst (λ (all : List CollectionKind). GivesTaken in_flow (outer ++ kind ∷ []) before (closer kind ∷ []) all now) (sym same)
            (gives_end in_flow outer before now kind ends));
        moves = λ so stands. subst (LeavesOpen depth (so ++ closer kind ∷ [])) (sym same)
            (closed_stands depth so outer kind (subst (LeavesOpen depth so) is stands));
      }

-- an allocation failed before anything was given
pub step_without_memory : (depth : ℕ) (in_flow : Bool) (ahead : List Token) (levels : List CollectionKind) (before now : WriterState) → now ≡ before
    → StepFailed depth in_flow ahead levels before Memory now
step_without_memory depth in_flow ahead levels before now same =
    record {
      taken = [];
      left = ahead;
      parts = refl;
      fails = λ was so stood. record { gave = gave_no_more in_flow levels before now same was so stood; is_error = inl refl };
      begins = λ so stands. subst (BeginsWithinDepth depth) (sym (append-nil so)) (value_begins depth so levels stands);
    }

-- A failure at the first token, or before it.
step_at_first : (depth : ℕ) (in_flow : Bool) (ahead : List Token) (levels : List CollectionKind) (before : WriterState) (token : Token)
    (after : List Token) (error : yaml_error_t) (now : WriterState) → ahead ≡ token ∷ after → FailsGiving in_flow levels before (token ∷ []) error now
    → ((so : List Token) → LeavesOpen depth so levels → BeginsWithinDepth depth (so ++ token ∷ [])) → StepFailed depth in_flow ahead levels before error now
step_at_first depth in_flow ahead levels before token after error now first (inl memory) begins =
    subst (λ (code : yaml_error_t). StepFailed depth in_flow ahead levels before code now) (sym memory.0)
    (step_without_memory depth in_flow ahead levels before now memory.1)
step_at_first depth in_flow ahead levels before token after error now first (inr fails) begins =
    record { taken = token ∷ []; left = after; parts = sym first; fails = fails; begins = begins }

-- the end of a collection fails
pub step_unclosed : (depth : ℕ) (in_flow : Bool) (ahead : List Token) (levels outer : List CollectionKind) (kind : CollectionKind)
    → levels ≡ outer ++ kind ∷ [] → (before : WriterState) (after : List Token) (error : yaml_error_t) (now : WriterState) → ahead ≡ closer kind ∷ after
    → FailsAt before (end_event kind) error now → StepFailed depth in_flow ahead levels before error now
step_unclosed depth in_flow ahead levels outer kind is before after error now first fails =
    step_at_first depth in_flow ahead levels before (closer kind) after error now first
    (fails_event in_flow levels before now (closer kind) (λ canonical. end_event kind) error (λ canonical. closer_events kind canonical in_flow) fails)
    (λ so stands. value_begins depth (so ++ closer kind ∷ []) outer (closed_stands depth so outer kind (subst (LeavesOpen depth so) is stands)))

-- or no token is read
pub step_unread : (depth : ℕ) (in_flow : Bool) (ahead : List Token) (levels : List CollectionKind) (before : WriterState) (stop : Stop)
    → ReadsNone ahead stop → IfSome (failure_of stop) (λ error. StepFailed depth in_flow ahead levels before error before)
step_unread depth in_flow ahead levels before stop none =
    if_some (failure_of stop) (λ error memory. subst (λ (code : yaml_error_t). StepFailed depth in_flow ahead levels before code before) (sym memory)
    (step_without_memory depth in_flow ahead levels before before refl)) (unread_memory ahead stop none)

-- an item begins
module _ (depth : ℕ) (in_flow : Bool) (levels outer : List CollectionKind) (is : levels ≡ outer ++ Sequence ∷ []) (token : Token)
    (isn't : token ≡ Token.end_array → ⊥) (before : WriterState) (ahead after : List Token) (first : ahead ≡ token ∷ after) where
  pub step_item : (opened : List CollectionKind) (now : WriterState) → BeganValue depth in_flow token levels before opened now
      → WalkedOn depth in_flow ahead levels before after opened now
  step_item opened now began =
      record {
        taken = token ∷ [];
        parts = first;
        shorter = omega (arith, ap length first);
        gives = began.gives;
        moves = λ so stands. next_stands depth so levels opened token after (awaiting_item depth so levels outer token after is stands isn't) began.begins;
      }

  pub step_no_item : (error : yaml_error_t) (now : WriterState) → BeginFailed depth in_flow token levels before error now
      → StepFailed depth in_flow ahead levels before error now
  step_no_item error now failed =
      step_at_first depth in_flow ahead levels before token after error now first failed.fails (λ so stands. value_begins depth (so ++ token ∷ []) failed.opened
      (next_stands depth so levels failed.opened token after (awaiting_item depth so levels outer token after is stands isn't) failed.begins))

-- two calls
gives_both : (in_flow : Bool) (levels between opened : List CollectionKind) (before middle now : WriterState) (one other : List Token)
    → GivesTaken in_flow levels before one between middle → GivesTaken in_flow between middle other opened now
    → GivesTaken in_flow levels before (one ++ other) opened now
gives_both in_flow levels between opened before middle now one other first second was so stood =
    subst (λ (all : List Token). GaveTokens in_flow was all opened now) (append_assoc so one other) (second was (so ++ one) (first was so stood))

-- a key, and the value after it begins
module _ (depth : ℕ) (in_flow : Bool) (levels outer : List CollectionKind) (is : levels ≡ outer ++ Mapping ∷ []) (key : List ℕ)
    (before : WriterState) (ahead inner : List Token) (first : ahead ≡ Token.key key ∷ inner) where
  named_begins : (so : List Token) → LeavesOpen depth so levels → BeginsWithinDepth depth (so ++ Token.key key ∷ [])
  named_begins so stands = closes_value depth (so ++ Token.key key ∷ []) (awaiting_named depth so levels outer key is stands inner).begins

  pub step_unnamed : (error : yaml_error_t) (now : WriterState) → FailsGiving in_flow levels before (Token.key key ∷ []) error now
      → StepFailed depth in_flow ahead levels before error now
  step_unnamed error now fails = step_at_first depth in_flow ahead levels before (Token.key key) inner error now first fails named_begins

  module _ (named : WriterState) (gave : GivesTaken in_flow levels before (Token.key key ∷ []) levels named) where
    pub step_member : (after : List Token) (opened : List CollectionKind) (now : WriterState)
        → BeganFirstValue depth in_flow inner levels named after opened now → WalkedOn depth in_flow ahead levels before after opened now
    step_member after opened now began =
        let whole : ahead ≡ Token.key key ∷ began.token ∷ after = first ∙ ap (λ (all : List Token). Token.key key ∷ all) began.first in
        record {
          taken = Token.key key ∷ began.token ∷ [];
          parts = whole;
          shorter = omega (arith, ap length whole);
          gives = gives_both in_flow levels levels opened before named now (Token.key key ∷ []) (began.token ∷ []) gave began.began.gives;
          moves = λ so stands. subst (λ (all : List Token). LeavesOpen depth all opened) (append_assoc so (Token.key key ∷ []) (began.token ∷ []))
              (next_stands depth (so ++ Token.key key ∷ []) levels opened began.token after
              (awaiting_named depth so levels outer key is stands (began.token ∷ after)) began.began.begins);
        }

    -- nothing follows the key
    step_named_only : (error : yaml_error_t) (now : WriterState) → error ≡ Memory → now ≡ named → StepFailed depth in_flow ahead levels before error now
    step_named_only error now memory same =
        record {
          taken = Token.key key ∷ [];
          left = inner;
          parts = sym first;
          fails = λ was so stood. record {
            gave = subst (GaveEvents was (tokens_events was.canonical in_flow (so ++ Token.key key ∷ []))) (sym same) (gave was so stood).gave;
            is_error = inl memory;
          };
          begins = named_begins;
        }

    step_valued : (error : yaml_error_t) (now : WriterState) (token : Token) (after : List Token) → inner ≡ token ∷ after
        → FailsGiving in_flow levels named (token ∷ []) error now
        → ((so : List Token) → LeavesOpen depth so levels → BeginsWithinDepth depth ((so ++ Token.key key ∷ []) ++ token ∷ []))
        → StepFailed depth in_flow ahead levels before error now
    step_valued error now token after next (inl memory) begins = step_named_only error now memory.0 memory.1
    step_valued error now token after next (inr fails) begins =
        record {
          taken = Token.key key ∷ token ∷ [];
          left = after;
          parts = sym (first ∙ ap (λ (all : List Token). Token.key key ∷ all) next);
          fails = λ was so stood. subst (λ (all : List Token). FailedHaving was (tokens_events was.canonical in_flow all) error now)
              (append_assoc so (Token.key key ∷ []) (token ∷ [])) (fails was (so ++ Token.key key ∷ []) (gave was so stood));
          begins = λ so stands. subst (BeginsWithinDepth depth) (append_assoc so (Token.key key ∷ []) (token ∷ [])) (begins so stands);
        }

    pub step_no_member : (error : yaml_error_t) (now : WriterState) → FirstFailed depth in_flow inner levels named error now
        → StepFailed depth in_flow ahead levels before error now
    step_no_member error now (inl memory) = step_named_only error now memory.0 memory.1
    step_no_member error now (inr failed) =
        step_valued error now failed.token failed.after failed.first failed.failed.fails
        (λ so stands. value_begins depth ((so ++ Token.key key ∷ []) ++ failed.token ∷ []) failed.failed.opened
        (next_stands depth (so ++ Token.key key ∷ []) levels failed.failed.opened failed.token failed.after
        (awaiting_named depth so levels outer key is stands (failed.token ∷ failed.after)) failed.failed.begins))
