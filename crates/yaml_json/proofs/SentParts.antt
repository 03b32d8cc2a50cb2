-- The bytes of some texts that a sink was given, and why one of them stops the sending.
use Rattle.yaml_json.proofs.Common.{ℕ, Option, Bool, List, [], ◌++◌, ◌∷◌, refl, ◌≡◌, append-nil, ap, subst, sym, ◌∙◌, inl, flat_map-append, Appends, Json}
use Rattle.yaml_json.proofs.Common.{Event, Token, between, events_with_separators, json_events, WriterState, StopsInText, JsonError, HasPlaceWithin}
use Rattle.yaml_json.proofs.Common.{StreamError, StopsInPart, StopsPartAt}
use Rattle.std.specs.Prelude.{IsUtf8}
use Rattle.yaml_json.{proofs.TextStops.given_by, specs.Sent.GivesSink}
use Rattle.yaml_json.specs.declared.error.StreamError.TheVariants as faults

-- All bytes were given, whichever error there is.
pub gives_all : (error : StreamError) (before after : Option (List ℕ)) (bytes : List ℕ) → Appends before after bytes → GivesSink error before after bytes []
gives_all (faults.WriteFailed error) before after bytes appends = (
  [],
  record { rest = []; parts = refl },
  subst (λ (b : List ℕ). Appends before after b) (sym (append-nil bytes)) appends,
)
gives_all _ before after bytes appends = (refl, appends)

-- the events of some texts, after each of which a document begins, and one more
pub separated : (canonical in_flow : Bool) (parts : List (List ℕ × Json)) (last : List ℕ × Json)
    → events_with_separators canonical in_flow parts ++ (json_events canonical in_flow last.1 ++ between)
    ≡ events_with_separators canonical in_flow (parts ++ last ∷ [])
separated canonical in_flow parts last =
    ap (λ (events : List Event). events_with_separators canonical in_flow parts ++ events) (sym (append-nil (json_events canonical in_flow last.1 ++ between)))
    ∙ sym (flat_map-append (λ (part : List ℕ × Json). json_events canonical in_flow part.1 ++ between) parts (last ∷ []))

-- an error of a text is one of a part
pub part_stopped : (depth : ℕ) (unique in_flow : Bool) (text : List ℕ) (was : WriterState) (error : JsonError) (now : WriterState) → IsUtf8 text
    → StopsInText depth unique in_flow text was error now → HasPlaceWithin depth [] text (faults.Refused error)
    → StopsInPart depth unique in_flow [] text was (faults.Refused error) now
part_stopped depth unique in_flow text was error now readable stops place =
    record {
      taken = stops.taken;
      left = stops.left;
      split = stops.split;
      why = (stops.why, inl readable);
      place = place;
      gave = given_by depth unique in_flow text was now stops;
    }

-- and so of its place among others
pub part_placed : (depth : ℕ) (unique in_flow : Bool) (front text : List ℕ) (was : WriterState) (error placed : StreamError) (now : WriterState)
    → ((d : ℕ) (u : Bool) (all : List ℕ) (taken left : List Token) → StopsPartAt d u all taken left error → StopsPartAt d u all taken left placed)
    → (HasPlaceWithin depth [] text error → HasPlaceWithin depth front text placed)
    → StopsInPart depth unique in_flow [] text was error now → StopsInPart depth unique in_flow front text was placed now
part_placed depth unique in_flow front text was error placed now says moves stops =
    record {
      taken = stops.taken;
      left = stops.left;
      split = stops.split;
      why = says depth unique text stops.taken stops.left stops.why;
      place = moves stops.place;
      gave = stops.gave;
    }
