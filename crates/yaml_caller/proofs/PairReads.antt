-- The promises of an emitter for a mapping of one text to another.
use Rattle.yaml_dump.proofs.Common.{EmitsEach}
use Rattle.yaml_caller.proofs.Common.{◌++◌, ◌∷◌, append_assoc, OnOk, IfErr, None, Result, Err, Ok, false, true, List, [], refl, ◌≡◌, subst, ◌∙◌, Text}
use Rattle.yaml_caller.proofs.Common.{any_style, block, Event, scalar_node, no_documents, documents_and, Stream}
use Rattle.yaml_caller.proofs.Common.{IsAccepted, agrees, stream_trees, portable_settings, pair_events, Promised, State}
use Rattle.yaml_dump.proofs.Emissions.{emits_promised, fails_error}
use Rattle.yaml_emitter.specs.Emits.{IsPromised}
use Rattle.yaml_pen.proofs.Writing.{none_from_result}
use Rattle.yaml_base.proofs.Common.{mapping_node, no_pairs, pairs_and}
use Rattle.std.{proofs.Common.lit≤}
use Rattle.yaml_base.specs.declared.errors.yaml_error_t.{yaml_error_t}
use Rattle.yaml_caller.{proofs.KnownStreams.whole, proofs.OnlyMemory.memory_or_limit, proofs.OnlyMemory.shallow}
use Rattle.yaml_caller.specs.Pair.{FailsPair}

abbrev pair_stream : (key value : Text) → Stream
pair_stream key value =
    record {
      encoding = None;
      documents =
          documents_and no_documents
          (record {
            start = record { version = None; directives = []; implicit = true };
            root =
                mapping_node (record { anchor = None; tag = None; implicit = true; style = block })
                (pairs_and no_pairs
                (scalar_node (record { anchor = None; tag = None; value = key; plain_implicit = true; quoted_implicit = true; style = any_style }))
                (scalar_node (record { anchor = None; tag = None; value = value; plain_implicit = true; quoted_implicit = true; style = any_style })));
            end_implicit = true;
          });
    }

-- whatever the texts are
accepted : (key value : Text) → IsAccepted false (pair_events key value)
accepted key value =
    record { stream = pair_stream key value; is_stream = refl; sound = refl; shallow = shallow (pair_events key value) (lit≤ tt) }

-- the result of emitting the events, by its answer
pub pair_emitted : (key value : Text) (events : List Event) (answer : Result (Unit {0}) yaml_error_t) (before state : State) → events ≡ pair_events key value
    → (before.events ≡ []) × (before.given ≡ portable_settings) → IsPromised state → EmitsEach before events answer state
    → OnOk answer (agrees false (pair_events key value) (stream_trees false state.page.output) ≡ true) × IfErr answer (FailsPair key value)
pair_emitted key value events (Ok done) before state is made promised all =
    let promised = subst (λ (events : List Event). Promised portable_settings events state) is
    (emits_promised all.emits promised portable_settings [] made.1 made.0) in
    ((whole portable_settings (pair_events key value) state refl refl promised (none_from_result state.error all.emits.answered)).reads_back refl, tt)
pair_emitted key value events (Err error) before state is made promised fails = (
  tt,
  memory_or_limit portable_settings (pair_events key value) (fails.earlier ++ fails.event ∷ []) fails.later state error (accepted key value)
      (append_assoc fails.earlier (fails.event ∷ []) fails.later ∙ fails.parts ∙ is)
      (emits_promised fails.emits promised portable_settings [] made.1 made.0) (fails_error fails),
)
