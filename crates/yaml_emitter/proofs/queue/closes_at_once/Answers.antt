use Rattle.yaml_emitter.proofs.Common.{Some, None, sym, Bool, List, [], map, ◌∷◌, refl, ◌≡◌, ap, ◌∙◌, seen_event, Event}
use Rattle.yaml_emitter.proofs.Common.{sequence_start, sequence_end, mapping_start, mapping_end, closes_at_once}
use Rattle.std.specs.Prelude.{◌++◌, slice_get}
use Rattle.yaml_emitter.specs.Processing.{ends_sequence, ends_mapping}
use Rattle.yaml_emitter.proofs.queue.closes_at_once.Goals.{in-Some, in-None}
use Rattle.yaml_emitter.proofs.queue.closes_at_once.Goals as goal

-- only the first of the events that follow counts
by_first-sequence : (next : Event) (rest : List Event) → ends_sequence (next ∷ []) ≡ ends_sequence (next ∷ rest)
by_first-sequence sequence_end rest = refl
by_first-sequence next rest = refl

by_first-mapping : (next : Event) (rest : List Event) → ends_mapping (next ∷ []) ≡ ends_mapping (next ∷ rest)
by_first-mapping mapping_end rest = refl
by_first-mapping next rest = refl

by_first : (event next : Event) (rest : List Event) → closes_at_once event (next ∷ []) ≡ closes_at_once event (next ∷ rest)
by_first (sequence_start start) next rest = by_first-sequence next rest
by_first (mapping_start start) next rest = by_first-mapping next rest
by_first event next rest = refl

behind_some : {E : Type 0} (seen : E → Event) (event : Event) (rest : List E) (last : Event) (next : E) {closes : Bool} → Some next ≡ slice_get rest 0
    → closes ≡ closes_at_once event (seen next ∷ []) → closes ≡ closes_at_once event (map seen rest ++ last ∷ [])
behind_some seen event [] last next is closes_is = cc
behind_some seen event (first ∷ rest) last next is closes_is =
    let same : next ≡ first = cc in
    closes_is ∙ ap (λ e. closes_at_once event (seen e ∷ [])) same ∙ by_first event (seen first) (map seen rest ++ last ∷ [])

behind_none : {E : Type 0} (seen : E → Event) (event : Event) (rest : List E) (last : Event) {closes : Bool} → None ≡ slice_get rest 0
    → closes ≡ closes_at_once event (last ∷ []) → closes ≡ closes_at_once event (map seen rest ++ last ∷ [])
behind_none seen event [] last is closes_is = closes_is
behind_none seen event (first ∷ rest) last is closes_is = cc

pub returns : goal.returns
returns g c = λ last is.
    let event = seen_event c.args.event.now in
    let rest = c.args.rest.now in
    elim c.match-first.branch [
      | in-Some w ↦
          behind_some seen_event event rest last w.in-Some.second.now w.in-Some.ensures.value
          (c.is_end_of.ensures (seen_event w.in-Some.second.now) (sym w.of-second.ensures ∙ sym w.second-is))
      | in-None w ↦ behind_none seen_event event rest last w.in-None.ensures.value (c.is_end_of.ensures last (is ∙ sym w.second-is))
    ]
