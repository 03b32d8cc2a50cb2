-- How many collections of a document are open, event by event.
use Rattle.yaml_serde.proofs.Common.{ℕ, ◌<◌, ◌≤◌, length, take, Bool, List, [], ◌++◌, ◌∷◌, refl, ◌≡◌, append_assoc, ap, subst, sym}
use Rattle.yaml_serde.proofs.Common.{◌∙◌, arith, Event, WriterState}
use Rattle.yaml_base.proofs.Common.{inl, inr, length-append}
use Rattle.std.{proofs.Math.Seq.take-append_seam, proofs.Math.Seq.take-append-add, proofs.Math.Seq.take-length}
use Rattle.std.{proofs.lemmas.Bool.cases_lt, proofs.lemmas.List.length-take, proofs.lemmas.List.take-append-le, proofs.lemmas.List.take_all, specs.Prelude.◌+◌, specs.Prelude.◌-◌}
use Rattle.yaml_base.specs.declared.kinds.CollectionKind.{CollectionKind}
use Rattle.yaml_base.specs.declared.kinds.CollectionKind.TheVariants.{Mapping, Sequence}
use Rattle.yaml_serde.specs.Documents.{IsScalarCall, null_call, bool_call, int_call, number_call, special_call, bytes_call, text_call}
use Rattle.yaml_serde.specs.Forms.{NestsWithin, begin_event}
use Rattle.yaml_writer.{proofs.Common.end_event, proofs.OpenLevels.levels_after-append, specs.WasGiven.levels_after, specs.WasGiven.levels_after_event}

-- ---- events

-- none
pub nests_none : (most : ℕ) → NestsWithin most []
nests_none most count =
    subst (λ (events : List Event). length (levels_after events []) ≤ most) (sym (take_all count [] (omega arith))) (omega arith)

-- all of them
pub nests_all : (most : ℕ) (events : List Event) → NestsWithin most events → length (levels_after events []) ≤ most
nests_all most events few = subst (λ (all : List Event). length (levels_after all []) ≤ most) (take-length events) (few (length events))

-- one more
pub nests_more : (most : ℕ) (events : List Event) (event : Event) → NestsWithin most events
    → length (levels_after_event event (levels_after events [])) ≤ most → NestsWithin most (events ++ event ∷ [])
nests_more most events event few last count = elim (cases_lt (length events) count) [
  | inl past ↦
      subst (λ (all : List Event). length (levels_after all []) ≤ most)
      (sym (take_all count (events ++ event ∷ []) (omega (arith, past, length-append events (event ∷ [])))))
      (subst (λ (levels : List CollectionKind). length levels ≤ most) (sym (levels_after-append events (event ∷ []) [])) last)
  | inr within ↦
      subst (λ (all : List Event). length (levels_after all []) ≤ most) (sym (take-append-le count events (event ∷ []) within)) (few count)
]

-- ---- one event

scalar_levels : {event : Event} → IsScalarCall event → (levels : List CollectionKind) → levels_after_event event levels ≡ levels
scalar_levels (null_call writer) levels = refl
scalar_levels (bool_call writer value) levels = refl
scalar_levels (int_call writer value) levels = refl
scalar_levels (number_call writer number is) levels = refl
scalar_levels (special_call writer value) levels = refl
scalar_levels (bytes_call writer value) levels = refl
scalar_levels (text_call writer text) levels = refl

begin_levels : (in_flow : Bool) (kind : CollectionKind) (writer : WriterState) (levels : List CollectionKind)
    → levels_after_event (begin_event in_flow kind writer) levels ≡ levels ++ kind ∷ []
begin_levels in_flow Mapping writer levels = refl
begin_levels in_flow Sequence writer levels = refl

end_levels : (kind : CollectionKind) (levels : List CollectionKind) → levels_after_event (end_event kind) levels ≡ take (length levels - 1) levels
end_levels Mapping levels = refl
end_levels Sequence levels = refl

module _ (most : ℕ) (outer : List CollectionKind) where
  -- after others, it leaves these open of those of the document, and no more than the most
  abbrev pub Leaves : Event → List CollectionKind → List CollectionKind → Type 0
  Leaves event before after = (own : List CollectionKind) → before ≡ outer ++ own → length own ≤ most
      → (after ≡ outer ++ levels_after_event event own) × (length (levels_after_event event own) ≤ most)

  leaves : (event : Event) (own : List CollectionKind) {after : List CollectionKind} (left : List CollectionKind) → levels_after_event event own ≡ left → after ≡ outer ++ left
      → length left ≤ most → (after ≡ outer ++ levels_after_event event own) × (length (levels_after_event event own) ≤ most)
  leaves event own left is after few =
      (after ∙ ap (λ (levels : List CollectionKind). outer ++ levels) (sym is), subst (λ (levels : List CollectionKind). length levels ≤ most) (sym is) few)

  pub leaves_scalar : {event : Event} {before after : List CollectionKind} → IsScalarCall event → after ≡ before → Leaves event before after
  leaves_scalar {event} call same own is few = leaves event own own (scalar_levels call own) (same ∙ is) few

  pub leaves_begin : (in_flow : Bool) (kind : CollectionKind) (writer : WriterState) {before after : List CollectionKind}
      → length before < length outer + most → after ≡ before ++ kind ∷ [] → Leaves (begin_event in_flow kind writer) before after
  leaves_begin in_flow kind writer {before} {after} room more own is few =
      leaves (begin_event in_flow kind writer) own (own ++ kind ∷ []) (begin_levels in_flow kind writer own)
      (more ∙ ap (λ (levels : List CollectionKind). levels ++ kind ∷ []) is ∙ append_assoc outer own (kind ∷ []))
      (omega (arith, room, ap length is, length-append outer own, length-append own (kind ∷ [])))

  pub leaves_end : (kind : CollectionKind) {before after : List CollectionKind} → length outer < length before → before ≡ after ++ kind ∷ []
      → Leaves (end_event kind) before after
  leaves_end kind {before} {after} inner last own is few =
      let less : length outer + (length own - 1) ≡ length after =
      omega (arith, inner, ap length is, ap length last, length-append outer own, length-append after (kind ∷ [])) in
      leaves (end_event kind) own (take (length own - 1) own) (end_levels kind own)
      (sym (take-append_seam after (kind ∷ [])) ∙ ap (λ (all : List CollectionKind). take (length after) all) (sym last ∙ is)
      ∙ ap (λ (count : ℕ). take count (outer ++ own)) (sym less) ∙ take-append-add outer own (length own - 1))
      (omega (arith, few, length-take (length own - 1) own))
