use Rattle.yaml_scalar.proofs.Common.{◌-◌, length, inl, inr, eqb-true, sym, ◌∙◌, arith}
use Rattle.std.proofs.{lemmas.Bool.cases_lt, lemmas.Simd.none_from_empty_mask}
use Rattle.yaml_scalar.specs.CleanBytes.{is_unclean}
use Rattle.yaml_scalar.proofs.clean_ascii.are_many_clean.Goals as goal

pub loop-place-preserved : goal.loop-place-preserved
loop-place-preserved c = (
  omega arith,
  λ k within. elim (cases_lt k c.loop-place.place) [
    | inl early ↦ c.loop-place.invariant.1 k early
    | inr late ↦ none_from_empty_mask is_unclean c.args.bytes.now c.loop-place.place 16 0 (omega arith) (sym c.unclean.ensures ∙ c.if-unclean-ne0.false)
        k late within
  ],
)

pub returns : goal.returns
returns c clean k within =
    let last = length c.args.bytes.now - 16 in
    elim (cases_lt k last) [
      | inl early ↦ c.loop-place.invariant.1 k (omega arith)
      | inr late ↦ none_from_empty_mask is_unclean c.args.bytes.now last 16 0 (omega arith) (sym c.unclean-2.ensures ∙ eqb-true _ _ clean) k late
          (omega arith)
    ]
