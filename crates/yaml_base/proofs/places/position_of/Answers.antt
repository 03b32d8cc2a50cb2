use Prim.Native.Nat.{min}
use Rattle.std.{proofs.lemmas.Bool.cases_lt, proofs.lemmas.List.take_all, specs.Fmt.is_char_start, specs.List.after_last, specs.List.count_by}
use Rattle.std.proofs.Common.{◌≡◌, ℕ, ◌+◌, List, length, take, inl, inr, sym, ap, ◌∙◌, arith}
use Rattle.yaml_base.specs.values.LinesAndColumns.{is_line_feed}
use Rattle.yaml_base.proofs.places.position_of.Goals as goal

-- an offset past the end is the end
up_to : (text : List ℕ) (offset end : ℕ) → end ≡ min offset (length text) → take end text ≡ take offset text
up_to text offset end is = elim (cases_lt offset (length text)) [
  | inl within ↦ ap (λ n. take n text) (omega (arith, is, within))
  | inr past ↦ take_all end text (omega (arith, is, past)) ∙ sym (take_all offset text past)
]

pub returns : goal.returns
returns c =
    let same = up_to c.args.text.now c.args.offset c.min.result c.min.ensures in
    record {
      line = ap (λ n. n + 1) (c.line_breaks.ensures ∙ ap (count_by is_line_feed) same);
      column = ap (λ n. n + 1) (c.last_line_characters.ensures
          ∙ ap (λ (before : List ℕ). count_by is_char_start (after_last is_line_feed before)) same);
    }
