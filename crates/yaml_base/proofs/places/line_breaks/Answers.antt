use Rattle.std.{proofs.lemmas.List.Sums.count_by-le-length, proofs.lemmas.List.Sums.sum_by-append, specs.List.count_by}
use Rattle.std.proofs.Common.{◌≡◌, ℕ, ◌+◌, cond, List, ◌++◌, ap, arith}
use Rattle.yaml_base.specs.values.LinesAndColumns.{is_line_feed}
use Rattle.yaml_base.proofs.places.line_breaks.Goals as goal

-- those of a block more are counted
block_counted : (count found : ℕ) (rest block later all : List ℕ) → count + count_by is_line_feed rest ≡ count_by is_line_feed all
    → rest ≡ block ++ later → found ≡ count_by is_line_feed block
    → (count + found) + count_by is_line_feed later ≡ count_by is_line_feed all
block_counted count found rest block later all so_far parts is =
    omega (arith, ap (count_by is_line_feed) parts, sum_by-append (λ byte. cond (is_line_feed byte) 1 0) block later)

pub overflow_add-count : goal.overflow_add-count
overflow_add-count c =
    let l = c.loop-block in
    let counted = block_counted l.count c.line_breaks_in_block.result l.block-iterator.rest.now c.in-Some.block.now c.next.new.self.rest.now
    c.args.bytes.now l.invariant.1 c.in-Some.ensures.steps.1.0 c.line_breaks_in_block.ensures in
    omega (arith, counted, count_by-le-length is_line_feed c.args.bytes.now)

pub loop-block-preserved : goal.loop-block-preserved
loop-block-preserved c =
    let l = c.loop-block in (
      omega arith,
      block_counted l.count c.line_breaks_in_block.result l.block-iterator.rest.now c.in-Some.block.now c.next.new.self.rest.now c.args.bytes.now
          l.invariant.1 c.in-Some.ensures.steps.1.0 c.line_breaks_in_block.ensures,
    )
