use Rattle.std.proofs.Common.{ℕ, ◌≡◌, List, [], drop, length, min, refl, ap, sym, ◌∙◌, arith}
use Rattle.std.proofs.lemmas.{Bool.le-leb, Bool.lt-leb, List.drop_all, List.drop_min, List.length-drop}
use Rattle.yaml_c.specs.Answers.{overwritten}
use Rattle.yaml_c.proofs.buffers.move_out.Goals as goal

pub returns-then-len-kept-clause-fits : goal.returns-then-len-kept-clause-fits
returns-then-len-kept-clause-fits g c =
    let items : List ℕ = c.args.bytes.items in
    let all : c.len.result ≡ length items = omega (arith, c.len.ensures, c.args.bytes.ok.0) in
    let left : c.len-2.result ≡ length items = omega (arith, c.len-2.ensures, c.args.bytes.ok.0) in
    sym
    (lt-leb (length (drop c.args.skip items)) (length c.args.out.now)
    (omega (arith, all, left, c.if-len-kept.true, c.min-kept.ensures, length-drop c.args.skip items)))

pub loop-bytes-init : goal.loop-bytes-init
loop-bytes-init g c =
    let all : c.len.result ≡ length c.args.bytes.items = omega (arith, c.len.ensures, c.args.bytes.ok.0) in
    let left : c.len-2.result ≡ length c.args.bytes.items = omega (arith, c.len-2.ensures, c.args.bytes.ok.0) in
    (omega (arith, all, c.min-kept.ensures), omega (arith, left, c.if-len-kept.false), refl)

pub loop-bytes-preserved : goal.loop-bytes-preserved
loop-bytes-preserved g c =
    let moved = c.move_last_part.ensures in
    let before = c.loop-bytes.invariant in
    (moved.kept, omega (arith, moved.shorter, before.1, c.move_last_part.auto.out), moved.moved ∙ before.2)

pub returns-clause-fits : goal.returns-clause-fits
returns-clause-fits g c =
    let items : List ℕ = c.args.bytes.items in
    let all : c.len.result ≡ length items = omega (arith, c.len.ensures, c.args.bytes.ok.0) in
    let left : c.len-2.result ≡ length items = omega (arith, c.len-2.ensures, c.args.bytes.ok.0) in
    sym
    (le-leb (length (drop c.args.skip items)) (length c.args.out.now)
    (omega (arith, all, left, c.if-len-kept.false, c.min-kept.ensures, length-drop c.args.skip items)))

pub returns-clause-bytes : goal.returns-clause-bytes
returns-clause-bytes g c =
    let items : List ℕ = c.args.bytes.items in
    let now = c.loop-bytes in
    let all : c.len.result ≡ length items = omega (arith, c.len.ensures, c.args.bytes.ok.0) in
    let kept : c.min-kept.result ≡ min c.args.skip (length items) = c.min-kept.ensures ∙ ap (min c.args.skip) all in
    let left : c.len-in-loop-bytes.result ≡ length now.bytes.items = omega (arith, c.len-in-loop-bytes.ensures, now.bytes.ok.0) in
    let none : drop c.min-kept.result now.bytes.items ≡ [] = drop_all c.min-kept.result now.bytes.items (omega (arith, left, c.loop-bytes-test.false)) in
    ap (λ (ys : List ℕ). overwritten ys now.out) (sym none)
    ∙ now.invariant.2
    ∙ ap (λ (ys : List ℕ). overwritten ys c.args.out.now) (ap (λ (n : ℕ). drop n items) kept ∙ drop_min c.args.skip items)
