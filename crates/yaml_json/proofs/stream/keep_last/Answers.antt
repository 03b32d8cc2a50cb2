use Rattle.yaml_json.proofs.Common.{◌≡◌, ℕ, ◌+◌, ◌-◌, ◌≤◌, ◌++◌, List, refl, subst, drop, length, take, take_all, length-drop, ap, ◌∙◌, arith, IsPositionAfter}
use Rattle.std.{proofs.lemmas.List.Edits.take-paste, specs.List.copy_within}
use lib.Seq.{paste}
use Rattle.yaml_json.proofs.PlacesAfter.{moves_nothing, moves_on}
use Rattle.yaml_json.proofs.stream.keep_last.Goals as goal

-- The last bytes, which are moved to the front.
moved_last : (held moved later : List ℕ) (start end count : ℕ) → end ≡ length held → count ≤ length held → start ≡ length held - count
    → moved ≡ copy_within held start end 0 → later ≡ take count moved → later ≡ drop start held
moved_last held moved later start end count whole within first is cut =
    let rest : length (drop start held) ≡ count = omega (arith, within, first, length-drop start held) in
    let size : end - start ≡ count = omega (arith, whole, within, first) in
    let same : count ≡ 0 + count = omega arith in
    cut ∙ ap (λ n. take n moved) same ∙ ap (take (0 + count)) is ∙ ap (λ n. take (0 + count) (paste held 0 (drop start held) n)) size
    ∙ take-paste held 0 (drop start held) count (omega arith) (omega (arith, rest)) ∙ take_all count (drop start held) (omega (arith, rest))

pub returns-clause-place : goal.returns-clause-place
returns-clause-place g c =
    let held = c.args.incoming.now.held in
    let start = c.len.result - c.args.count in
    let whole : held.len ≡ length held.items = omega (arith, c.deref.ensures.len, ap length c.deref.ensures.value) in
    let first : c.len.result - c.args.count ≡ length held.items - c.args.count = omega (arith, whole, c.len.ensures) in
    moves_on _ _ _ _ _ _ (moved_last held.items c.copy_within.new.self.items c.truncate.new.self.items start held.len c.args.count whole c.requires first
    c.copy_within.ensures.items c.truncate.ensures.items) refl (λ front follows. subst (λ (t : List ℕ). IsPositionAfter (front ++ take start t)
    c.position_after-incoming.result) c.deref.ensures.value (c.position_after-incoming.ensures front follows))
