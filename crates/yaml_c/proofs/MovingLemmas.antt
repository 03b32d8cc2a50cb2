-- Bytes that are moved to a buffer part by part, the last part first.
use Rattle.std.proofs.Common.{ℕ, ◌+◌, ◌-◌, ◌≤◌, List, ◌++◌, drop, length, take, ◌≡◌, ap, sym, ◌∙◌, arith, append_assoc}
use Rattle.std.proofs.lemmas.List.{drop-append-le, drop-drop, drop_at, length-drop, length-take-le, take-append-drop}
use borrow.Rule.Slice.PartMut.{put_mid}
use Rattle.yaml_c.specs.Answers.{overwritten}

-- a list from a place on, cut in two
cut_in_two : (n start : ℕ) (xs : List ℕ) → n ≤ start → start ≤ length xs → drop n (take start xs) ++ drop start xs ≡ drop n xs
cut_in_two n start xs low within =
    let front : n ≤ length (take start xs) = omega (arith, length-take-le start xs within) in
    sym (drop-append-le n (take start xs) (drop start xs) front) ∙ ap (λ (ys : List ℕ). drop n ys) (take-append-drop start xs)

-- once the last part was moved, to move the others comes to the same as to move all
pub part_moved : (bytes out : List ℕ) (kept start : ℕ) → kept ≤ start → start ≤ length bytes → length bytes - kept ≤ length out
    → overwritten (drop kept (take start bytes)) (put_mid (start - kept) (length bytes - kept - (start - kept)) out (drop start bytes))
    ≡ overwritten (drop kept bytes) out
part_moved bytes out kept start low within fits =
    let n = start - kept in
    let m = length bytes - kept - n in
    let left = drop kept (take start bytes) in
    let part = drop start bytes in
    let behind = drop m (drop n out) in
    let before : length (take n out) ≡ length left =
    omega (arith, length-take-le n out, length-drop kept (take start bytes), length-take-le start bytes within) in
    let sum : n + m ≡ length (drop kept bytes) = omega (arith, length-drop kept bytes) in
    ap (λ (ys : List ℕ). left ++ ys) (drop_at (take n out) (part ++ behind) (length left) before)
    ∙ sym (append_assoc left part behind)
    ∙ ap (λ (ys : List ℕ). ys ++ behind) (cut_in_two kept start bytes low within)
    ∙ ap (λ (ys : List ℕ). drop kept bytes ++ ys) (drop-drop m n out ∙ ap (λ (k : ℕ). drop k out) sum)
