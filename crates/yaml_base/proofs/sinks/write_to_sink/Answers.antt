use Rattle.yaml_base.proofs.Common.{ℕ, ◌-◌, List, ◌++◌, ◌≡◌, length, take, ap, ◌∙◌, append_assoc}
use Rattle.std.proofs.{Common.drop, Common.take-append-drop, KnownBytes.Appends-trans, lemmas.List.take_rest}
use Rattle.yaml_base.proofs.sinks.write_to_sink.Goals as goal

-- the first bytes of the rest were given, too
moves_on : (done rest all : List ℕ) (count : ℕ) → done ++ rest ≡ all → (done ++ take count rest) ++ take (length rest - count) (drop count rest) ≡ all
moves_on done rest all count parts =
    ap (λ left. (done ++ take count rest) ++ left) (take_rest rest count) ∙ append_assoc done (take count rest) (drop count rest)
    ∙ ap (λ left. done ++ left) (take-append-drop count rest) ∙ parts

pub writes-preserved-in-Ok : goal.writes-preserved-in-Ok
writes-preserved-in-Ok g c =
    let (done, parts, appended) = c.writes.invariant in
    let count = c.in-Ok.count in
    (done ++ take count c.writes.rest.now, moves_on done c.writes.rest.now _ count parts, Appends-trans _ _ _ done _ appended c.in-Ok.ensures.bytes)
