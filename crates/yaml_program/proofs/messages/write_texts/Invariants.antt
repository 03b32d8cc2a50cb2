use Rattle.std.proofs.Common.{◌≤◌, ◌≡◌, flat_map, length, take}
use Rattle.std.specs.Io.KnownBytes.{Appends}
use Rattle.yaml_program.proofs.messages.write_texts.Given as goal

abbrev pub invariant-loop-text : goal.invariant-loop-text
invariant-loop-text g l =
    (l.text-index ≤ l.text-index-end) × (l.text-index-end ≡ length l.fn.texts)
    × Appends (g.W.Write.contents l.initial.sink) (g.W.Write.contents l.sink) (flat_map (λ text. text.now) (take l.text-index l.fn.texts))
