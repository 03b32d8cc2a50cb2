use Rattle.yaml_pen.proofs.Common.{ℕ, ◌+◌, length, ap, sym, ◌∙◌, arith}
use Rattle.yaml_pen.proofs.Outlets.{whole_length, hands_on}
use Rattle.yaml_pen.proofs.outlet.flush_after_taken.Goals as goal

pub overflow_sub-limit : goal.overflow_sub-limit
overflow_sub-limit g c = omega (arith, c.requires.within, c.requires.counted, whole_length c.args.taken.now.bytes c.args.output.now.items)

pub flush_buffer-requires : goal.flush_buffer-requires
flush_buffer-requires g c = omega (arith, c.requires.within, c.requires.counted, whole_length c.args.taken.now.bytes c.args.output.now.items)

pub returns-clause-sound_output : goal.returns-clause-sound_output
returns-clause-sound_output g c =
    hands_on c.args.buffer.now c.args.taken.now.bytes c.args.output.now.items c.flush_buffer.new.output.items c.args.taken_count c.args.limit
    c.flush_buffer.result
    c.requires.counted c.requires.within c.flush_buffer.ensures

pub returns-clause-longer : goal.returns-clause-longer
returns-clause-longer g c =
    whole_length c.args.taken.now.bytes c.flush_buffer.new.output.items ∙ ap (λ (n : ℕ). n + length c.flush_buffer.new.output.items) (sym c.requires.counted)
