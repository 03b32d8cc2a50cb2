-- The bytes that are flushed of a buffer are added to the output.
use Rattle.yaml_base.proofs.Common.{ℕ, ◌+◌, ◌-◌, ◌≤◌, length, take, List, ◌++◌, ◌≡◌, length-append, append_assoc, ap, subst, sym, ◌∙◌, arith, cut}
use Rattle.std.proofs.{Common.Err, Common.Ok, Common.Result, Math.Seq.take-append-add}
use Rattle.yaml_base.{proofs.Prefixes.prefix_same, proofs.Prefixes.prefix_cut, specs.Prefix.IsPrefix, specs.declared.errors.yaml_error_t.yaml_error_t}
use Rattle.yaml_base.{specs.declared.errors.yaml_error_t.TheVariants.Memory, specs.declared.errors.yaml_error_t.TheVariants.WriteError}
use Rattle.yaml_pen.specs.Outlet.{whole_output, FlushesBuffer}

pub last_flushes_grows : (buffer before after : List ℕ) (limit : ℕ) (answer : Result (Unit {0}) yaml_error_t) → length before ≤ limit
    → FlushesBuffer buffer before after limit answer → IsPrefix before after
last_flushes_grows buffer before after limit (Ok _) within h = record { rest = buffer; parts = sym h.1 }
last_flushes_grows buffer before after limit (Err WriteError) within h = subst (λ (output : List ℕ). IsPrefix before output) (sym h.1)
    (prefix_cut limit before buffer within)
last_flushes_grows buffer before after limit (Err Memory) within h = prefix_same before after (sym h)
last_flushes_grows buffer before after limit (Err error) within h = absurd h

-- the length of an output
pub whole_length : (taken left : List ℕ) → length (whole_output taken left) ≡ length taken + length left
unfolding whole_output
whole_length taken left = length-append taken left

whole_append : (taken left more : List ℕ) → whole_output taken (left ++ more) ≡ whole_output taken left ++ more
unfolding whole_output
whole_append taken left more = sym (append_assoc taken left more)

whole_take : (taken left : List ℕ) (count limit : ℕ) → count ≡ length taken → count ≤ limit
    → whole_output taken (take (limit - count) left) ≡ take limit (whole_output taken left)
unfolding whole_output
whole_take taken left count limit counted within =
    sym (take-append-add taken left (limit - count)) ∙ ap (λ n. take n (taken ++ left)) (omega (arith, counted, within))

-- bytes that were taken count for the limit
pub hands_on : (buffer taken before after : List ℕ) (count limit : ℕ) (answer : Result (Unit {0}) yaml_error_t) → count ≡ length taken
    → length (whole_output taken before) ≤ limit → FlushesBuffer buffer before after (limit - count) answer
    → FlushesBuffer buffer (whole_output taken before) (whole_output taken after) limit answer
hands_on buffer taken before after count limit (Ok _) counted within h =
    let room = whole_length taken before in
    (omega (arith, counted, within, room, h.0, whole_length taken after), ap (whole_output taken) h.1 ∙ whole_append taken before buffer)
hands_on buffer taken before after count limit (Err WriteError) counted within h =
    let room = whole_length taken before in (
      omega (arith, counted, within, room, h.0, length-append before buffer, length-append (whole_output taken before) buffer),
      ap (whole_output taken) h.1 ∙ whole_take taken (before ++ buffer) count limit counted (omega (arith, counted, within, room))
          ∙ ap (cut limit) (whole_append taken before buffer),
    )
hands_on buffer taken before after count limit (Err Memory) counted within h = ap (whole_output taken) h
hands_on buffer taken before after count limit (Err error) counted within h = absurd h
