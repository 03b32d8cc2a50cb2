-- Texts in an array of bytes, the arena. A span names each by the number of its first byte and by its length.
use Rattle.std.specs.Prelude.{ℕ, Bool, Option, None, Some, List, ◌+◌, ◌==◌, not, take, drop, length, nat_le, if◌then◌else◌, option_map, option_and_then}
use Rattle.std.specs.Str.{is_utf8, chars}
use Rattle.yaml_base.specs.Characters.{Text}
use Rattle.yaml_c.specs.declared.arena.Span.{Span}

-- A number as a flag: each but 0 is on.
abbrev pub is_off : ℕ → Bool
is_off flag = flag == 0

abbrev pub is_on : ℕ → Bool
is_on flag = not (is_off flag)

-- The elements of a span, if it ends within the array.
abbrev pub part_of : {A : Type 0} → List A → Span → Option (List A)
part_of all span = if nat_le (span.start + span.length) (length all) then Some (take span.length (drop span.start all)) else None

-- The characters of bytes, if these are UTF-8.
abbrev pub utf8_text : List ℕ → Option Text
utf8_text bytes = if is_utf8 bytes then Some (chars bytes) else None

-- The text of a span, if it ends within the arena and its bytes are UTF-8.
abbrev pub text_in_arena : List ℕ → Span → Option Text
text_in_arena arena span = option_and_then utf8_text (part_of arena span)

-- The text of a span if the flag is on, and no text if it is off.
abbrev pub optional_text_at : List ℕ → (has : ℕ) → Span → Option (Option Text)
optional_text_at arena has span = if has == 0 then Some None else option_map (λ text. Some text) (text_in_arena arena span)
