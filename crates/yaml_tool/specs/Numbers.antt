-- The values of digits.
use Rattle.std.specs.Prelude.{ℕ, ◌&&◌, nat_le, Option, None, Some, List, if◌then◌else◌}
use Rattle.std.specs.List.{list_all}
use Rattle.std.specs.Char.{is_digit}
use Rattle.std.specs.Str.Parse.{digits_value_after}

-- the value of a number with more digits after it; none above `most`
abbrev pub number_after : ℕ → ℕ → ℕ → List ℕ → Option ℕ
number_after radix most number rest =
    let whole = digits_value_after radix number rest in
    if list_all (λ digit. is_digit digit radix) rest && nat_le whole most then Some whole else None
