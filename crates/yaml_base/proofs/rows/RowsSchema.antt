-- Plain scalars without a tag, computed by both schemas.
use Rattle.yaml_base.proofs.Common.{codes, negsuc, pos, ℤ, false, true, List, [], map, ◌∷◌, refl, ◌≡◌, Text, Resolved, meant_integer, meant_decimal}
use Rattle.yaml_base.proofs.Common.{meant_timestamp, meant_text, resolved_by_core, resolved_by_11}
use Rattle.yaml_base.specs.values.Resolved.{meant_null, meant_boolean, meant_infinity, meant_nan, meant_merge, meant_value, meant_by_nobody}

-- texts, and the meaning of each by the type repository of 1.1 and by the core schema
abbrev Row : Type 0
Row = List Text × Resolved × Resolved

-- a decimal by its digits and its exponent
abbrev decimal : ℤ → ℤ → Resolved
decimal digits exponent = meant_decimal (record { digits = digits; exponent = exponent })

-- the meaning of a text by both schemas
abbrev by_both : Text → Resolved × Resolved
by_both text = (resolved_by_11 text, resolved_by_core text)

-- both give each row's texts the row's meaning
abbrev Resolve : List Row → Type 0
Resolve rows = map {A = Row} (λ row. map by_both row.0) rows ≡ map {A = Row} (λ row. map (λ text. (row.1, row.2)) row.0) rows

-- words that a hand may write as texts
words : Resolve (
    (codes "no" ∷ codes "NO" ∷ codes "n" ∷ codes "off" ∷ [], meant_boolean false, meant_text)
    ∷ (codes "y" ∷ codes "Yes" ∷ codes "on" ∷ [], meant_boolean true, meant_text)
    ∷ (codes "true" ∷ codes "True" ∷ [], meant_boolean true, meant_boolean true)
    ∷ (codes "FALSE" ∷ [], meant_boolean false, meant_boolean false)
    ∷ (codes "~" ∷ [] ∷ codes "null" ∷ codes "Null" ∷ codes "NULL" ∷ [], meant_null, meant_null)
    ∷ (codes "nULL" ∷ codes "tRue" ∷ codes "yEs" ∷ codes "null " ∷ codes "true " ∷ codes "a" ∷ codes "==" ∷ codes "<" ∷ [], meant_text, meant_text)
    ∷ (codes "=" ∷ [], meant_value, meant_text)
    ∷ (codes "<<" ∷ [], meant_merge, meant_text)
    ∷ [])
words = refl

-- infinities, and no number
infinities : Resolve (
    (codes ".inf" ∷ codes "+.INF" ∷ codes ".Inf" ∷ [], meant_infinity false, meant_infinity false)
    ∷ (codes "-.inf" ∷ codes "-.INF" ∷ [], meant_infinity true, meant_infinity true)
    ∷ (codes ".nan" ∷ codes ".NaN" ∷ codes ".NAN" ∷ [], meant_nan, meant_nan)
    ∷ (codes "-.nan" ∷ codes ".iNf" ∷ codes "inf" ∷ [], meant_text, meant_text)
    ∷ [])
infinities = refl

-- integers in each base, with their border cases
integers : Resolve (
    (codes "0" ∷ codes "-0" ∷ [], meant_integer (pos 0), meant_integer (pos 0))
    ∷ (codes "12" ∷ [], meant_integer (pos 12), meant_integer (pos 12))
    ∷ (codes "+1" ∷ [], meant_integer (pos 1), meant_integer (pos 1))
    ∷ (codes "-12" ∷ [], meant_integer (negsuc 11), meant_integer (negsuc 11))
    ∷ (codes "1_000" ∷ [], meant_integer (pos 1000), meant_text)
    ∷ (codes "1__0" ∷ [], meant_integer (pos 10), meant_text)
    ∷ (codes "_1" ∷ codes "0o8" ∷ codes "-0o7" ∷ codes "0xG" ∷ codes "0x" ∷ codes "0b2" ∷ codes "0b" ∷ codes "-" ∷ [], meant_text, meant_text)
    ∷ (codes "-1_" ∷ [], meant_integer (negsuc 0), meant_text)
    ∷ (codes "010" ∷ [], meant_integer (pos 8), meant_integer (pos 10))
    ∷ (codes "-017" ∷ [], meant_integer (negsuc 14), meant_integer (negsuc 16))
    ∷ (codes "0_7" ∷ [], meant_integer (pos 7), meant_text)
    ∷ (codes "08" ∷ codes "0o10" ∷ [], meant_text, meant_integer (pos 8))
    ∷ (codes "0o17" ∷ [], meant_text, meant_integer (pos 15))
    ∷ (codes "0x1F" ∷ [], meant_integer (pos 31), meant_integer (pos 31))
    ∷ (codes "0xff" ∷ [], meant_integer (pos 255), meant_integer (pos 255))
    ∷ (codes "-0x1F" ∷ [], meant_integer (negsuc 30), meant_text)
    ∷ (codes "0x_1" ∷ [], meant_integer (pos 1), meant_text)
    ∷ (codes "0x_" ∷ codes "0b__" ∷ [], meant_by_nobody, meant_text)
    ∷ (codes "0b11" ∷ [], meant_integer (pos 3), meant_text)
    ∷ (codes "-0b1_0" ∷ [], meant_integer (negsuc 1), meant_text)
    ∷ (codes "+" ∷ codes "+-1" ∷ codes "1 " ∷ [], meant_text, meant_text)
    ∷ [])
integers = refl

-- numbers to the base of sixty
sixties : Resolve (
    (codes "1:30" ∷ [], meant_integer (pos 90), meant_text)
    ∷ (codes "12:30:45" ∷ [], meant_integer (pos 45045), meant_text)
    ∷ (codes "-1:30" ∷ [], meant_integer (negsuc 89), meant_text)
    ∷ (codes "1:60" ∷ codes "01:30" ∷ codes "1:60.5" ∷ codes "1:" ∷ codes "1.5:3" ∷ codes ":30" ∷ [], meant_text, meant_text)
    ∷ (codes "1:5" ∷ [], meant_integer (pos 65), meant_text)
    ∷ (codes "1:2.5" ∷ [], decimal (pos 625) (negsuc 0), meant_text)
    ∷ (codes "-1:30.5_0" ∷ [], decimal (negsuc 9049) (negsuc 1), meant_text)
    ∷ (codes "01:30." ∷ [], decimal (pos 90) (pos 0), meant_text)
    ∷ (codes "1:2:3." ∷ [], decimal (pos 3723) (pos 0), meant_text)
    ∷ [])
sixties = refl

-- decimals, with their border cases
decimals : Resolve (
    (codes ".5" ∷ [], decimal (pos 5) (negsuc 0), decimal (pos 5) (negsuc 0))
    ∷ (codes "-.5" ∷ [], decimal (negsuc 4) (negsuc 0), decimal (negsuc 4) (negsuc 0))
    ∷ (codes "+12.5" ∷ [], decimal (pos 125) (negsuc 0), decimal (pos 125) (negsuc 0))
    ∷ (codes "1." ∷ [], decimal (pos 1) (pos 0), decimal (pos 1) (pos 0))
    ∷ (codes "1.5" ∷ [], decimal (pos 15) (negsuc 0), decimal (pos 15) (negsuc 0))
    ∷ (codes "1_0.5_0" ∷ [], decimal (pos 1050) (negsuc 1), meant_text)
    ∷ (codes "08.5" ∷ [], decimal (pos 85) (negsuc 0), decimal (pos 85) (negsuc 0))
    ∷ (codes "1e5" ∷ codes "1.e5" ∷ [], meant_text, decimal (pos 1) (pos 5))
    ∷ (codes "1.0e+5" ∷ [], decimal (pos 10) (pos 4), decimal (pos 10) (pos 4))
    ∷ (codes "1.5E-3" ∷ [], decimal (pos 15) (negsuc 3), decimal (pos 15) (negsuc 3))
    ∷ (codes "1e" ∷ codes ".e5" ∷ codes ".e+5" ∷ codes "1e5e5" ∷ codes "1.0e+" ∷ codes "._5" ∷ codes "1.2e+1_0" ∷ [], meant_text, meant_text)
    ∷ (codes "1.e+5" ∷ [], decimal (pos 1) (pos 5), decimal (pos 1) (pos 5))
    ∷ (codes ".5e+1" ∷ [], decimal (pos 5) (pos 0), decimal (pos 5) (pos 0))
    ∷ (codes "1.0e5" ∷ [], meant_text, decimal (pos 10) (pos 4))
    ∷ [])
decimals = refl

-- points that are no decimal's
points : Resolve (
    (codes "." ∷ codes ".." ∷ codes "-." ∷ codes "+..." ∷ codes "1.2.3" ∷ codes "..5" ∷ codes "1.." ∷ [], meant_by_nobody, meant_text)
    ∷ (codes "1.2.3e+4" ∷ codes "1_0.2.3" ∷ [], meant_by_nobody, meant_text)
    ∷ (codes "1.2.3e4" ∷ codes "1.2_0.3" ∷ [], meant_text, meant_text)
    ∷ [])
points = refl

-- dates and times, with and without a zone
times : Resolve (
    (codes "2001-12-14" ∷ codes "2001-12-14T1:59:43" ∷ codes "2001-12-14t21:59:43.10-05:00" ∷ [], meant_timestamp, meant_text)
    ∷ (codes "2001-12-1" ∷ codes "2001-1-14" ∷ codes "+2001-12-14" ∷ codes "2001-12-14T21:59:43-5:3" ∷ [], meant_text, meant_text)
    ∷ (codes "2001-1-4 21:59:43.1 Z" ∷ codes "2001-12-14 \t 21:59:43. +5" ∷ codes "2001-12-14T21:59:43Z" ∷ [], meant_timestamp, meant_text)
    ∷ (codes "2001-12-14 21:59" ∷ codes "2001-12-14 21:59:43 " ∷ codes "2001-12-14T21:59:43ZZ" ∷ codes "2001-12-14T" ∷ [], meant_text, meant_text)
    ∷ (codes "2001-12-14 1:59:43 -1:30" ∷ [], meant_timestamp, meant_text)
    ∷ (codes "2001-12-14Z" ∷ [], meant_text, meant_text)
    ∷ [])
times = refl
