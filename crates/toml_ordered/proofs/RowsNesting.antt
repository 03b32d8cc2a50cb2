-- Some values that nest too deep, and a key of too many parts, computed.
use Rattle.std.proofs.Common.{◌≡◌, ◌++◌, ℕ, List, [], Some, arith, codes, refl, replicate, inl, inr}
use Rattle.toml.specs.Parse.{after_element}
use Rattle.toml_ordered.specs.Grammar.{items, val}
use Rattle.toml_ordered.specs.Nesting.{HasLongKey, NestsPast, after_items, any_key}
use Rattle.toml_parser.specs.{Lexical.skip_from, Lexical.skip_ws, Strings.key_after, Strings.simple_key}

-- []: an array at a depth at which none is allowed
array : NestsPast 0 2 (codes "[]")
array = (inl refl, refl)

-- it begins at no other place
elsewhere : NestsPast 0 1 (codes "[]") → ⊥
elsewhere nests = cc

-- [ {: a table in an array
table : NestsPast 1 1 (codes "[ {")
unfolding skip_from
table = inl (refl, (codes "{", record { rest = codes " {"; ends = ([], refl); count = 0; read = refl; here = refl }, (inr refl, refl)))

-- [], {: after an item
behind : after_items 1 1 (codes "[], {") ≡ Some (codes " {")
unfolding val items after_element skip_from
behind = refl

-- a key of 81 parts
parts : List ℕ
parts =
    codes "a.a.a.a.a.a.a.a.a.a.a.a.a.a.a.a.a.a.a.a.a.a.a.a.a.a.a.a.a.a.a.a.a.a.a.a.a.a.a.a."
    ++ codes "a.a.a.a.a.a.a.a.a.a.a.a.a.a.a.a.a.a.a.a.a.a.a.a.a.a.a.a.a.a.a.a.a.a.a.a.a.a.a.a.b = 1"

whole : any_key parts ≡ Some ((replicate 80 (codes "a"), codes "b"), codes "= 1")
unfolding parts key_after simple_key skip_ws
whole = refl

long : HasLongKey 165 parts
unfolding parts
long = record { name = (replicate 80 (codes "a"), codes "b"); rest = codes "= 1"; read = whole; more = omega arith; here = refl }
