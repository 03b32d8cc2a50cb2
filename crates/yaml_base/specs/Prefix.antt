-- Lists that begin with others.
use Rattle.std.specs.Prelude.{◌≡◌, List, ◌++◌}

-- a list is a prefix of another: the other is this one and a rest after it
pub record IsPrefix {A : Type 0} (prefix whole : List A) : Type 0 where
  pub rest : List A
  pub parts : prefix ++ rest ≡ whole
