-- The text of a name in a message.
use Rattle.std.specs.Prelude.{◌≡◌, ◌+◌, ◌-◌, ◌<◌, Option, None, Some, List, ℕ, codes, drop, if◌then◌else◌, length, nat_lt, take}
use Rattle.std.specs.Char.{is_ascii}
use Rattle.std.specs.Fmt.{◌++?◌, debug_str}
use Rattle.std.specs.List.{list_all}

-- True if the name begins with `first` and ends with `last`.
pub record AreEndsOf (name first last : List ℕ) : Type 0 where
  pub begins : first ≡ take (length first) name
  pub ends : last ≡ drop (length name - length last) name

-- The number of characters that a message shows of each end of a long name.
abbrev pub half : ℕ
half = 40

-- The first 40 characters of a long name in ASCII.
abbrev pub first_half : List ℕ → List ℕ
first_half name = take half name

-- The last 40 characters of a long name in ASCII.
abbrev pub last_half : List ℕ → List ℕ
last_half name = drop (length name - half) name

-- True if a name is longer than its two halves, and these are `first` and `last`.
pub record AreHalvesOf (name first last : List ℕ) : Type 0 where
  pub long : half + half < length name
  pub begins : first ≡ first_half name
  pub ends : last ≡ last_half name

-- A name in ASCII in double quotes, with escapes; of a name of more than 80 characters both halves, with `..` between them.
abbrev pub quoted_ascii : List ℕ → Option (List ℕ)
quoted_ascii name =
    if nat_lt (half + half) (length name)
    then debug_str (first_half name) ++? Some (codes "..") ++? debug_str (last_half name)
    else debug_str name

-- The text of a name in a message, if the name is in ASCII.
abbrev pub quoted_text : List ℕ → Option (List ℕ)
quoted_text name = if list_all is_ascii name then quoted_ascii name else None
