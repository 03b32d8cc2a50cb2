-- Simple ASCII texts: short, one line, and free in every style.
use Rattle.std.specs.List.{list_all}
use Rattle.std.specs.Prelude.{◌≡◌, ℕ, Bool, true, false, List, ◌==◌, ◌||◌, ◌&&◌, not, codes, length, nat_le}
use Rattle.std.specs.Str.{chars}
use Rattle.yaml_base.specs.scalars.Analysis.{Allowances, Charset, allowances, begins_with}
use Rattle.yaml_base.specs.Characters.{is_among, is_between, is_space}
use Rattle.yaml_scalar.specs.Barred.{is_ordinary}
use Rattle.yaml_scalar.specs.declared.lines.Known.{Known}
use Rattle.yaml_scalar.specs.declared.lines.Known.TheVariants.{Nothing, SimpleAscii}
use Rattle.yaml_scalar.specs.ShortRuns.{IsShortRun, most_short}
use Rattle.yaml_scalar.specs.WholeRuns.{stays_in_line}
use Rattle.yaml_base.specs.Tags.{last_from}

-- one line, which every style may hold
abbrev pub all_allowed : Allowances
all_allowed = record { multiline = false; flow_plain_allowed = true; block_plain_allowed = true; single_quoted_allowed = true; block_allowed = true }

-- a short text of ASCII that is one line, and allowed in every style under every character set
pub record IsSimpleAscii (text : List ℕ) : Type 0 where
  pub allows : (charset : Charset) → allowances charset (chars text) ≡ all_allowed
  pub line : IsShortRun (stays_in_line false false) text

-- a simple ASCII text that isn't put between quotes
pub record IsUnquotedAscii (quoted : Bool) (text : List ℕ) : Type 0 where
  pub simple_ascii : IsSimpleAscii text
  pub plain : quoted ≡ false

-- a known fact about a value holds; one that is known to be simple ASCII isn't put between quotes
abbrev pub IsKnown : Known → (quoted : Bool) → List ℕ → Type 0
IsKnown Nothing quoted text = Unit
IsKnown SimpleAscii quoted text = IsUnquotedAscii quoted text

-- true if a text begins with a letter or a digit, and doesn't end with a space
abbrev pub has_simple_ascii_ends : List ℕ → Bool
has_simple_ascii_ends text = begins_with is_ordinary text && not (is_space (last_from 0 text))

-- true for printable ASCII but the indicators that may end a plain scalar
abbrev pub is_simple_ascii_character : ℕ → Bool
is_simple_ascii_character c = is_between 0x20 0x7E c && not (c == 35 || is_among (codes ",?:[]{}") c)

-- true if a text has such ends and only such characters, and is short
abbrev pub is_simple_ascii : List ℕ → Bool
is_simple_ascii text = has_simple_ascii_ends text && nat_le (length text) most_short && list_all is_simple_ascii_character (chars text)
