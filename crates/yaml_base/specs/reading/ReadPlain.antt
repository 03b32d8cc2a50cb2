-- Reading a plain scalar.
-- Source, unless a definition names its own: helpers of this project's reader for ns-plain(n,c) (YAML 1.1, section 9.1.3 Plain), which it narrows.
use Rattle.std.specs.Prelude.{ℕ, Bool, true, false, Option, None, Some, [], ◌∷◌, ◌==◌, ◌||◌, ◌&&◌, map, codes, if◌then◌else◌}
use Rattle.yaml_base.specs.Characters.{Text, is_among, is_blank}
use Rattle.yaml_base.specs.LineBreaks.{is_read_break}
use Rattle.yaml_base.specs.reading.ReadFolding.{unit_of, folding_read}

-- true of a blank or a break of a text whose line breaks are read (YAML 1.1, sections 5.4 Line Break Characters and 5.5 Miscellaneous
-- Characters, b-normalized, s-char)
abbrev pub is_read_white : Bool → ℕ → Bool
is_read_white breaks12 c = is_blank c || is_read_break breaks12 c

-- true if a text is empty, or begins with a blank or a break
abbrev pub begins_white : Bool → Text → Bool
begins_white breaks12 [] = true
begins_white breaks12 (c ∷ rest) = is_read_white breaks12 c

-- true if a text begins with three of this character (YAML 1.1, section 7.2 Document Boundary Markers, c-document-start, c-document-end)
abbrev pub begins_with_three : ℕ → Text → Bool
begins_with_three marker (a ∷ b ∷ c ∷ rest) = a == marker && b == marker && c == marker
begins_with_three marker _ = false

-- true if a text begins as no plain text may: with `---` or `...`, an indicator, or `-`, `?`, `:` before a blank, a break or the end (YAML
-- 1.1, sections 5.3 Indicator Characters, 7.2 Document Boundary Markers and 9.1.3 Plain, c-indicator, c-document-start, c-document-end,
-- ns-plain-first-char(c))
abbrev pub begins_no_plain : Bool → Text → Bool
begins_no_plain breaks12 [] = false
begins_no_plain breaks12 (c ∷ rest) =
    begins_with_three 45 (c ∷ rest)
    || begins_with_three 46 (c ∷ rest)
    || is_among (codes "#,[]{}&*!|>'\"%@`") c
    || (is_among (codes "?:-") c && begins_white breaks12 rest)

-- true if a `#` comes next (YAML 1.1, section 5.3 Indicator Characters, c-comment)
abbrev pub begins_with_hash : Text → Bool
begins_with_hash [] = false
begins_with_hash (c ∷ rest) = c == 35

-- true if a text holds what no plain text may: `:` before a blank, a break or the end, `#` after a blank or break, and in flow any of
-- `,?:[]{}` (YAML 1.1, section 9.1.3 Plain, ns-plain-char(c))
abbrev pub holds_no_plain : (breaks12 flow : Bool) → Text → Bool
holds_no_plain breaks12 flow [] = false
holds_no_plain breaks12 flow (c ∷ rest) =
    (c == 58 && begins_white breaks12 rest)
    || (is_read_white breaks12 c && begins_with_hash rest)
    || (flow && is_among (codes ",?:[]{}") c)
    || holds_no_plain breaks12 flow rest

-- the value of a plain text: the empty text is the empty value in a block and has no reading in flow; any other reads by folding (YAML
-- 1.1, section 9.1.3 Plain, ns-plain(n,c))
abbrev pub read_plain : (breaks12 flow : Bool) → Text → Option Text
read_plain breaks12 flow [] = if flow then None else Some []
read_plain breaks12 flow (c ∷ rest) =
    if begins_no_plain breaks12 (c ∷ rest) || holds_no_plain breaks12 flow (c ∷ rest)
    then None
    else Some (folding_read (map (unit_of breaks12) (c ∷ rest)))
