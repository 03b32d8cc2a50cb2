-- Reading a single-quoted scalar.
-- Source, unless a definition names its own: YAML 1.1, section 9.1.2 Single Quoted, c-single-quoted(n,c).
use Rattle.std.specs.Prelude.{Bool, Option, None, Some, [], ◌∷◌, ◌==◌, map, option_map, if◌then◌else◌}
use Rattle.yaml_base.specs.Characters.{Text}
use Rattle.yaml_base.specs.reading.ReadFolding.{unit_of, folding_read}

-- the text before the closing quote, which is the last character; two quotes mean one (YAML 1.1, section 9.1.2 Single Quoted,
-- c-quoted-quote)
abbrev pub unquoted : Text → Option Text
unquoted [] = None
unquoted (c ∷ []) = if c == 39 then Some [] else None
unquoted (c ∷ second ∷ rest) =
    if c == 39
    then (if second == 39 then option_map (λ t. 39 ∷ t) (unquoted rest) else None)
    else option_map (λ t. c ∷ t) (unquoted (second ∷ rest))

-- the value between two quotes; blanks and breaks fold (YAML 1.1, section 9.1.2 Single Quoted, c-single-quoted(n,c))
abbrev pub read_single : Bool → Text → Option Text
read_single breaks12 [] = None
read_single breaks12 (c ∷ rest) =
    if c == 39 then option_map (λ t. folding_read (map (unit_of breaks12) t)) (unquoted rest) else None
