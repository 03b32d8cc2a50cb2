-- Indicators as contracts see them.
use Rattle.std.specs.Str.{chars}
use Rattle.yaml_base.specs.Indicators as seen
use Rattle.yaml_pen.specs.declared.pen.indicators.Indicator.{Indicator}

-- an indicator, as the definitions have it
abbrev pub seen_indicator_row : Indicator → seen.Indicator
seen_indicator_row row =
    record { text = chars row.text.now; needs_space = row.needs_space; leaves_space = row.leaves_space; keeps_indention = row.keeps_indention }
