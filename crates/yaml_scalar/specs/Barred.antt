-- The styles that the characters of a value bar, all at once.
use Rattle.std.specs.Prelude.{ℕ, Bool, true, false, ◌==◌, ◌||◌, ◌&&◌, not, codes, if◌then◌else◌}
use Rattle.std.specs.List.{list_any}
use Rattle.yaml_base.specs.scalars.Analysis.{Allowances, Charset, bars_block, bars_plain, bars_single_quoted, begins_unlike_plain, ends_word, is_empty}
use Rattle.yaml_base.specs.scalars.Analysis.{is_special, somewhere}
use Rattle.yaml_base.specs.Characters.{Text, is_among, is_between, is_break, is_space, space, tab}
use Rattle.yaml_scalar.specs.declared.analysis.BarredStyles.{BarredStyles}

-- the styles that one character bars before the rest
abbrev pub barred_by : Charset → ℕ → Text → BarredStyles
barred_by charset c rest =
    record {
      multiline = is_break c;
      flow_plain = bars_plain charset true c rest;
      block_plain = bars_plain charset false c rest;
      single_quoted = bars_single_quoted charset c rest;
      block = bars_block charset c rest;
    }

-- the styles that all characters of a value bar
abbrev pub barred_in : Charset → Text → BarredStyles
barred_in charset value =
    record {
      multiline = list_any is_break value;
      flow_plain = somewhere (bars_plain charset true) value;
      block_plain = somewhere (bars_plain charset false) value;
      single_quoted = somewhere (bars_single_quoted charset) value;
      block = somewhere (bars_block charset) value;
    }

-- nothing is barred
abbrev pub none_barred : BarredStyles
none_barred = record { multiline = false; flow_plain = false; block_plain = false; single_quoted = false; block = false }

-- the styles that one of two results bars
abbrev pub either : BarredStyles → BarredStyles → BarredStyles
either a b =
    record {
      multiline = a.multiline || b.multiline;
      flow_plain = a.flow_plain || b.flow_plain;
      block_plain = a.block_plain || b.block_plain;
      single_quoted = a.single_quoted || b.single_quoted;
      block = a.block || b.block;
    }

-- a result with one of the characters that no plain text in flow holds, or a `:` that ends a word, which bars plain in a block, too
abbrev pub with_indicator : BarredStyles → ℕ → Text → BarredStyles
with_indicator found c rest = record found { flow_plain = true; block_plain = found.block_plain || (c == 58 && ends_word rest) }

-- true for a letter or a digit of ASCII
abbrev pub is_ordinary : ℕ → Bool
is_ordinary c = is_between 97 122 c || is_between 65 90 c || is_between 48 57 c

-- true for a character that bars nothing by itself, nor before or after another such character, unless it is a space
abbrev pub is_quiet : Charset → ℕ → Bool
is_quiet charset c =
    not (is_special charset c || is_break c || c == tab || c == 0 || c == 35 || is_among (codes ",?:[]{}") c)

-- the styles that a character bars before the rest if it is a space
abbrev pub barred_by_space : Charset → ℕ → Text → BarredStyles
barred_by_space charset c rest = if is_space c then barred_by charset space rest else none_barred

-- true if no style but double quotes is left
abbrev pub all_styles : BarredStyles → Bool
all_styles found = found.flow_plain && found.block_plain && found.single_quoted && found.block

-- the styles that a value allows, by those that its characters bar
abbrev pub allowed_by : BarredStyles → Text → Allowances
allowed_by found value =
    record {
      multiline = found.multiline;
      flow_plain_allowed = not (is_empty value) && not (begins_unlike_plain value || found.flow_plain);
      block_plain_allowed = not (begins_unlike_plain value || found.block_plain);
      single_quoted_allowed = not found.single_quoted;
      block_allowed = not (is_empty value || found.block);
    }
