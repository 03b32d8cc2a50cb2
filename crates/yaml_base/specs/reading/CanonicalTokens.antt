-- Characters to the tokens of a canonical stream, in flow style and double quotes alone, independently of the definitions that write them.
-- Source, unless a definition names its own: helpers of this project's reader for l-yaml-stream (YAML 1.1, section 7.4 Complete Stream).
use Rattle.std.specs.Prelude.{ℕ, zero, suc, pos, Bool, Option, None, Some, List, [], ◌∷◌, ◌++◌, ◌==◌, ◌||◌, not, length, filter, codes, bytes_eq, if◌then◌else◌}
use Rattle.std.specs.List.{slice_split}
use Rattle.yaml_base.specs.Characters.{Text, is_alpha, is_blank, space}
use Rattle.yaml_base.specs.LineBreaks.{is_read_break}
use Rattle.yaml_base.specs.Event.{Version, TagDirective}
use Rattle.yaml_base.specs.reading.ReadPercent.{percent_read}
use Rattle.yaml_base.specs.reading.ReadTags.{is_handle_text}
use Rattle.yaml_base.specs.reading.ReadFolding.{FoldUnit, folding_read}
use Rattle.yaml_base.specs.reading.ReadDouble.{QuotePlace, between, QuoteStep, goes_on, gives, ends_quotes, has_no_reading, quote_step}

-- the tokens of a canonical stream, one a line; bad is a fault of the text
pub data Token : Type 0 where
  version_line : Version → Token
  tag_line : TagDirective → Token
  document_begins : Token
  document_ends : Token
  anchor_token : Text → Token
  alias_token : Text → Token
  tag_token : Text → Token
  scalar_token : Text → Token
  opens_sequence : Token
  closes_sequence : Token
  opens_mapping : Token
  closes_mapping : Token
  key_token : Token
  value_token : Token
  comma : Token
  bad : Token

-- the place of a character: between tokens; in a directive's line, a name or a tag, after these characters; between quotes, after these
-- units; or in a document marker, with so many indicators after the next one
pub data TokenPlace : Type 0 where
  free : TokenPlace
  in_line : Text → TokenPlace
  in_anchor : Text → TokenPlace
  in_alias : Text → TokenPlace
  in_tag : Text → TokenPlace
  in_quotes : QuotePlace → List FoldUnit → TokenPlace
  in_marker : (symbol more : ℕ) → TokenPlace

-- the tokens that a character completes, and the place after it
pub record CanonicalStep : Type 0 where
  pub tokens : List Token
  pub place : TokenPlace

-- the step of a character that ends no token
abbrev pub moves_to : TokenPlace → CanonicalStep
moves_to place = record { tokens = []; place = place }

-- the step of a character that ends a token
abbrev pub ends_token : Token → CanonicalStep
ends_token token = record { tokens = token ∷ []; place = free }

-- a token, and then the tokens that a step completes
abbrev pub completes_before : Token → CanonicalStep → CanonicalStep
completes_before token next = record { tokens = token ∷ next.tokens; place = next.place }

-- the token of an anchor: a name has at least one character (YAML 1.1, section 8.1 Node Anchors, c-ns-anchor-property)
abbrev pub anchor_named : Text → Token
anchor_named [] = bad
anchor_named (c ∷ rest) = anchor_token (c ∷ rest)

-- the token of an alias, whose name has at least one character (YAML 1.1, section 8.4 Alias Nodes, c-ns-alias-node)
abbrev pub alias_named : Text → Token
alias_named [] = bad
alias_named (c ∷ rest) = alias_token (c ∷ rest)

-- the words of a directive's line (YAML 1.1, section 7.1 Directives, l-directive)
abbrev pub words_of_line : Text → List Text
words_of_line line = filter (λ word. not (length word == 0)) (slice_split is_blank line)

-- `%YAML 1.1` and `%YAML 1.2` (YAML 1.1, section 7.1.1 "YAML" Directive, ns-yaml-version; 1.2 is libyaml's)
abbrev pub version_named : Text → Token
version_named word =
    if bytes_eq word (codes "1.1") then version_line (record { major = pos 1; minor = pos 1 })
    else (if bytes_eq word (codes "1.2") then version_line (record { major = pos 1; minor = pos 2 }) else bad)

-- a `%TAG` line, whose handle is well-formed and whose prefix is decoded (YAML 1.1, section 7.1.2 "TAG" Directive, ns-tag-directive)
abbrev pub tag_line_of : Text → Option Text → Token
tag_line_of handle None = bad
tag_line_of handle (Some prefix) = if is_handle_text handle then tag_line (record { handle = handle; prefix = prefix }) else bad

-- a directive by its words; a prefix may hold percent forms (YAML 1.1, section 7.1 Directives, l-directive)
abbrev pub directive_token : List Text → Token
directive_token (name ∷ word ∷ []) = if bytes_eq name (codes "%YAML") then version_named word else bad
directive_token (name ∷ handle ∷ prefix ∷ []) =
    if bytes_eq name (codes "%TAG") then tag_line_of handle (percent_read prefix) else bad
directive_token _ = bad

-- the document marker of three `-` or of three `.` (YAML 1.1, section 7.2 Document Boundary Markers, c-document-start, c-document-end)
abbrev pub marker_token : ℕ → Token
marker_token symbol = if symbol == 0x2D then document_begins else document_ends

-- the token of an indicator that is one by itself (YAML 1.1, section 5.3 Indicator Characters, c-mapping-key to c-mapping-end)
abbrev pub indicator_token : ℕ → Token
indicator_token c =
    if c == 0x5B then opens_sequence else (if c == 0x5D then closes_sequence
    else (if c == 0x7B then opens_mapping else (if c == 0x7D then closes_mapping
    else (if c == 0x3F then key_token else (if c == 0x3A then value_token else (if c == 0x2C then comma else bad))))))

-- the step between tokens: blanks and breaks are free, and a first character tells what begins (YAML 1.1, section 6.3 Separation Spaces,
-- s-separate(n,c), in canonical streams)
abbrev pub step_between_tokens : Bool → ℕ → CanonicalStep
step_between_tokens breaks12 c =
    if is_blank c || is_read_break breaks12 c then moves_to free
    else (if c == 0x25 then moves_to (in_line (c ∷ []))
    else (if c == 0x26 then moves_to (in_anchor [])
    else (if c == 0x2A then moves_to (in_alias [])
    else (if c == 0x21 then moves_to (in_tag (c ∷ []))
    else (if c == 0x22 then moves_to (in_quotes between [])
    else (if c == 0x2D || c == 0x2E then moves_to (in_marker c 1) else ends_token (indicator_token c)))))))

-- the step between quotes: that of the reader of double quotes (YAML 1.1, section 9.1.1 Double Quoted, c-double-quoted(n,c))
abbrev pub quotes_step : List FoldUnit → QuoteStep → CanonicalStep
quotes_step units (goes_on place) = moves_to (in_quotes place units)
quotes_step units (gives unit) = moves_to (in_quotes between (units ++ unit ∷ []))
quotes_step units ends_quotes = ends_token (scalar_token (folding_read units))
quotes_step units has_no_reading = ends_token bad

-- the step of one more `-` or `.` of a document marker, of which so many are still missing (YAML 1.1, section 7.2 Document Boundary
-- Markers, c-document-start, c-document-end)
abbrev pub marker_step : (symbol more : ℕ) → CanonicalStep
marker_step symbol zero = ends_token (marker_token symbol)
marker_step symbol (suc more) = moves_to (in_marker symbol more)

-- the step of a character at a place: a name ends before any character that isn't its own, a tag at a space, a directive at a break
abbrev pub token_step : Bool → TokenPlace → ℕ → CanonicalStep
token_step breaks12 free c = step_between_tokens breaks12 c
token_step breaks12 (in_line line) c =
    if is_read_break breaks12 c then ends_token (directive_token (words_of_line line)) else moves_to (in_line (line ++ c ∷ []))
token_step breaks12 (in_anchor name) c =
    if is_alpha c then moves_to (in_anchor (name ++ c ∷ [])) else completes_before (anchor_named name) (step_between_tokens breaks12 c)
token_step breaks12 (in_alias name) c =
    if is_alpha c then moves_to (in_alias (name ++ c ∷ [])) else completes_before (alias_named name) (step_between_tokens breaks12 c)
token_step breaks12 (in_tag text) c = if c == space then ends_token (tag_token text) else moves_to (in_tag (text ++ c ∷ []))
token_step breaks12 (in_quotes place units) c = quotes_step units (quote_step breaks12 place c)
token_step breaks12 (in_marker symbol more) c = if c == symbol then marker_step symbol more else ends_token bad

-- the tokens at the end of the text: a name may end there, nothing else
abbrev pub canonical_tokens_at_end : TokenPlace → List Token
canonical_tokens_at_end free = []
canonical_tokens_at_end (in_anchor name) = anchor_named name ∷ []
canonical_tokens_at_end (in_alias name) = alias_named name ∷ []
canonical_tokens_at_end _ = bad ∷ []

-- the tokens of a text from a place on
abbrev pub tokens_from : Bool → TokenPlace → Text → List Token
tokens_from breaks12 place [] = canonical_tokens_at_end place
tokens_from breaks12 place (c ∷ rest) =
    let here = token_step breaks12 place c in here.tokens ++ tokens_from breaks12 here.place rest
