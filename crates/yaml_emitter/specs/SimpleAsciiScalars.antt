-- Scalars that are plain as they are.
use Rattle.std.specs.Prelude.{◌≡◌, Bool, true, false, ◌&&◌, not, None, is_some}
use Rattle.yaml_base.specs.Event.{ScalarStyle, any_style, plain}
use Rattle.yaml_base.specs.Seen.{seen_scalar_style}
use Rattle.yaml_base.specs.scalars.Style.{requested_style}
use Rattle.yaml_scalar.specs.SimpleAsciiTexts.{IsSimpleAscii}
use Rattle.yaml_emitter.specs.BorrowedTexts.{seen_name}
use Rattle.yaml_emitter.specs.declared.writing.contents.ScalarContent.{ScalarContent}

-- true for a style that asks for plain, or for any style that fits
abbrev pub asks_plain : ScalarStyle → Bool
asks_plain plain = true
asks_plain any_style = true
asks_plain _ = false

-- true if only the value can keep the scalar from being plain
abbrev pub is_asked_plain : Bool → ScalarContent → Bool
is_asked_plain canonical content =
    not canonical && content.plain_implicit && asks_plain (seen_scalar_style content.style) && not (is_some (seen_name content.anchor))

-- the scalar has no anchor and no written tag, is asked to be plain, and has a value that every style may hold
pub record StandsPlain (canonical : Bool) (content : ScalarContent) : Type 0 where
  pub readable : canonical ≡ false
  pub implicit : content.plain_implicit ≡ true
  pub asked : requested_style false (seen_scalar_style content.style) ≡ plain
  pub anchor : seen_name content.anchor ≡ None
  pub simple_ascii : IsSimpleAscii content.value.now
