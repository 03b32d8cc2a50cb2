-- Output in UTF-16 has the text of output in UTF-8: after its byte order mark it has the same characters (RFC 2781, section 3.2).
use Rattle.std.specs.Prelude.{◌≡◌, ℕ, Some, List, [], ◌∷◌, ◌++◌}
use Rattle.yaml_base.specs.Settings.{Encoding, utf8, utf16_little, utf16_big, Settings}
use Rattle.yaml_base.specs.Event.{Event}
use Rattle.yaml_base.specs.Decode.{text_of_bytes}
use Rattle.yaml_base.specs.Refusal.{IsAccepted}
use Rattle.yaml_base.specs.Output.{output_of}
use Rattle.yaml_emitter.specs.Uncut.{IsUncut}

-- the bytes with which output in an encoding begins: U+FEFF in UTF-16, none in UTF-8
abbrev pub bom_bytes : Encoding → List ℕ
bom_bytes utf8 = []
bom_bytes utf16_little = 0xFF ∷ 0xFE ∷ []
bom_bytes utf16_big = 0xFE ∷ 0xFF ∷ []

-- after its byte order mark an output decodes to the characters of an output in UTF-8
pub record EncodesSameText (encoding : Encoding) (output of_utf8 : List ℕ) : Type 0 where
  pub without_bom : List ℕ
  pub begins : bom_bytes encoding ++ without_bom ≡ output
  pub decodes : text_of_bytes encoding without_bom ≡ text_of_bytes utf8 of_utf8

-- every accepted list has such outputs under settings that differ in the encoding alone, if no limit cuts them
abbrev pub EncodedAlike : Type 0
EncodedAlike =
    (given : Settings) (encoding : Encoding) (events : List Event) → IsAccepted given.canonical events
    → let own = record given { encoding = Some encoding } in
    let of_utf8 = record given { encoding = Some utf8 } in
    IsUncut own events → IsUncut of_utf8 events
    → EncodesSameText encoding (output_of own events) (output_of of_utf8 events)
