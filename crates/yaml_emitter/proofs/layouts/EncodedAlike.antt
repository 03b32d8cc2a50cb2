-- Output in every encoding, without its byte order mark, has the characters of output in UTF-8.
use Rattle.yaml_emitter.proofs.Common.{ℕ, Some, List, ◌++◌, refl, ◌≡◌, take_all, ap, sym, ◌∙◌, Text, text_bytes, encode, Event, settings_for, text_written}
use Rattle.yaml_emitter.proofs.Common.{bytes_written, output_of, list_layout, Encoding, utf8, Settings, IsUncut}
use Rattle.yaml_base.specs.Decode.{text_of_bytes, decode}
use Rattle.yaml_emitter.{proofs.layouts.RawTexts.streams_agree, specs.EncodedAlike.bom_bytes}
use Rattle.yaml_emitter.specs.EncodedAlike as spec

-- bytes begin with their byte order mark
with_bom : (encoding : Encoding) (text : Text) → bom_bytes encoding ++ text_bytes encoding text ≡ encode (Some encoding) text
with_bom utf8 text = refl
with_bom _ text = refl

-- to decode is to read the text after the byte order mark
without_bom : (encoding : Encoding) (text : Text) → text_of_bytes encoding (text_bytes encoding text) ≡ decode (Some encoding) (encode (Some encoding) text)
unfolding decode
without_bom utf8 text = refl
without_bom _ text = refl

of_utf8 : (bytes : List ℕ) → decode (Some utf8) bytes ≡ text_of_bytes utf8 bytes
unfolding decode
of_utf8 bytes = refl

uncut_output : (given : Settings) (events : List Event) → IsUncut given events
    → output_of given events ≡ bytes_written (settings_for given events) (list_layout (settings_for given events) events)
uncut_output given events uncut = take_all given.limit _ uncut

pub encoded_alike : spec.EncodedAlike
encoded_alike given encoding events accepted uncut uncut_utf8 =
    let own : Settings = record given { encoding = Some encoding } in
    let narrow : Settings = record given { encoding = Some utf8 } in
    let text = text_written (settings_for own events) (list_layout (settings_for own events) events) in
    record {
      without_bom = text_bytes encoding text;
      begins = with_bom encoding text ∙ sym (uncut_output own events uncut);
      decodes =
          without_bom encoding text ∙ streams_agree given encoding events accepted ∙ sym (streams_agree given utf8 events accepted)
          ∙ of_utf8 (bytes_written (settings_for narrow events) (list_layout (settings_for narrow events) events))
          ∙ ap (text_of_bytes utf8) (sym (uncut_output narrow events uncut_utf8));
    }
