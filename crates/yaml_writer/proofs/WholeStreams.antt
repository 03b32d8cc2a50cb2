-- The bytes of a whole stream, by the layout of its events.
use Rattle.yaml_writer.proofs.Common.{ℕ, Bool, true, List, ◌≡◌, ap, sym, ◌∙◌, Event, Settings, settings_for, list_layout}
use Rattle.yaml_base.proofs.Common.{Piece, bytes_written, encoding_asked}
use Rattle.yaml_base.proofs.CallerLaws.{breaks_agree}
use Rattle.std.proofs.Common.{take_all}
use Rattle.yaml_writer.specs.Writing.{IsStream}

-- bytes are all that the layout says of some events
abbrev pub IsWhole : Settings → List Event → List ℕ → Type 0
IsWhole given all bytes = bytes ≡ bytes_written (settings_for given all) (list_layout (settings_for given all) all)

-- so are those of a stream
pub stream_whole : (given : Settings) (all : List Event) (bytes : List ℕ) → IsStream given all bytes → IsWhole given all bytes
stream_whole given all bytes is =
    let s = settings_for given all in
    is.output ∙ is.written.output ∙ take_all given.limit (bytes_written s (list_layout s all)) is.written.uncut

-- in portable mode with either kind of line breaks
pub whole_by_either : (given : Settings) (breaks12 : Bool) (all : List Event) (bytes : List ℕ) → given.portable ≡ true → IsWhole given all bytes
    → IsWhole (record given { breaks12 = breaks12 }) all bytes
whole_by_either given breaks12 all bytes portable is =
    is
    ∙ ap (λ (pieces : List Piece). bytes_written (settings_for given all) pieces) (sym (breaks_agree given breaks12 (encoding_asked all) all portable))
