-- A scalar written at its place.
use Rattle.std.specs.Prelude.{◌≡◌, ℕ, Bool, false, Option, Result, OnOk, List, is_some, option_map}
use Rattle.yaml_base.specs.Event.{TagDirective, Scalar, scalar_tag}
use Rattle.yaml_base.specs.Layout.{Place, choice_of, open_ended_after, scalar_piece}
use Rattle.yaml_base.specs.Settings.{Effective}
use Rattle.yaml_base.specs.Tags.{spelling}
use Rattle.yaml_base.specs.declared.errors.yaml_error_t.{yaml_error_t}
use Rattle.yaml_base.specs.scalars.Style.{lacks_tag_and_flags}
use Rattle.yaml_pen.specs.Page.{Page, IsReady}
use Rattle.yaml_pen.specs.Wrote.{Wrote}
use Rattle.yaml_emitter.specs.Atoms.{name_breaks}
use Rattle.yaml_emitter.specs.WrittenAtoms.{seen_tag, spelling_breaks}
use Rattle.yaml_emitter.specs.WrittenPieces.{piece_at}
use Rattle.yaml_emitter.specs.declared.writing.spelling.SpelledTag.{SpelledTag}

-- the names of a scalar were checked; `tag` is written with it if it is there; if not, the scalar has a flag
pub record IsChecked (canonical : Bool) (content : Scalar) (tag : Option SpelledTag) : Type 0 where
  pub anchor : name_breaks content.anchor ≡ false
  pub handle : spelling_breaks (seen_tag tag) ≡ false
  pub tag_written : is_some tag ≡ is_some (scalar_tag canonical content)
  pub flags : lacks_tag_and_flags (is_some (scalar_tag canonical content)) content.plain_implicit content.quoted_implicit ≡ false

-- the scalar's piece is written, under the directives by which its tag is spelled, with `open_ended` before it; the state after it is
-- that of the piece
pub record WritesScalar (s : Effective) (place : Place) (simple : Bool) (content : Scalar) (tag : Option SpelledTag) (before after : Page)
    (open_ended now : ℕ) (answer : Result (Unit {0}) yaml_error_t) : Type 0 where
  pub written : (directives : List TagDirective) → seen_tag tag ≡ option_map (spelling directives) (scalar_tag s.canonical content)
      → Wrote (piece_at (scalar_piece s directives place simple content) open_ended) before after answer
  pub ready : IsReady after
  pub open_ended_is : OnOk answer (now ≡ open_ended_after (choice_of s place simple content).style content.value open_ended)
