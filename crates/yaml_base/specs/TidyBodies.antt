-- Tidy bodies: each scalar's text in a layout is tidy at its place.
use Rattle.std.specs.Prelude.{◌≡◌, true}
use Rattle.yaml_base.specs.Settings.{Effective}
use Rattle.yaml_base.specs.NodeLayout.{Body}
use Rattle.yaml_base.specs.reading.TidyText.{is_tidy}

-- a body of the layout is tidy at its place
abbrev pub BodyIsTidy : Effective → Body → Type 0
BodyIsTidy s body = is_tidy body.style s.breaks12 body.column body.text ≡ true
