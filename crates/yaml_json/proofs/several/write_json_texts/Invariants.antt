use denote.Shadow.{shadow}
use denote.Text.{Utf8}
use Rattle.yaml_json.specs.Failing.{Grew}
use Rattle.yaml_json.proofs.{Common.None, Common.length, TextsInTurn.TextsSoFar}
use Rattle.yaml_json.proofs.several.write_json_texts.Given as goal

abbrev pub invariant-texts : goal.invariant-texts
invariant-texts g l =
    shadow (Utf8 l.rest) × TextsSoFar l.settings.values.depth l.settings.values.flow l.settings.unique_names l.text l.initial.writer l.rest l.writer
    × Grew l.initial.writer None l.writer

abbrev pub decreases-texts : goal.decreases-texts
decreases-texts g l = length l.rest
