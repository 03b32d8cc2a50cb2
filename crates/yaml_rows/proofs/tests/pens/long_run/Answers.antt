use Rattle.yaml_base.proofs.Common.{false, ◌||◌, ap, ◌∙◌, list_any-append, list_any, is_break}
use Rattle.std.proofs.lemmas.Str.{chars-nil, IsUtf8-string_bytes, chars-append}
use Rattle.std.specs.{Str.chars, String.string_bytes}
use Rattle.yaml_rows.proofs.tests.pens.long_run.Goals as goal

pub cycles-init : goal.cycles-init
cycles-init g c = ap (λ b. list_any is_break (chars b)) c.new-text.ensures.bytes ∙ ap (list_any is_break) chars-nil

pub cycles-preserved : goal.cycles-preserved
unfolding chars
cycles-preserved g c =
    ap (λ b. list_any is_break (chars b)) c.in_ok-push_str.ensures.bytes
    ∙ ap (list_any is_break) (chars-append (string_bytes c.cycles.text) _ (IsUtf8-string_bytes c.cycles.text))
    ∙ list_any-append is_break (chars (string_bytes c.cycles.text)) _
    ∙ ap (λ b. b || false) c.cycles.invariant
