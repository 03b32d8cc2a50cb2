use Rattle.yaml_tool.proofs.Common.{ℕ, List, ◌++◌, ap, ◌∙◌, script_after_lines}
use Rattle.yaml_tool.specs.Scripts.{nothing_parsed}
use Rattle.yaml_tool.proofs.parts.ScriptPrefix.new.Goals as goal

pub returns : goal.returns
returns g c bytes =
    ap (λ parsed. script_after_lines 1 parsed (c.new-2.result.items ++ bytes)) c.new.ensures
    ∙ ap (λ (line : List ℕ). script_after_lines 1 nothing_parsed (line ++ bytes)) c.new-2.ensures.items
