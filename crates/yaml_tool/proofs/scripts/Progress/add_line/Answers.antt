use Rattle.yaml_tool.proofs.Common.{ℕ, if◌then◌else◌, option_map, option_and_then, Option, None, Some, Bool, List, [], map, ◌++◌, ◌∷◌, refl, ◌≡◌, ap, sym, ◌∙◌}
use Rattle.yaml_tool.proofs.Common.{map-append, seen_progress, seen_setting, seen_numbered, subst, IfErr}
use Rattle.yaml_base.specs.scripts.Script.{ScriptState, with_line, line_understood, may_be_set, sets}
use Rattle.yaml_base.specs.scripts.Script as notation
use Rattle.yaml_tool.{specs.Lines.seen_line, specs.Scripts.after_line, specs.declared.lines.Line.Line}
use Rattle.std.specs.Result.{OnOk}
use Rattle.yaml_tool.specs.Scripts.{IsFaultAt}
use Rattle.yaml_tool.proofs.scripts.Progress.add_line.Goals.{in-Ok-push-2, in-Err-push}
use Rattle.yaml_tool.proofs.scripts.Progress.add_line.Goals.{then-not-is_empty-via-then-not-is_empty, then-not-is_empty-via-else-not-is_empty+then-is_set}
use Rattle.std.proofs.{Common.arith, Common.true, Common.false, lemmas.Grind.common_steps}
use Rattle.yaml_tool.proofs.scripts.Progress.add_line.Goals as goal

-- a parsed line joins those before it by its meaning
line_goes : {A : Type 0} (number : ℕ) (before : ScriptState) (bytes : List ℕ) (parsed : Option (Line A)) (given line : Line A)
    → option_map seen_line parsed ≡ line_understood bytes → parsed ≡ Some given → given ≡ line
    → after_line number before bytes ≡ with_line number before (seen_line line)
line_goes number before bytes parsed given line reads is says = grind (arith, option_and_then, with_line, option_map, seen_line)

-- a setting joins them if it is allowed there
setting_goes : (number : ℕ) (before : ScriptState) (setting : notation.Setting) (may : Bool) → may ≡ may_be_set setting before
    → with_line number before (sets setting) ≡ (if may then Some (record before { settings = before.settings ++ setting ∷ [] }) else None)
setting_goes number before setting may is = grind arith

pub returns-in-Some-Nothing-clause-taken : goal.returns-in-Some-Nothing-clause-taken
returns-in-Some-Nothing-clause-taken g c =
    line_goes c.args.number (seen_progress c.args.self.now) c.args.bytes.now _ _ _ c.in-Ok.ensures c.in-Some-Nothing.is c.in-Some-Nothing.field-0-is

pub returns-then-not-is_empty-clause-fault : goal.returns-then-not-is_empty-clause-fault
returns-then-not-is_empty-clause-fault g c =
    let before = seen_progress c.args.self.now in
    let setting = seen_setting c.in-Some-Sets.setting in
    let may_not : false ≡ may_be_set setting before =
    elim c.then-not-is_empty.branch [
      | then-not-is_empty-via-then-not-is_empty w ↦ grind (arith, common_steps)
      | then-not-is_empty-via-else-not-is_empty+then-is_set w ↦ grind (arith, common_steps)
    ] in (
      refl,
      line_goes c.args.number before c.args.bytes.now _ _ _ c.in-Ok.ensures c.in-Some-Sets.is c.in-Some-Sets.field-0-is
          ∙ setting_goes c.args.number before setting false may_not,
    )

pub returns-in-Ok-push-clause-taken : goal.returns-in-Ok-push-clause-taken
returns-in-Ok-push-clause-taken g c =
    let before = seen_progress c.args.self.now in
    let setting = seen_setting c.in-Some-Sets.setting in
    let may : true ≡ may_be_set setting before = grind (arith, common_steps) in
    line_goes c.args.number before c.args.bytes.now _ _ _ c.in-Ok.ensures c.in-Some-Sets.is c.in-Some-Sets.field-0-is
    ∙ setting_goes c.args.number before setting true may
    ∙ ap (λ (settings : List notation.Setting). Some (record before { settings = settings }))
    (sym (map-append seen_setting c.args.self.now.settings.items (c.in-Some-Sets.setting ∷ [])) ∙ ap (map seen_setting) (sym c.in-Ok-push.ensures.items))

pub returns-in-None-clause-fault : goal.returns-in-None-clause-fault
returns-in-None-clause-fault g c = (
  refl,
  ap (option_and_then (with_line c.args.number (seen_progress c.args.self.now))) (sym c.in-Ok.ensures ∙ ap (option_map seen_line) c.in-None.is),
)

pub returns-after-push-2-clause-taken : goal.returns-after-push-2-clause-taken
returns-after-push-2-clause-taken g c =
    let before = seen_progress c.args.self.now in
    let events = map seen_numbered c.push-in-Some-Gives.new.self.items in
    let Taken = after_line c.args.number before c.args.bytes.now ≡ Some (record before { events = events }) in
    elim c.match-push-2.branch [
      | in-Ok-push-2 w ↦
          subst (λ answer. OnOk answer Taken) (sym w.result-is)
          (line_goes c.args.number before c.args.bytes.now _ _ _ c.in-Ok.ensures c.in-Some-Gives.is c.in-Some-Gives.field-0-is
          ∙ ap (λ (events : List notation.Numbered). Some (record before { events = events }))
          (sym (map-append seen_numbered c.args.self.now.events.items (record { line = c.args.number; event = c.in-Some-Gives.event } ∷ []))
          ∙ ap (map seen_numbered) (sym w.in-Ok-push-2.ensures.items)))
      | in-Err-push w ↦ subst (λ answer. OnOk answer Taken) (sym w.result-is) tt
    ]

pub returns-after-push-2-clause-fault : goal.returns-after-push-2-clause-fault
returns-after-push-2-clause-fault g c =
    let after = after_line c.args.number (seen_progress c.args.self.now) c.args.bytes.now in
    elim c.match-push-2.branch [
      | in-Ok-push-2 w ↦ subst (λ answer. IfErr answer (λ error. IsFaultAt error c.args.number after)) (sym w.result-is) tt
      | in-Err-push w ↦ subst (λ answer. IfErr answer (λ error. IsFaultAt error c.args.number after)) (sym w.result-is) tt
    ]
