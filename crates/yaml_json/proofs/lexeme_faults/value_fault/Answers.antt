use Rattle.yaml_json.proofs.Common.{◌≡◌, ◌+◌, ◌==◌, if◌then◌else◌, Option, None, drop, subst, sym, ap, ◌∙◌, drop-drop, head, Fault, FaultsAt, content_fault}
use Rattle.yaml_json.specs.Faults.{begins_number, number_fault, value_fault}
use Rattle.yaml_json.proofs.lexeme_faults.value_fault.Goals as goal

pub returns-then-byte-eq34 : goal.returns-then-byte-eq34
returns-then-byte-eq34 c =
    let text = c.args.text.now in
    let rest = drop c.args.at text in
    let quote : head rest ≡ 34 = sym c.byte_at-byte.ensures ∙ c.if-byte-eq34.true in
    let same : value_fault rest ≡ content_fault 0 (drop (c.args.at + 1) text) =
    ap (λ byte. if byte == 34 then content_fault 0 (drop 1 rest) else (if begins_number byte then number_fault rest else None)) quote
    ∙ ap (content_fault 0) (drop-drop 1 c.args.at text) in
    subst (λ (fault : Option Fault). FaultsAt text c.string_fault.result fault) (sym same) c.string_fault.ensures
