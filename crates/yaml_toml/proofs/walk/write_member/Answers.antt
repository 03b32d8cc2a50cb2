use Rattle.yaml_toml.proofs.Common.{◌≡◌, ◌∷◌, ◌++◌, [], ◌+◌, ℕ, List, Result, refl, ap, subst, sym, ◌∙◌, append_assoc, arith, Event, scalar, chars}
use Rattle.yaml_toml.proofs.Common.{text_content, common_steps, string_bytes, Mapping, keys_nesting, toml_events, IsStopOf, KeysHaveNumbers, kinds_of, pending}
use Rattle.yaml_toml.proofs.Common.{rest_due, value_due, Stop, TomlNodes, node, node_view}
use Rattle.yaml_toml.proofs.{Pending.keys_left-more, Stepping.due_next, Stepping.step_behind, Stepping.step_end, Stepping.step_failed, Stepping.step_memory}
use Rattle.yaml_toml.specs.Walk.{keys_left, keys_size}
use Rattle.toml_ordered.specs.{Data.no_nodes, Keys.live_view}
use Rattle.yaml_toml.specs.declared.walk.Rest.TheVariants as rest
use Rattle.yaml_toml.proofs.walk.write_member.Goals as goal

pub returns-in-None : goal.returns-in-None
returns-in-None g c =
    let a = c.args in
    let s = a.settings.now in
    let was = a.writer.now in
    let opened = a.opened.now.items in
    let none : no_nodes ≡ live_view a.keys = sym c.in-None.ensures in
    let (outer, levels) = c.requires.innermost in
    let within = levels ∙ sym (append_assoc outer (kinds_of opened) (Mapping ∷ [])) in
    step_end s _ _ _ _ _ _ (ap (keys_left was.canonical s.flow) none) (subst KeysHaveNumbers none tt) (ap (λ (ns : TomlNodes). 1 + keys_size ns) none)
    (ap keys_nesting none) c.stop_of.ensures (c.end_innermost.ensures.kept (outer ++ kinds_of opened) Mapping within) (c.end_innermost.ensures.ended Mapping)

pub returns-in-Err : goal.returns-in-Err
returns-in-Err g c =
    let a = c.args in
    step_memory a.settings.now a.writer.now (rest_due (rest.Members a.keys)) a.opened.now.items c.keep.new.opened.items c.in-Err.stop c.in-Err.ensures.failed

pub returns-in-Err-stop_of : goal.returns-in-Err-stop_of
returns-in-Err-stop_of g c =
    let a = c.args in
    let s = a.settings.now in
    let canonical = a.writer.now.canonical in
    let opened = a.opened.now.items in
    let k = string_bytes c.in-Some.key.now in
    let x = node_view c.in-Some.node.now in
    let ns = live_view c.in-Some.others in
    let all : node k x ns ≡ live_view a.keys = sym c.in-Some.ensures in
    let named : c.as_str.result.now ≡ k = grind (arith, common_steps) in
    let more = toml_events canonical s.flow x ++ keys_left canonical s.flow ns in
    let behind = pending canonical s.flow opened in
    let events =
    ap (λ (bytes : List ℕ). scalar (text_content (chars bytes)) ∷ more) named ∙ sym (keys_left-more canonical s.flow k x ns)
    ∙ ap (keys_left canonical s.flow) all in
    step_failed s _ _ _ _ _ _ _ _ _ (ap (λ (es : List Event). es ++ behind) events) (λ fits. fits)
    (subst (λ (r : Result (Unit {0}) Stop). IsStopOf c.write_text.result r) c.in-Err-stop_of.is c.stop_of-in-Some.ensures) c.write_text.ensures.kept

pub returns-in_default-stop_of : goal.returns-in_default-stop_of
returns-in_default-stop_of g c =
    let a = c.args in
    let s = a.settings.now in
    let canonical = a.writer.now.canonical in
    let opened = a.opened.now.items in
    let kept = c.keep.new.opened.items in
    let k = string_bytes c.in-Some.key.now in
    let x = node_view c.in-Some.node.now in
    let ns = live_view c.in-Some.others in
    let all : node k x ns ≡ live_view a.keys = sym c.in-Some.ensures in
    let named : c.as_str.result.now ≡ k = grind (arith, common_steps) in
    let key = text_content (chars c.as_str.result.now) in
    let more = toml_events canonical s.flow x ++ keys_left canonical s.flow ns in
    let events =
    ap (λ (bytes : List ℕ). scalar (text_content (chars bytes)) ∷ more) named ∙ sym (keys_left-more canonical s.flow k x ns)
    ∙ ap (keys_left canonical s.flow) all in
    let sizes = ap keys_size all in
    step_behind s _ _ _ _ _ _ _ _ _ _ _ (due_next _ _ _ _ x _ _ _ _ c.in_default.ensures.kept refl events (subst KeysHaveNumbers all) (omega (arith, sizes))
    (ap keys_nesting all)) (subst (λ (r : Result (Unit {0}) Stop). IsStopOf c.write_text.result r) c.in_default-stop_of.is c.stop_of-in-Some.ensures)
    c.write_text.ensures.written c.write_text.ensures.kept c.write_node.ensures
