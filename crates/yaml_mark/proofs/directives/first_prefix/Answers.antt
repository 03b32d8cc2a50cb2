use Rattle.yaml_base.proofs.Common.{◌≤◌}
use Rattle.yaml_base.specs.declared.directives.yaml_tag_directive_t.{yaml_tag_directive_t}
use Rattle.yaml_mark.proofs.Common.{Bool, List, Some, None, ℕ, arith, length, drop, subst, string_bytes}
use Rattle.yaml_mark.proofs.IndexLemmas.{first_ahead, first_behind, indexed, position_within}
use Rattle.yaml_mark.proofs.directives.first_prefix.Goals as goal
use Rattle.yaml_mark.specs.{Index.IsIndexed, Spelled.begins_and_is_shorter}
use Rattle.std.proofs.lemmas.List.{length-drop}

abbrev extends : {A : Type 0} → List ℕ → yaml_tag_directive_t A → Bool
extends tag d = begins_and_is_shorter (string_bytes d.prefix) tag

pub overflow_add-result : goal.overflow_add-result
overflow_add-result g c =
    let list = c.args.directives.now in
    let found = indexed c.args.index.now list c.in-Some.index c.deref.result.now c.requires.indexed c.in-Some.is c.deref.ensures in
    let below = position_within (extends c.args.tag.now) (drop 8 list) c.in-Some-first_fitting.place (c.in-Some-first_fitting.ensures (drop 8 list) found.1) in
    omega (arith, below, length-drop 8 list, c.requires.small, found.0)

pub returns-in-Some-scan_prefixes : goal.returns-in-Some-scan_prefixes
returns-in-Some-scan_prefixes g c =
    let list = c.args.directives.now in
    let long : 8 ≤ length list = (subst (λ o. IsIndexed 8 o list) c.in-Some.is c.requires.indexed).0 in
    first_ahead (extends c.args.tag.now) 8 list c.in-Some-scan_prefixes.number long c.in-Some-scan_prefixes.ensures

pub returns-in-Some-first_fitting : goal.returns-in-Some-first_fitting
returns-in-Some-first_fitting g c =
    let list = c.args.directives.now in
    let found = indexed c.args.index.now list c.in-Some.index c.deref.result.now c.requires.indexed c.in-Some.is c.deref.ensures in
    first_behind (extends c.args.tag.now) 8 list (Some c.in-Some-first_fitting.place) found.0 c.in-None-scan_prefixes.ensures
    (c.in-Some-first_fitting.ensures (drop 8 list) found.1)

pub returns-in-None-first_fitting : goal.returns-in-None-first_fitting
returns-in-None-first_fitting g c =
    let list = c.args.directives.now in
    let found = indexed c.args.index.now list c.in-Some.index c.deref.result.now c.requires.indexed c.in-Some.is c.deref.ensures in
    first_behind (extends c.args.tag.now) 8 list None found.0 c.in-None-scan_prefixes.ensures (c.in-None-first_fitting.ensures (drop 8 list) found.1)
