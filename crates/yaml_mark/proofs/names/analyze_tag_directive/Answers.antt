use Rattle.yaml_mark.proofs.Common.{None, Some, sym}
use Rattle.yaml_base.specs.declared.errors.yaml_error_t.TheVariants.{TagPrefixEmpty}
use Rattle.yaml_mark.proofs.HandleLemmas as fact
use Rattle.yaml_mark.proofs.names.analyze_tag_directive.Goals as goal

pub returns-then-is_empty : goal.returns-then-is_empty
returns-then-is_empty g c =
    fact.by_prefix _ _ c.as_str.result.now c.as_str-2.result.now (Some TagPrefixEmpty) c.as_str.ensures.value c.as_str-2.ensures.value
    c.in_ok-analyze_handle.ensures (fact.empty_prefix c.as_str-2.result.now (sym c.if-is_empty.ensures))

pub returns : goal.returns
returns g c =
    fact.by_prefix _ _ c.as_str.result.now c.as_str-2.result.now None c.as_str.ensures.value c.as_str-2.ensures.value
    c.in_ok-analyze_handle.ensures (fact.good_prefix c.as_str-2.result.now c.as_str-2.utf8 (sym c.if-is_empty.ensures))
