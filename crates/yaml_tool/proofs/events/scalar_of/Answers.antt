use Rattle.yaml_tool.proofs.Common.{option_map, Option, ◌≡◌, subst, chars, Event, seen_event, later_fields}
use Rattle.std.specs.Result.{IfOk}
use Rattle.yaml_base.specs.Seen.{seen_scalar_style}
use Rattle.yaml_tool.proofs.EventLemmas.{words_joined}
use Rattle.yaml_tool.proofs.events.scalar_of.Goals as goal

pub returns : goal.returns
returns g c =
    subst (λ (all : Option Event). IfOk c.scalar_from.result (λ event. option_map seen_event event ≡ all))
    (words_joined (chars c.in-Some.style.now) (chars c.in-Some-word_after.plain_implicit.now) (chars c.in-Some-word_after-2.quoted_implicit.now)
    (option_map seen_scalar_style c.scalar_style_named.result) c.flag_named.result c.flag_named-2.result
    (later_fields c.in-Some-word_after-2.rest) c.in-Some.ensures c.in-Some-word_after.ensures c.in-Some-word_after-2.ensures
    c.scalar_style_named.ensures c.flag_named.ensures c.flag_named-2.ensures)
    c.scalar_from.ensures
