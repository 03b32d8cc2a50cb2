use Rattle.yaml_tool.proofs.Common.{option_map, MatchOption-at_some, seen_event}
use Rattle.yaml_base.specs.Seen.{seen_scalar_style}
use Rattle.yaml_tool.proofs.EventLemmas.{scalar_joined, no_scalar}
use Rattle.yaml_tool.proofs.events.scalar_from.Goals as goal

pub returns-then-not-is_end : goal.returns-then-not-is_end
returns-then-not-is_end g c =
    let words = c.args.words in
    no_scalar (option_map seen_scalar_style words.style) words.plain_implicit words.quoted_implicit
    (record {
      anchor_read = MatchOption-at_some _ _ _ c.in-Some.is c.in_ok-anchor.ensures;
      tag_read = MatchOption-at_some _ _ _ c.in-Some-2.is c.in_ok-tag.ensures;
      value_read = MatchOption-at_some _ _ _ c.in-Some-3.is c.in_ok-value.ensures.read;
    })
    (c.is_end.ensures.no c.if-not-is_end.true)

pub returns : goal.returns
returns g c =
    let words = c.args.words in
    scalar_joined (option_map seen_scalar_style words.style) words.plain_implicit words.quoted_implicit (option_map seen_event c.scalar_with.result)
    (record {
      anchor_read = MatchOption-at_some _ _ _ c.in-Some.is c.in_ok-anchor.ensures;
      tag_read = MatchOption-at_some _ _ _ c.in-Some-2.is c.in_ok-tag.ensures;
      value_read = MatchOption-at_some _ _ _ c.in-Some-3.is c.in_ok-value.ensures.read;
    })
    (c.is_end.ensures.yes c.if-not-is_end.false) c.scalar_with.ensures
