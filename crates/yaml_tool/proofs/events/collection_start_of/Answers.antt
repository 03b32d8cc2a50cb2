use Rattle.yaml_tool.proofs.Common.{option_map, MatchOption-at_some, chars, seen_text, seen_event, later_fields}
use Rattle.yaml_tool.{proofs.EventLemmas.collection_joined, proofs.EventLemmas.no_collection, specs.Events.seen_collection_style}
use Rattle.yaml_tool.proofs.events.collection_start_of.Goals as goal

pub returns-then-not-is_end : goal.returns-then-not-is_end
returns-then-not-is_end g c =
    no_collection c.args.kind (chars c.in-Some.style.now) (chars c.in-Some-word_after.implicit.now)
    (option_map seen_text c.in-Some-2.anchor) (option_map seen_text c.in-Some-3.tag)
    (later_fields c.args.rest) (later_fields c.in-Some.rest) (later_fields c.in-Some-word_after.rest) (later_fields c.in-Some-2.rest)
    (later_fields c.in-Some-3.rest) c.in-Some.ensures c.in-Some-word_after.ensures
    (MatchOption-at_some _ _ _ c.in-Some-2.is c.in_ok-anchor.ensures) (MatchOption-at_some _ _ _ c.in-Some-3.is c.in_ok-tag.ensures)
    (c.is_end.ensures.no c.if-not-is_end.true)

pub returns : goal.returns
returns g c =
    collection_joined c.args.kind (chars c.in-Some.style.now) (chars c.in-Some-word_after.implicit.now)
    (option_map seen_text c.in-Some-2.anchor) (option_map seen_text c.in-Some-3.tag)
    (later_fields c.args.rest) (later_fields c.in-Some.rest) (later_fields c.in-Some-word_after.rest) (later_fields c.in-Some-2.rest)
    (later_fields c.in-Some-3.rest) (option_map seen_event c.collection_with.result)
    (option_map seen_collection_style c.collection_style_named.result) c.flag_named.result c.in-Some.ensures c.in-Some-word_after.ensures
    (MatchOption-at_some _ _ _ c.in-Some-2.is c.in_ok-anchor.ensures) (MatchOption-at_some _ _ _ c.in-Some-3.is c.in_ok-tag.ensures)
    (c.is_end.ensures.yes c.if-not-is_end.false) c.collection_style_named.ensures c.flag_named.ensures c.collection_with.ensures
