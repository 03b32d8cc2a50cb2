-- The events of JSON values are written alike in every mode.
use Rattle.yaml_json.proofs.Common.{if◌then◌else◌, is_some, codes, Bool, false, not, true, ◌&&◌, ◌||◌, List, [], ◌++◌, ◌∷◌, refl, ◌≡◌, ap, ◌∙◌, false≢true}
use Rattle.yaml_json.proofs.Common.{chars, Json, null, boolean, number, string, Items, array, Members, object, no_items, item, no_members, member, HasNumbers}
use Rattle.yaml_json.proofs.Common.{Text, Scalar, scalar_tag, collection_tag, scalar_node, Nodes, Pairs, no_nodes, nodes_and, no_pairs, pairs_and}
use Rattle.yaml_json.proofs.Common.{directives_in_force, is_empty, is_plain, JsonNumber, is_json_number, minus, fraction_or_default, is_json_integer}
use Rattle.yaml_json.proofs.Common.{yaml_number, are_digits, null_tag, bool_tag, bool_text, number_content, text_content, collection_in, number_in, number_tag}
use Rattle.yaml_base.proofs.Common.{or_from, is_written_as_nothing, requested_style, exponent_spelled}
use Rattle.yaml_base.specs.StreamLaw.{tag_has_flow_indicator, node_has_flow_indicator, nodes_have_flow_indicator, pairs_have_flow_indicator}
use Rattle.yaml_json.proofs.{NumberBridge.number_is, Trees.json_node, Trees.items_nodes, Trees.members_pairs, Trees.nodes_of}
use Rattle.yaml_writer.proofs.{DocumentsOf.AreUnsigned, SpellingLemmas.whole_digits}
use Rattle.yaml_writer.proofs.Unsigned.{collection_unsigned, number_unsigned, text_unsigned, word_unsigned}

-- Nothing is lost

text_written : (text : Text) (canonical : Bool) → is_written_as_nothing canonical (scalar_node (text_content text)) ≡ false
text_written [] true = refl
text_written _ _ = refl

digits_filled : (negative : Bool) (whole rest : Text) → are_digits 10 whole ≡ true → is_empty (minus negative ++ whole ++ rest) ≡ false
digits_filled negative [] rest h = absurd (false≢true h)
digits_filled true (c ∷ whole) rest h = refl
digits_filled false (c ∷ whole) rest h = refl

number_filled : (parts : JsonNumber) → is_json_number parts ≡ true → is_empty (yaml_number parts) ≡ false
number_filled parts valid =
    digits_filled parts.negative parts.whole
    (if is_json_integer parts then [] else codes "." ++ fraction_or_default (codes "0") parts ++ exponent_spelled parts.exponent) (whole_digits parts valid)

number_written : (content : Scalar) (canonical : Bool) → is_empty content.value ≡ false → is_written_as_nothing canonical (scalar_node content) ≡ false
number_written content canonical filled =
    ap (λ (empty : Bool). empty && not (is_some content.anchor) && not (is_some (scalar_tag canonical content)) && content.plain_implicit
    && is_plain (requested_style canonical content.style)) filled

-- a value's root is written as something
pub value_written : (json : Json) (canonical in_flow : Bool) → HasNumbers json → is_written_as_nothing canonical (json_node json canonical in_flow) ≡ false
value_written (boolean true) canonical in_flow numbers = refl
value_written (number text) canonical in_flow numbers =
    number_written (number_content canonical (number_in text)) canonical (number_filled (number_in text) (number_is text numbers).valid)
value_written (string text) canonical in_flow numbers = text_written (chars text) canonical
value_written _ canonical in_flow numbers = refl

-- No tag has a flow indicator

no_more : (x y : Bool) → y ≡ false → (x || y) ≡ x
no_more true y h = refl
no_more false y h = h

mutual
  value_unsigned : (json : Json) (canonical in_flow : Bool)
      → node_has_flow_indicator canonical (directives_in_force []) (json_node json canonical in_flow) ≡ false
  value_unsigned null canonical in_flow = word_unsigned null_tag refl canonical (codes "null")
  value_unsigned (boolean flag) canonical in_flow = word_unsigned bool_tag refl canonical (bool_text flag)
  value_unsigned (number text) canonical in_flow =
      word_unsigned (number_tag (number_in text)) (number_unsigned (is_json_integer (number_in text))) canonical (yaml_number (number_in text))
  value_unsigned (string text) canonical in_flow = text_unsigned (chars text) canonical
  value_unsigned (array items) canonical in_flow =
      or_from (tag_has_flow_indicator (directives_in_force []) (collection_tag canonical (collection_in in_flow)))
      (nodes_have_flow_indicator canonical (directives_in_force []) (items_nodes items canonical in_flow no_nodes)) (collection_unsigned canonical in_flow)
      (items_unsigned items canonical in_flow no_nodes)
  value_unsigned (object members) canonical in_flow =
      or_from (tag_has_flow_indicator (directives_in_force []) (collection_tag canonical (collection_in in_flow)))
      (pairs_have_flow_indicator canonical (directives_in_force []) (members_pairs members canonical in_flow no_pairs)) (collection_unsigned canonical in_flow)
      (members_unsigned members canonical in_flow no_pairs)

  items_unsigned : (items : Items) (canonical in_flow : Bool) (before : Nodes)
      → nodes_have_flow_indicator canonical (directives_in_force []) (items_nodes items canonical in_flow before)
      ≡ nodes_have_flow_indicator canonical (directives_in_force []) before
  items_unsigned no_items canonical in_flow before = refl
  items_unsigned (item json items) canonical in_flow before =
      items_unsigned items canonical in_flow (nodes_and before (json_node json canonical in_flow))
      ∙ no_more (nodes_have_flow_indicator canonical (directives_in_force []) before)
      (node_has_flow_indicator canonical (directives_in_force []) (json_node json canonical in_flow)) (value_unsigned json canonical in_flow)

  members_unsigned : (members : Members) (canonical in_flow : Bool) (before : Pairs)
      → pairs_have_flow_indicator canonical (directives_in_force []) (members_pairs members canonical in_flow before)
      ≡ pairs_have_flow_indicator canonical (directives_in_force []) before
  members_unsigned no_members canonical in_flow before = refl
  members_unsigned (member key json members) canonical in_flow before =
      let named = scalar_node (text_content (chars key)) in
      members_unsigned members canonical in_flow (pairs_and before named (json_node json canonical in_flow))
      ∙ no_more (pairs_have_flow_indicator canonical (directives_in_force []) before || node_has_flow_indicator canonical (directives_in_force []) named)
      (node_has_flow_indicator canonical (directives_in_force []) (json_node json canonical in_flow)) (value_unsigned json canonical in_flow)
      ∙ no_more (pairs_have_flow_indicator canonical (directives_in_force []) before) (node_has_flow_indicator canonical (directives_in_force []) named)
      (text_unsigned (chars key) canonical)

pub are_unsigned : (canonical in_flow : Bool) (values : List Json) → AreUnsigned canonical (nodes_of canonical in_flow values)
are_unsigned canonical in_flow [] = tt
are_unsigned canonical in_flow (json ∷ values) = (value_unsigned json canonical in_flow, are_unsigned canonical in_flow values)
