-- The tags of a writer's contents have no flow indicator.
use Rattle.yaml_writer.proofs.Common.{Bool, true, false, Some, [], refl, ◌≡◌, if◌then◌else◌, Text, int_tag, float_tag}
use Rattle.yaml_base.proofs.Common.{directives_in_force, scalar_node, collection_tag}
use Rattle.yaml_base.specs.StreamLaw.{tag_has_flow_indicator, node_has_flow_indicator}
use Rattle.yaml_writer.specs.Contents.{collection_in, text_content, word_content}

-- a tag that is written in canonical form alone
pub word_unsigned : (tag : Text) → tag_has_flow_indicator (directives_in_force []) (Some tag) ≡ false → (canonical : Bool) (word : Text)
    → node_has_flow_indicator canonical (directives_in_force []) (scalar_node (word_content canonical tag word)) ≡ false
word_unsigned tag h true word = h
word_unsigned tag h false word = refl

pub text_unsigned : (text : Text) (canonical : Bool) → node_has_flow_indicator canonical (directives_in_force []) (scalar_node (text_content text)) ≡ false
text_unsigned text true = refl
text_unsigned text false = refl

pub number_unsigned : (x : Bool) → tag_has_flow_indicator (directives_in_force []) (Some (if x then int_tag else float_tag)) ≡ false
number_unsigned true = refl
number_unsigned false = refl

pub collection_unsigned : (canonical in_flow : Bool) → tag_has_flow_indicator (directives_in_force []) (collection_tag canonical (collection_in in_flow)) ≡ false
collection_unsigned true in_flow = refl
collection_unsigned false in_flow = refl
