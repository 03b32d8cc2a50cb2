-- The tokens of a tree's canonical text, as they are rendered: a comma or an opening bracket precedes each entry.
use Rattle.yaml_emitter.proofs.Common.{Option, None, Some, codes, Bool, false, not, true, ◌&&◌, List, [], ◌++◌, ◌∷◌, Text, Version, TagDirective, Node}
use Rattle.yaml_emitter.proofs.Common.{alias_node, scalar_node, Nodes, sequence_node, Pairs, mapping_node, no_nodes, nodes_and, no_pairs, pairs_and, Document}
use Rattle.yaml_emitter.proofs.Common.{Documents, no_documents, documents_and, has_directives, has_no_nodes, has_no_pairs, directives_in_force, spelling}
use Rattle.yaml_emitter.proofs.Common.{spelled, Token, version_line, tag_line, document_begins, document_ends, anchor_token, alias_token, tag_token}
use Rattle.yaml_emitter.proofs.Common.{scalar_token, opens_sequence, closes_sequence, opens_mapping, closes_mapping, key_token, value_token, comma}

abbrev pub anchor_tokens : Option Text → List Token
anchor_tokens None = []
anchor_tokens (Some name) = anchor_token name ∷ []

-- a written tag, the bare tag or none
abbrev pub tag_tokens : (portable : Bool) → List TagDirective → Option Text → (bare : Bool) → List Token
tag_tokens portable own (Some tag) bare = tag_token (spelled portable (spelling (directives_in_force own) tag)) ∷ []
tag_tokens portable own None true = tag_token (codes "!") ∷ []
tag_tokens portable own None false = []

abbrev pub properties_tokens : (portable : Bool) → List TagDirective → Option Text → Option Text → (bare : Bool) → List Token
properties_tokens portable own anchor tag bare = anchor_tokens anchor ++ tag_tokens portable own tag bare

-- the indicator before an entry, or before the end
abbrev pub entry_indicator : Token → (first : Bool) → Token
entry_indicator opening true = opening
entry_indicator opening false = comma

abbrev mutual
  pub node_tokens : (portable : Bool) → Node → List TagDirective → List Token
  node_tokens portable (alias_node name) own = alias_token name ∷ []
  node_tokens portable (scalar_node content) own =
      properties_tokens portable own content.anchor content.tag (not content.quoted_implicit) ++ scalar_token content.value ∷ []
  node_tokens portable (sequence_node start items) own =
      (properties_tokens portable own start.anchor start.tag false ++ nodes_tokens portable items own)
      ++ (entry_indicator opens_sequence (has_no_nodes items) ∷ closes_sequence ∷ [])
  node_tokens portable (mapping_node start pairs) own =
      (properties_tokens portable own start.anchor start.tag false ++ pairs_tokens portable pairs own)
      ++ (entry_indicator opens_mapping (has_no_pairs pairs) ∷ closes_mapping ∷ [])

  pub nodes_tokens : (portable : Bool) → Nodes → List TagDirective → List Token
  nodes_tokens portable no_nodes own = []
  nodes_tokens portable (nodes_and items last) own =
      nodes_tokens portable items own ++ (entry_indicator opens_sequence (has_no_nodes items) ∷ node_tokens portable last own)

  pub pairs_tokens : (portable : Bool) → Pairs → List TagDirective → List Token
  pairs_tokens portable no_pairs own = []
  pairs_tokens portable (pairs_and pairs key value) own =
      (pairs_tokens portable pairs own ++ (entry_indicator opens_mapping (has_no_pairs pairs) ∷ key_token ∷ node_tokens portable key own))
      ++ (value_token ∷ node_tokens portable value own)

abbrev pub version_tokens : Option Version → List Token
version_tokens None = []
version_tokens (Some version) = version_line version ∷ []

abbrev pub tag_line_tokens : List TagDirective → List Token
tag_line_tokens [] = []
tag_line_tokens (directive ∷ rest) = tag_line directive ∷ tag_line_tokens rest

abbrev pub end_tokens : Bool → List Token
end_tokens true = document_ends ∷ []
end_tokens false = []

-- a document, after one that was left open or not
abbrev pub document_tokens : (portable : Bool) → (after_open : Bool) → Document → List Token
document_tokens portable after_open document =
    ((((end_tokens (has_directives document.start && after_open) ++ version_tokens document.start.version)
    ++ tag_line_tokens document.start.directives) ++ document_begins ∷ [])
    ++ node_tokens portable document.root document.start.directives)
    ++ end_tokens (not document.end_implicit)

-- the last document was left open
abbrev pub left_open : Documents → Bool
left_open no_documents = false
left_open (documents_and before document) = document.end_implicit

abbrev pub documents_tokens : (portable : Bool) → Documents → List Token
documents_tokens portable no_documents = []
documents_tokens portable (documents_and before document) = documents_tokens portable before ++ document_tokens portable (left_open before) document
