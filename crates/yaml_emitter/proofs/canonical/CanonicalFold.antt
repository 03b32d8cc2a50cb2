-- The canonical reader makes a tree's content of its tokens.
use Rattle.yaml_emitter.proofs.Common.{fold, Option, None, Some, Bool, false, not, true, List, [], ◌++◌, ◌∷◌, refl, ◌≡◌, append_assoc, ap, ◌∙◌, fold-append}
use Rattle.yaml_emitter.proofs.Common.{Text, TagDirective, Event, scalar, sequence_start, mapping_start, Node, alias_node, scalar_node, Nodes, sequence_node}
use Rattle.yaml_emitter.proofs.Common.{Pairs, mapping_node, no_nodes, nodes_and, no_pairs, pairs_and, has_no_nodes, has_no_pairs, directives_in_force}
use Rattle.yaml_emitter.proofs.Common.{spelling, spelled, node_awaited, Head, Reading, within, token_read, Token, scalar_token, opens_sequence}
use Rattle.yaml_emitter.proofs.Common.{closes_sequence, opens_mapping, closes_mapping, key_token, value_token, comma, DocumentContent}
use Rattle.yaml_base.proofs.Common.{read_tag, scalar_content, node_content, ParsedTag, bare_parsed, name_parsed}
use Rattle.yaml_base.specs.reading.CanonicalReader.{OpenContent, open_sequence, open_mapping, entry_awaited, comma_awaited, with_content, with_tag}
use Rattle.yaml_base.specs.reading.Content.{Contents, content_tag, nodes_content, pairs_content}
use Rattle.yaml_emitter.proofs.canonical.CanonicalEvents.{EachNode, EachItem, EachPair}
use Rattle.yaml_emitter.proofs.canonical.CanonicalTokens.{properties_tokens, entry_indicator, node_tokens, nodes_tokens, pairs_tokens}

abbrev parsed_of : Option Text → (bare : Bool) → Option ParsedTag
parsed_of (Some tag) bare = Some (name_parsed tag)
parsed_of None true = Some bare_parsed
parsed_of None false = None

-- a tag that is read back in a document with these directives
abbrev pub TagReads : (portable : Bool) → List TagDirective → Option Text → Type 0
TagReads portable own None = Unit {0}
TagReads portable own (Some tag) = read_tag own (spelled portable (spelling (directives_in_force own) tag)) ≡ Some (name_parsed tag)

-- an event's tag is read back
abbrev pub TagOf : (portable : Bool) → List TagDirective → Event → Type 0
TagOf portable own (scalar content) = TagReads portable own content.tag
TagOf portable own (sequence_start start) = TagReads portable own start.tag
TagOf portable own (mapping_start start) = TagReads portable own start.tag
TagOf portable own _ = Unit {0}

-- fold over several lists
fold3 : (z : Reading) (a b c : List Token) → fold token_read z ((a ++ b) ++ c) ≡ fold token_read (fold token_read (fold token_read z a) b) c
fold3 z a b c = fold-append token_read z (a ++ b) c ∙ ap (λ r. fold token_read r c) (fold-append token_read z a b)

-- tokens begin with one
record Begins (first : Token) (tokens : List Token) : Type 0 where
  rest : List Token
  is : tokens ≡ first ∷ rest

items_begin : (portable : Bool) (items : Nodes) (own : List TagDirective) (tail : List Token)
    → Begins opens_sequence (nodes_tokens portable items own ++ (entry_indicator opens_sequence (has_no_nodes items) ∷ tail))
items_begin portable no_nodes own tail = record { rest = tail; is = refl }
items_begin portable (nodes_and items last) own tail =
    let inner = items_begin portable items own (node_tokens portable last own ++ comma ∷ tail) in
    record {
      rest = inner.rest;
      is = append_assoc (nodes_tokens portable items own)
          (entry_indicator opens_sequence (has_no_nodes items) ∷ node_tokens portable last own) (comma ∷ tail) ∙ inner.is;
    }

pairs_begin : (portable : Bool) (pairs : Pairs) (own : List TagDirective) (tail : List Token)
    → Begins opens_mapping (pairs_tokens portable pairs own ++ (entry_indicator opens_mapping (has_no_pairs pairs) ∷ tail))
pairs_begin portable no_pairs own tail = record { rest = tail; is = refl }
pairs_begin portable (pairs_and pairs key value) own tail =
    let k = entry_indicator opens_mapping (has_no_pairs pairs) ∷ key_token ∷ node_tokens portable key own in
    let v = value_token ∷ node_tokens portable value own in
    let inner = pairs_begin portable pairs own (key_token ∷ (node_tokens portable key own ++ (v ++ comma ∷ tail))) in
    record {
      rest = inner.rest;
      is = append_assoc (pairs_tokens portable pairs own ++ k) v (comma ∷ tail) ∙ append_assoc (pairs_tokens portable pairs own) k (v ++ comma ∷ tail)
          ∙ inner.is;
    }

module _ (portable : Bool) (documents : List DocumentContent) (head : Head) where
  -- a place at which a node is awaited
  abbrev awaits : List OpenContent → Option Text → Option ParsedTag → Reading
  awaits levels given read = within documents head levels (node_awaited given read)

  properties_fold : (levels : List OpenContent) (anchor tag : Option Text) (bare : Bool) → TagReads portable head.directives tag
      → fold token_read (awaits levels None None) (properties_tokens portable head.directives anchor tag bare) ≡ awaits levels anchor (parsed_of tag bare)
  properties_fold levels None None true h = refl
  properties_fold levels None None false h = refl
  properties_fold levels (Some name) None true h = refl
  properties_fold levels (Some name) None false h = refl
  properties_fold levels None (Some tag) bare h = ap (with_tag documents head levels None) h
  properties_fold levels (Some name) (Some tag) bare h = ap (with_tag documents head levels (Some name)) h

  scalar_fold : (levels : List OpenContent) (anchor tag : Option Text) (quoted : Bool) (value : Text)
      → token_read (awaits levels anchor (parsed_of tag (not quoted))) (scalar_token value)
      ≡ with_content documents head levels (scalar_content anchor (content_tag tag quoted) value)
  scalar_fold levels None None true value = refl
  scalar_fold levels None None false value = refl
  scalar_fold levels (Some name) None true value = refl
  scalar_fold levels (Some name) None false value = refl
  scalar_fold levels None (Some tag) quoted value = refl
  scalar_fold levels (Some name) (Some tag) quoted value = refl

  -- the place in a sequence after its first items
  abbrev in_sequence : List OpenContent → Option Text → Option Text → Nodes → Reading
  in_sequence levels anchor tag no_nodes = awaits levels anchor (parsed_of tag false)
  in_sequence levels anchor tag (nodes_and items last) =
      within documents head (open_sequence anchor tag (nodes_content (nodes_and items last)) ∷ levels) comma_awaited

  abbrev in_mapping : List OpenContent → Option Text → Option Text → Pairs → Reading
  in_mapping levels anchor tag no_pairs = awaits levels anchor (parsed_of tag false)
  in_mapping levels anchor tag (pairs_and pairs key value) =
      within documents head (open_mapping anchor tag (pairs_content (pairs_and pairs key value)) None ∷ levels) comma_awaited

  sequence_indicator : (levels : List OpenContent) (anchor tag : Option Text) (items : Nodes)
      → token_read (in_sequence levels anchor tag items) (entry_indicator opens_sequence (has_no_nodes items))
      ≡ within documents head (open_sequence anchor tag (nodes_content items) ∷ levels) entry_awaited
  sequence_indicator levels None None no_nodes = refl
  sequence_indicator levels None (Some tag) no_nodes = refl
  sequence_indicator levels (Some name) None no_nodes = refl
  sequence_indicator levels (Some name) (Some tag) no_nodes = refl
  sequence_indicator levels anchor tag (nodes_and items last) = refl

  mapping_indicator : (levels : List OpenContent) (anchor tag : Option Text) (pairs : Pairs)
      → token_read (in_mapping levels anchor tag pairs) (entry_indicator opens_mapping (has_no_pairs pairs))
      ≡ within documents head (open_mapping anchor tag (pairs_content pairs) None ∷ levels) entry_awaited
  mapping_indicator levels None None no_pairs = refl
  mapping_indicator levels None (Some tag) no_pairs = refl
  mapping_indicator levels (Some name) None no_pairs = refl
  mapping_indicator levels (Some name) (Some tag) no_pairs = refl
  mapping_indicator levels anchor tag (pairs_and pairs key value) = refl

  -- a node as an item begins as any node
  item_begins : (levels : List OpenContent) (anchor tag : Option Text) (items : Contents) (n : Node)
      → fold token_read (within documents head (open_sequence anchor tag items ∷ levels) entry_awaited) (node_tokens portable n head.directives)
      ≡ fold token_read (awaits (open_sequence anchor tag items ∷ levels) None None) (node_tokens portable n head.directives)
  item_begins levels anchor tag items (alias_node name) = refl
  item_begins levels anchor tag items (scalar_node content) = by content.anchor content.tag content.quoted_implicit
    where
      by : (given named : Option Text) (quoted : Bool)
          → fold token_read (within documents head (open_sequence anchor tag items ∷ levels) entry_awaited)
          (properties_tokens portable head.directives given named (not quoted) ++ scalar_token content.value ∷ [])
          ≡ fold token_read (awaits (open_sequence anchor tag items ∷ levels) None None)
          (properties_tokens portable head.directives given named (not quoted) ++ scalar_token content.value ∷ [])
      by (Some name) named quoted = refl
      by None (Some t) quoted = refl
      by None None true = refl
      by None None false = refl
  item_begins levels anchor tag items (sequence_node start inner) = by start.anchor start.tag
    where
      by : (given named : Option Text)
          → fold token_read (within documents head (open_sequence anchor tag items ∷ levels) entry_awaited)
          ((properties_tokens portable head.directives given named false ++ nodes_tokens portable inner head.directives)
          ++ (entry_indicator opens_sequence (has_no_nodes inner) ∷ closes_sequence ∷ []))
          ≡ fold token_read (awaits (open_sequence anchor tag items ∷ levels) None None)
          ((properties_tokens portable head.directives given named false ++ nodes_tokens portable inner head.directives)
          ++ (entry_indicator opens_sequence (has_no_nodes inner) ∷ closes_sequence ∷ []))
      by (Some name) named = refl
      by None (Some t) = refl
      by None None =
          let begins = items_begin portable inner head.directives (closes_sequence ∷ []) in
          rw begins.is refl
  item_begins levels anchor tag items (mapping_node start pairs) = by start.anchor start.tag
    where
      by : (given named : Option Text)
          → fold token_read (within documents head (open_sequence anchor tag items ∷ levels) entry_awaited)
          ((properties_tokens portable head.directives given named false ++ pairs_tokens portable pairs head.directives)
          ++ (entry_indicator opens_mapping (has_no_pairs pairs) ∷ closes_mapping ∷ []))
          ≡ fold token_read (awaits (open_sequence anchor tag items ∷ levels) None None)
          ((properties_tokens portable head.directives given named false ++ pairs_tokens portable pairs head.directives)
          ++ (entry_indicator opens_mapping (has_no_pairs pairs) ∷ closes_mapping ∷ []))
      by (Some name) named = refl
      by None (Some t) = refl
      by None None =
          let begins = pairs_begin portable pairs head.directives (closes_mapping ∷ []) in
          rw begins.is refl

  mutual
    pub node_fold : (n : Node) (levels : List OpenContent) → EachNode n (TagOf portable head.directives)
        → fold token_read (awaits levels None None) (node_tokens portable n head.directives) ≡ with_content documents head levels (node_content n)
    node_fold (alias_node name) levels h = refl
    node_fold (scalar_node content) levels h =
        fold-append token_read (awaits levels None None) (properties_tokens portable head.directives content.anchor content.tag (not content.quoted_implicit))
        (scalar_token content.value ∷ [])
        ∙ ap (λ r. token_read r (scalar_token content.value)) (properties_fold levels content.anchor content.tag (not content.quoted_implicit) h)
        ∙ scalar_fold levels content.anchor content.tag content.quoted_implicit content.value
    node_fold (sequence_node start items) levels h =
        let tail = entry_indicator opens_sequence (has_no_nodes items) ∷ closes_sequence ∷ [] in
        fold3 (awaits levels None None) (properties_tokens portable head.directives start.anchor start.tag false)
        (nodes_tokens portable items head.directives) tail
        ∙ ap (λ r. fold token_read (fold token_read r (nodes_tokens portable items head.directives)) tail)
        (properties_fold levels start.anchor start.tag false h.0)
        ∙ ap (λ r. fold token_read r tail) (items_fold items levels start.anchor start.tag h.1)
        ∙ ap (λ r. token_read r closes_sequence) (sequence_indicator levels start.anchor start.tag items)
    node_fold (mapping_node start pairs) levels h =
        let tail = entry_indicator opens_mapping (has_no_pairs pairs) ∷ closes_mapping ∷ [] in
        fold3 (awaits levels None None) (properties_tokens portable head.directives start.anchor start.tag false)
        (pairs_tokens portable pairs head.directives) tail
        ∙ ap (λ r. fold token_read (fold token_read r (pairs_tokens portable pairs head.directives)) tail)
        (properties_fold levels start.anchor start.tag false h.0)
        ∙ ap (λ r. fold token_read r tail) (pairs_fold pairs levels start.anchor start.tag h.1)
        ∙ ap (λ r. token_read r closes_mapping) (mapping_indicator levels start.anchor start.tag pairs)

    items_fold : (items : Nodes) (levels : List OpenContent) (anchor tag : Option Text) → EachItem items (TagOf portable head.directives)
        → fold token_read (awaits levels anchor (parsed_of tag false)) (nodes_tokens portable items head.directives) ≡ in_sequence levels anchor tag items
    items_fold no_nodes levels anchor tag h = refl
    items_fold (nodes_and items last) levels anchor tag h =
        let symbol = entry_indicator opens_sequence (has_no_nodes items) in
        fold-append token_read (awaits levels anchor (parsed_of tag false)) (nodes_tokens portable items head.directives)
        (symbol ∷ node_tokens portable last head.directives)
        ∙ ap (λ r. fold token_read (token_read r symbol) (node_tokens portable last head.directives)) (items_fold items levels anchor tag h.0)
        ∙ ap (λ r. fold token_read r (node_tokens portable last head.directives)) (sequence_indicator levels anchor tag items)
        ∙ item_begins levels anchor tag (nodes_content items) last
        ∙ node_fold last (open_sequence anchor tag (nodes_content items) ∷ levels) h.1

    pairs_fold : (pairs : Pairs) (levels : List OpenContent) (anchor tag : Option Text) → EachPair pairs (TagOf portable head.directives)
        → fold token_read (awaits levels anchor (parsed_of tag false)) (pairs_tokens portable pairs head.directives) ≡ in_mapping levels anchor tag pairs
    pairs_fold no_pairs levels anchor tag h = refl
    pairs_fold (pairs_and pairs key value) levels anchor tag h =
        let symbol = entry_indicator opens_mapping (has_no_pairs pairs) in
        let held = pairs_content pairs in
        fold3 (awaits levels anchor (parsed_of tag false)) (pairs_tokens portable pairs head.directives)
        (symbol ∷ key_token ∷ node_tokens portable key head.directives) (value_token ∷ node_tokens portable value head.directives)
        ∙ ap (λ r. fold token_read (fold token_read r (symbol ∷ key_token ∷ node_tokens portable key head.directives))
        (value_token ∷ node_tokens portable value head.directives)) (pairs_fold pairs levels anchor tag h.0)
        ∙ ap (λ r. fold token_read (fold token_read (token_read r key_token) (node_tokens portable key head.directives))
        (value_token ∷ node_tokens portable value head.directives)) (mapping_indicator levels anchor tag pairs)
        ∙ ap (λ r. fold token_read r (value_token ∷ node_tokens portable value head.directives))
        (node_fold key (open_mapping anchor tag held None ∷ levels) h.1)
        ∙ node_fold value (open_mapping anchor tag held (Some (node_content key)) ∷ levels) h.2
