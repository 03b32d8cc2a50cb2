-- A node's own word in flow, with its anchor and tag: it is one word among the tokens, and reads as the node's tree.
use Rattle.yaml_base.proofs.Common.{and_from, or_from}
use Rattle.yaml_base.proofs.Common.{ℕ, if◌then◌else◌, ◌==◌, option_map, Option, None, Some, codes, Bool, false, not, true, ◌&&◌, [], ◌++◌, ◌∷◌, refl, ◌≡◌}
use Rattle.yaml_base.proofs.Common.{true≢false, ap, ◌∙◌, arith, and_parts, or_parts, false≢true, nat_tests, list_all, Text, is_among, is_alpha, ScalarStyle}
use Rattle.yaml_base.proofs.Common.{plain, is_read_white, holds_no_plain, Properties, read_plain, ParsedTag, has_clean_edges, is_tidy, is_plain, Tree}
use Rattle.yaml_base.proofs.Common.{alias_tree, scalar_tree, Rules, name_read, collection_tag_parsed, tagging_of, stood_in_style, scalar_parsed}
use Rattle.yaml_base.proofs.Common.{scalar_of_style, word_by_kind, word_after, word_read, word, FlowStep, begins_plain, begins_bracket, is_pair, class_of}
use Rattle.yaml_base.proofs.{Common.begun_token, Common.flow_tokens, stream_keys.StreamAliasKeys.alias_word, stream_lines.StreamTidyLaws.tidy_at_root}
use Rattle.yaml_base.proofs.{stream_nodes.StreamAgrees.tagging_in, stream_nodes.StreamLeads.lead_then, stream_nodes.StreamStands.tag_meant}
use Rattle.yaml_base.proofs.{stream_flow.StreamSays.Says, stream_flow.StreamSays.class_fixed}
use Rattle.yaml_base.proofs.stream_lines.StreamCuts.{none_not_some, quote_of, quoted_in, read_quoted}
use Rattle.yaml_base.proofs.stream_flow.StreamPlainWords.{is_white_class, all_stay, ends_shown, plain_text_word}
use Rattle.yaml_base.proofs.stream_flow.StreamPropertyWords.{lead, lead_passes, Leads, says_quoted_after, says_plain_after, says_empty_after}
use Rattle.yaml_base.proofs.stream_keys.StreamPlainKeys.{not_among, Begins, begins, plain_kind, plain_style, reads_plain, tidy_begins}
use Rattle.yaml_base.proofs.stream_nodes.StreamProperties.{IsTagged, IsNamed, begins_content, name_letters, word_with_properties}

-- a text begins with a character that closes no collection
abbrev pub opens_inside : Text → Bool
opens_inside [] = false
opens_inside (c ∷ rest) = not (c == 0x5D) && not (c == 0x7D)

-- a word in flow, and the tree that it is
pub record FlowWord (rules : Rules) (text : Text) (tree : Tree) : Type 0 where
  pub says : Says rules.breaks12 text (word text ∷ [])
  pub reads : word_read rules true text ≡ Some tree
  pub opens : opens_inside text ≡ true

-- an anchor and a tag, as they are written and as they are meant
pub record Given (rules : Rules) (anchor tag : Option Text) (parsed : Option ParsedTag) : Type 0 where
  pub named : IsNamed anchor
  pub tagged : IsTagged rules.directives tag parsed

-- they are passed by the tokens
pub given_leads : (rules : Rules) (anchor tag : Option Text) (parsed : Option ParsedTag) → Given rules anchor tag parsed
    → Leads rules.breaks12 (lead anchor tag)
given_leads rules anchor tag parsed given rest = lead_passes rules.breaks12 rules.directives anchor tag parsed rest given.named given.tagged

-- the text after them is read with them
pub given_reads : (rules : Rules) (flow : Bool) (anchor tag : Option Text) (parsed : Option ParsedTag) (rest : Text) → Given rules anchor tag parsed
    → begins_content rest ≡ true → word_read rules flow (lead anchor tag ++ rest) ≡ word_after rules flow None (record { anchor = anchor; tag = parsed }) rest
given_reads rules flow anchor tag parsed rest given own = grind (arith, lead_then, word_with_properties, false≢true)

-- properties begin with `&` or `!`; without them the text after them begins
pub lead_opens : (rules : Rules) (anchor tag : Option Text) (parsed : Option ParsedTag) (rest : Text) → Given rules anchor tag parsed → opens_inside rest ≡ true
    → opens_inside (lead anchor tag ++ rest) ≡ true
lead_opens rules anchor tag parsed rest h k = grind (arith, nat_tests)

-- Scalars

-- how a scalar is tagged that is written so
pub tagging_meant : (tag : Option Text) (style : ScalarStyle) (bare : Bool) → (bare ≡ true → is_plain style ≡ false)
    → tagging_of (tag_meant tag bare) (stood_in_style style) ≡ Some (tagging_in tag (record { style = style; bare = bare }))
tagging_meant tag style bare h = grind (arith, nat_tests, true≢false)

-- the tree of a scalar
abbrev pub scalar_in : Option Text → Option Text → ScalarStyle → (bare : Bool) → Text → Tree
scalar_in anchor tag style bare value = scalar_tree anchor (tagging_in tag (record { style = style; bare = bare })) value

-- the facts about a scalar that is tidy and reads
pub scalar_meant : (rules : Rules) (flow : Bool) (anchor tag : Option Text) (style : ScalarStyle) (bare : Bool) (column : Option ℕ) (text v : Text)
    (value : Option Text)
    → (bare ≡ true → is_plain style ≡ false) → is_tidy style rules.breaks12 column text ≡ true → value ≡ Some v
    → scalar_parsed (record { anchor = anchor; tag = tag_meant tag bare }) (stood_in_style style)
    (if is_tidy style rules.breaks12 column text then value else None)
    ≡ Some (scalar_in anchor tag style bare v)
scalar_meant rules flow anchor tag style bare column text v value h tidy read = grind (arith, tagging_meant)

-- a text in quotes is read as a scalar
pub quoted_after : (rules : Rules) (flow double : Bool) (column : Option ℕ) (properties : Properties) (t v : Text)
    → is_tidy (quoted_in double) rules.breaks12 column (quote_of double ∷ t) ≡ true → read_quoted double rules.breaks12 (quote_of double ∷ t) ≡ Some v
    → word_after rules flow column properties (quote_of double ∷ t) ≡ scalar_parsed properties (stood_in_style (quoted_in double)) (Some v)
quoted_after rules flow true column properties t v tidy read = grind (arith, nat_tests)
quoted_after rules flow false column properties t v tidy read = grind (arith, nat_tests)

-- also with its anchor and tag
pub quoted_read : (rules : Rules) (flow double : Bool) (anchor tag : Option Text) (bare : Bool) (column : Option ℕ) (t v : Text)
    → is_tidy (quoted_in double) rules.breaks12 column (quote_of double ∷ t) ≡ true → read_quoted double rules.breaks12 (quote_of double ∷ t) ≡ Some v
    → word_after rules flow None (record { anchor = anchor; tag = tag_meant tag bare }) (quote_of double ∷ t)
    ≡ Some (scalar_in anchor tag (quoted_in double) bare v)
quoted_read rules flow double anchor tag bare column t v tidy read =
    quoted_after rules flow _ None _ t v (tidy_at_root (quoted_in double) rules.breaks12 column (quote_of double ∷ t) tidy) read
    ∙ ap (option_map (λ tagging. scalar_tree anchor tagging v)) (tagging_meant tag (quoted_in double) bare (λ h. grind (arith)))

-- so it is a word
pub quoted_flow_word : (rules : Rules) (double : Bool) (anchor tag given_tag : Option Text) (bare : Bool) (column : Option ℕ) (t v : Text)
    → Given rules anchor tag (tag_meant given_tag bare) → is_tidy (quoted_in double) rules.breaks12 column (quote_of double ∷ t) ≡ true
    → read_quoted double rules.breaks12 (quote_of double ∷ t) ≡ Some v
    → FlowWord rules (lead anchor tag ++ (quote_of double ∷ t)) (scalar_in anchor given_tag (quoted_in double) bare v)
quoted_flow_word rules double anchor tag given_tag bare column t v given tidy read = record {
  says = says_quoted_after double rules.breaks12 (lead anchor tag) t v (given_leads rules anchor tag (tag_meant given_tag bare) given) read;
  reads =
      given_reads rules true anchor tag (tag_meant given_tag bare) (quote_of double ∷ t) given (grind (arith))
      ∙ quoted_read rules true double anchor given_tag bare column t v tidy read;
  opens = lead_opens rules anchor tag (tag_meant given_tag bare) (quote_of double ∷ t) given (grind (arith));
}

-- a character that begins plain text in flow is of that class
plain_class : (breaks12 : Bool) (c : ℕ) → is_read_white breaks12 c ≡ false → Begins c → is_among (codes ",?:[]{}") c ≡ false
    → class_of breaks12 c ≡ begins_plain
plain_class breaks12 c white b symbol = grind (arith, or_parts, not_among)

-- a text without a flow indicator doesn't begin with one
first_no_indicator : (breaks12 : Bool) (c : ℕ) (t : Text) → holds_no_plain breaks12 true (c ∷ t) ≡ false → is_among (codes ",?:[]{}") c ≡ false
first_no_indicator breaks12 c t h = grind (arith, or_parts)

-- a tidy plain text has clean edges
tidy_clean : (breaks12 : Bool) (text : Text) → is_tidy plain breaks12 None text ≡ true → has_clean_edges breaks12 text ≡ true
tidy_clean breaks12 text tidy = grind (arith, and_parts)

-- a plain scalar
pub plain_flow_word : (rules : Rules) (anchor tag given_tag : Option Text) (column : Option ℕ) (c : ℕ) (t v : Text)
    → Given rules anchor tag (tag_meant given_tag false) → is_tidy plain rules.breaks12 column (c ∷ t) ≡ true → read_plain rules.breaks12 true (c ∷ t) ≡ Some v
    → FlowWord rules (lead anchor tag ++ (c ∷ t)) (scalar_in anchor given_tag plain false v)
plain_flow_word rules anchor tag given_tag column c t v given tidy read =
    let at_root = tidy_at_root plain rules.breaks12 column (c ∷ t) tidy in
    let white = tidy_begins rules.breaks12 c t at_root in
    let parts = reads_plain rules.breaks12 true c t v read in
    let b = begins rules.breaks12 c t parts.0 white in
    let symbol = first_no_indicator rules.breaks12 c t parts.1 in
    record {
      says =
          says_plain_after rules.breaks12 (lead anchor tag) c t v (given_leads rules anchor tag (tag_meant given_tag false) given)
          (plain_class rules.breaks12 c white b symbol) read (tidy_clean rules.breaks12 (c ∷ t) at_root);
      reads =
          given_reads rules true anchor tag (tag_meant given_tag false) (c ∷ t) given (own b)
          ∙ ap (λ kind. word_by_kind kind rules true None (record { anchor = anchor; tag = tag_meant given_tag false }) (c ∷ t)) (plain_kind c t b)
          ∙ ap (λ style. scalar_of_style style rules true None (record { anchor = anchor; tag = tag_meant given_tag false }) (c ∷ t)) (plain_style c t b)
          ∙ scalar_meant rules true anchor given_tag plain false None (c ∷ t) v (read_plain rules.breaks12 true (c ∷ t))
          (λ h. absurd (false≢true h)) at_root read;
      opens = lead_opens rules anchor tag (tag_meant given_tag false) (c ∷ t) given (opened symbol);
    }
  where
    own : Begins c → begins_content (c ∷ t) ≡ true
    own b = rw (b.blank, b.anchor, b.tag) refl

    opened : is_among (codes ",?:[]{}") c ≡ false → opens_inside (c ∷ t) ≡ true
    opened symbol = rw (not_among (codes ",?:[]{}") c 0x5D refl symbol, not_among (codes ",?:[]{}") c 0x7D refl symbol) refl

-- Aliases

-- a letter is of the class of plain text
letter_class : (breaks12 : Bool) (c : ℕ) → is_alpha c ≡ true → class_of breaks12 c ≡ begins_plain
letter_class breaks12 c h = grind (arith, nat_tests)

-- letters stay in plain text
letters_stay : (breaks12 : Bool) (name : Text) → list_all is_alpha name ≡ true → all_stay breaks12 name ≡ true
letters_stay breaks12 [] h = refl
letters_stay breaks12 (c ∷ name) h = grind (arith, and_parts, and_from, or_parts, or_from, letter_class, letters_stay breaks12 name)

-- and the last of them isn't white
letters_shown : (breaks12 : Bool) (c : ℕ) (name : Text) → list_all is_alpha (c ∷ name) ≡ true → ends_shown breaks12 (c ∷ name) ≡ true
letters_shown breaks12 c [] h =
    ap (λ class. not (is_white_class class)) (letter_class breaks12 c (and_parts (is_alpha c) true h).0)
letters_shown breaks12 c (d ∷ name) h = letters_shown breaks12 d name (and_parts (is_alpha c) (list_all is_alpha (d ∷ name)) h).1

-- an alias
pub alias_flow_word : (rules : Rules) (name : Text) → name_read name ≡ Some name → FlowWord rules (0x2A ∷ name) (alias_tree name)
alias_flow_word rules [] h = absurd (none_not_some h)
alias_flow_word rules (n ∷ name) h = record {
  says = record {
    says = λ rest ends.
        ap (λ class. (let here : FlowStep = begun_token class [] 0x2A in here.tokens ++ flow_tokens rules.breaks12 here.place ((n ∷ name) ++ rest)))
        (class_fixed _ 0x2A refl) ∙ plain_text_word _ [] 0x2A _ rest (letters_stay rules.breaks12 (n ∷ name) (name_letters _ h))
        (letters_shown rules.breaks12 n name (name_letters _ h)) ends;
  };
  reads = alias_word rules true n name ∙ ap (option_map alias_tree) h;
  opens = refl;
}

-- Empty collections

-- the tag of a collection, if it has one
pub tag_of_collection : (tag : Option Text) → collection_tag_parsed (tag_meant tag false) ≡ Some tag
tag_of_collection tag = grind (arith, nat_tests)

-- `[]` or `{}`
pub empty_word : (rules : Rules) (anchor tag given_tag : Option Text) (bracket closing : ℕ) (tree : Option Text → Tree)
    → Given rules anchor tag (tag_meant given_tag false) → class_of rules.breaks12 bracket ≡ begins_bracket → is_pair bracket closing ≡ true
    → word_after rules true None (record { anchor = anchor; tag = tag_meant given_tag false }) (bracket ∷ closing ∷ [])
    ≡ option_map tree (collection_tag_parsed (tag_meant given_tag false))
    → FlowWord rules (lead anchor tag ++ (bracket ∷ closing ∷ [])) (tree given_tag)
empty_word rules anchor tag given_tag bracket closing tree given class pair read = record {
  says = says_empty_after _ _ bracket closing (given_leads rules _ tag _ given) class pair;
  reads = given_reads rules true _ tag _ _ given (grind (arith, nat_tests)) ∙ read ∙ ap (option_map tree) (tag_of_collection _);
  opens = lead_opens rules _ tag _ _ given (grind (arith, nat_tests));
}
