-- No `:` in an anchor or a tag ends a key: the text before it is no word, and no alias.
use Rattle.yaml_base.proofs.Common.{or_from, or_parts}
use Rattle.yaml_base.proofs.Common.{nat_tests, arith, ℕ, ◌+◌, if◌then◌else◌, ◌==◌, is_some, option_map, option_and_then, Option, None, Some, length, Bool}
use Rattle.yaml_base.proofs.Common.{false, not, true, ◌||◌, [], ◌++◌, ◌∷◌, refl, ◌≡◌, eqb-true, append-nil, append_assoc, ap, subst, sym, ◌∙◌}
use Rattle.yaml_base.proofs.Common.{and_parts, and_from, false≢true, list_all, Text, space, is_alpha, ParsedTag, parse_tag, Stood, Tree, is_alias}
use Rattle.yaml_base.proofs.Common.{ends_indicator, Indented, past_indentation, spaces, word_of_alias, key_of_text, key_from, Rules, Properties}
use Rattle.yaml_base.proofs.stream_nodes.StreamProperties.{WrittenTag, IsTagged, IsNamed, properties_text, has_no_space, word_whole, name_letters}
use Rattle.yaml_base.{proofs.stream_flow.StreamPropertyWords.lead, specs.streams.StreamScalars.WordKind, proofs.stream_lines.StreamInside.indented_spaces}
use Rattle.yaml_base.proofs.Common.{PropertiesRead, cut_before_space, tag_of_word, leading_tag, scalar_parsed, an_alias, word_by_kind, word_after, word_read}
use Rattle.yaml_base.proofs.stream_nodes.StreamProperties.{no_white_no_space, space_after, content_indented, with_anchor}
use Rattle.yaml_base.proofs.stream_keys.StreamKeys.{NoKey, no_alias_before, key_by_word}

-- Texts in which no key ends

-- no key ends at any `:` of a text, if that much precedes it
abbrev pub KeyNowhere : Rules → Text → Text → Type 0
KeyNowhere rules before [] = Unit {0}
KeyNowhere rules before (c ∷ t) = ((c == 0x3A) ≡ true → key_of_text rules before ≡ None) × KeyNowhere rules (before ++ (c ∷ [])) t

-- no key ends in it, nor in the text after it
pub nowhere_then : (rules : Rules) (before a t after : Text) → KeyNowhere rules before a → NoKey rules (before ++ a) t after → NoKey rules before (a ++ t) after
nowhere_then rules before [] t after none clear = subst (λ b. NoKey rules b t after) (append-nil before) clear
nowhere_then rules before (c ∷ a) t after none clear = (
  λ h. none.0 (and_parts (c == 0x3A) (ends_indicator ((a ++ t) ++ (0x3A ∷ after))) h).0,
  nowhere_then rules (before ++ (c ∷ [])) a t after none.1 (subst (λ b. NoKey rules b t after) (sym (append_assoc before (c ∷ []) a)) clear),
)

-- nor, of a text alone, before any `:` that ends one
pub nowhere_clear : (rules : Rules) (before t after : Text) → KeyNowhere rules before t → NoKey rules before t after
nowhere_clear rules before [] after none = tt
nowhere_clear rules before (c ∷ t) after none =
    ((λ h. none.0 (and_parts (c == 0x3A) (ends_indicator (t ++ (0x3A ∷ after))) h).0), nowhere_clear rules (before ++ (c ∷ [])) t after none.1)

-- a line of it alone has no key
pub nowhere_alone : (rules : Rules) (before a : Text) → KeyNowhere rules before a → key_from rules before a ≡ None
nowhere_alone rules before [] none = refl
nowhere_alone rules before (c ∷ a) none = grind (arith, nat_tests, and_parts, nowhere_alone rules (before ++ (c ∷ [])) a none.1)

-- two such texts
pub nowhere_both : (rules : Rules) (before a b : Text) → KeyNowhere rules before a → KeyNowhere rules (before ++ a) b → KeyNowhere rules before (a ++ b)
nowhere_both rules before [] b one two = subst (λ t. KeyNowhere rules t b) (append-nil before) two
nowhere_both rules before (c ∷ a) b one two =
    (one.0, nowhere_both rules (before ++ (c ∷ [])) a b one.1 (subst (λ t. KeyNowhere rules t b) (sym (append_assoc before (c ∷ []) a)) two))

-- No alias

-- whether the tree that is read is an alias
abbrev pub reads_alias : Option Tree → Bool
reads_alias None = false
reads_alias (Some tree) = is_alias tree

-- a tree that is none is left by both tests
pub alias_left : (read : Option Tree) → reads_alias read ≡ false → option_and_then (λ tree. if is_alias tree then Some tree else None) read ≡ None
alias_left None h = refl
alias_left (Some tree) h = ap (λ x. if x then Some tree else None) h

pub other_kept : (read : Option Tree) → reads_alias read ≡ false → option_and_then (λ tree. if is_alias tree then None else Some tree) read ≡ read
other_kept None h = refl
other_kept (Some tree) h = ap (λ x. if x then None else Some tree) h

-- a scalar is none
scalar_other : (properties : Properties) (standing : Stood) (value : Option Text) → reads_alias (scalar_parsed properties standing value) ≡ false
scalar_other properties standing value = grind (arith, nat_tests)

-- a collection is none
collection_other : (tag : Option (Option Text)) (make : Option Text → Tree) → ((tag : Option Text) → is_alias (make tag) ≡ false)
    → reads_alias (option_map make tag) ≡ false
collection_other None make h = refl
collection_other (Some tag) make h = h tag

-- a word that isn't of the kind of an alias is none
pub kind_other : (kind : WordKind) (rules : Rules) (flow : Bool) (properties : Properties) (text : Text)
    → (kind ≡ an_alias → ⊥) → reads_alias (word_by_kind kind rules flow None properties text) ≡ false
kind_other kind rules flow properties text h = grind (arith, nat_tests, collection_other, scalar_other)

-- a node with an anchor or a tag is none
pub properties_other : (rules : Rules) (flow : Bool) (properties : Properties) (text : Text) → (is_some properties.anchor || is_some properties.tag) ≡ true
    → reads_alias (word_after rules flow None properties text) ≡ false
properties_other rules flow properties text h = grind (arith, false≢true, kind_other)

-- Properties alone

-- the reading of a word after properties that were read
abbrev after_read : Rules → Bool → Option PropertiesRead → Option Tree
after_read rules flow found = option_and_then (λ read. word_after rules flow None read.properties (past_indentation read.text).text) found

-- properties of which nothing is left but spaces are no word
nothing_after : (rules : Rules) (flow : Bool) (properties : Properties) (count : ℕ) → after_read rules flow
    (Some (record { properties = properties; text = spaces count ++ [] })) ≡ None
nothing_after rules flow properties count =
    ap (λ (after : Indented). word_after rules flow None properties after.text) (content_indented count [] refl)

-- the beginning of a tag, whatever it says
tag_alone : (rules : Rules) (flow : Bool) (anchor : Option Text) (column : ℕ) (b : Text) → has_no_space b ≡ true
    → after_read rules flow (leading_tag rules.directives anchor column (0x21 ∷ b)) ≡ None
tag_alone rules flow anchor column b h =
    let cut : cut_before_space (0x21 ∷ b) ≡ record { prefix = 0x21 ∷ b; rest = [] } =
    ap cut_before_space (sym (append-nil (0x21 ∷ b))) ∙ word_whole (0x21 ∷ b) [] h refl in
    ap (λ cut. after_read rules flow (tag_of_word rules.directives anchor column cut)) cut ∙ by (parse_tag rules.directives (0x21 ∷ b))
  where
    by : (parsed : Option ParsedTag)
        → after_read rules flow (option_map (λ parsed. record {
          properties = record { anchor = anchor; tag = Some parsed };
          text = spaces
              (column + length (0x21 ∷ b)) ++ [];
        }) parsed) ≡ None
    by None = refl
    by (Some parsed) = nothing_after rules flow (record { anchor = anchor; tag = Some parsed }) (column + length (0x21 ∷ b))

-- the anchor, and the space after it before a tag
abbrev anchored : Option Text → Text
anchored None = []
anchored (Some name) = 0x26 ∷ (name ++ (space ∷ []))

-- after an anchor or not it is no word
tag_no_word : (rules : Rules) (flow : Bool) (anchor : Option Text) (b : Text) → IsNamed anchor → has_no_space b ≡ true
    → word_read rules flow (anchored anchor ++ (0x21 ∷ b)) ≡ None
tag_no_word rules flow None b named h = tag_alone rules flow None 0 b h
tag_no_word rules flow (Some name) b named h = grind (arith, append_assoc, with_anchor, space_after, indented_spaces, tag_alone)

-- a text that begins with an anchor or a tag is no alias
tag_other : (rules : Rules) (anchor : Option Text) (column : ℕ) (u : Text) → reads_alias
    (after_read rules false (leading_tag rules.directives anchor column (0x21 ∷ u))) ≡ false
tag_other rules anchor column u = grind (arith, properties_other)

anchor_other : (rules : Rules) (name : Text) (column : ℕ) (t : Text) → reads_alias (after_read rules false (leading_tag rules.directives (Some name) column t))
    ≡ false
anchor_other rules name column [] = properties_other rules false (record { anchor = Some name; tag = None }) (past_indentation (spaces column)).text refl
anchor_other rules name column (c ∷ t) = grind (arith, eqb-true, tag_other, properties_other)

pub tag_no_alias : (rules : Rules) (u : Text) → word_of_alias rules (0x21 ∷ u) ≡ None
tag_no_alias rules u = alias_left (word_read rules false (0x21 ∷ u)) (tag_other rules None 0 u)

pub anchor_no_alias : (rules : Rules) (u : Text) → word_of_alias rules (0x26 ∷ u) ≡ None
anchor_no_alias rules u = grind (arith, alias_left, anchor_other)

-- No key

-- the beginning of a tag after an anchor or not is no key
tag_no_key : (rules : Rules) (anchor : Option Text) (b : Text) → IsNamed anchor → has_no_space b ≡ true → key_of_text rules (anchored anchor ++ (0x21 ∷ b))
    ≡ None
tag_no_key rules anchor b h k = grind (arith, nat_tests, key_by_word, tag_no_word, no_alias_before, tag_no_alias, anchor_no_alias)

-- no key ends in the rest of a tag
tag_rest_nowhere : (rules : Rules) (anchor : Option Text) (b t : Text) → IsNamed anchor → has_no_space b ≡ true → has_no_space t ≡ true
    → KeyNowhere rules (anchored anchor ++ (0x21 ∷ b)) t
tag_rest_nowhere rules anchor b [] named h k = tt
tag_rest_nowhere rules anchor b (c ∷ t) named h k =
    let parts = and_parts (not (c == space)) (has_no_space t) k in (
      (λ e. tag_no_key rules anchor b named h),
      subst (λ u. KeyNowhere rules u t) (sym (append_assoc (anchored anchor) (0x21 ∷ b) (c ∷ [])))
          (tag_rest_nowhere rules anchor (b ++ (c ∷ [])) t named (longer b h parts.0) parts.1),
    )
  where
    longer : (b : Text) → has_no_space b ≡ true → not (c == space) ≡ true → has_no_space (b ++ (c ∷ [])) ≡ true
    longer [] h k = and_from (not (c == space)) true k refl
    longer (d ∷ b) h k = grind (arith, and_parts, and_from, or_parts, or_from, longer b)

-- nor in the tag
tag_nowhere : (rules : Rules) (anchor : Option Text) (tag : Text) (parsed : ParsedTag) → IsNamed anchor → WrittenTag rules.directives tag parsed
    → KeyNowhere rules (anchored anchor) tag
tag_nowhere rules anchor tag parsed named written = grind (arith, false≢true, tag_rest_nowhere, no_white_no_space)

-- nor in an anchor's name
name_nowhere : (rules : Rules) (before name : Text) → list_all is_alpha name ≡ true → KeyNowhere rules before name
name_nowhere rules before [] h = tt
name_nowhere rules before (c ∷ name) h = grind (arith, and_parts, and_from, or_parts, or_from, eqb-true, name_nowhere rules (before ++ (c ∷ [])) name)

-- nor in an anchor and the space after it
anchored_nowhere : (rules : Rules) (anchor : Option Text) → IsNamed anchor → KeyNowhere rules [] (anchored anchor)
anchored_nowhere rules anchor named = grind (arith, nat_tests, false≢true, nowhere_both, name_nowhere, name_letters)

-- no key ends in properties
pub properties_nowhere : (rules : Rules) (anchor tag : Option Text) (parsed : Option ParsedTag) → IsNamed anchor → IsTagged rules.directives tag parsed
    → KeyNowhere rules [] (properties_text anchor tag)
properties_nowhere rules None None parsed named tagged = tt
properties_nowhere rules (Some name) None parsed named tagged =
    ((λ e. absurd (false≢true e)), name_nowhere rules (0x26 ∷ []) name (name_letters name named))
properties_nowhere rules None (Some tag) (Some parsed) named tagged = tag_nowhere rules None tag parsed named tagged
properties_nowhere rules (Some name) (Some tag) (Some parsed) named tagged =
    subst (KeyNowhere rules []) (append_assoc (0x26 ∷ name) (space ∷ []) tag)
    (nowhere_both rules [] (anchored (Some name)) tag (anchored_nowhere rules (Some name) named) (tag_nowhere rules (Some name) tag parsed named tagged))
properties_nowhere rules None (Some tag) None named tagged = absurd tagged
properties_nowhere rules (Some name) (Some tag) None named tagged = absurd tagged

-- nor in the space after them
pub lead_nowhere : (rules : Rules) (anchor tag : Option Text) (parsed : Option ParsedTag) → IsNamed anchor → IsTagged rules.directives tag parsed
    → KeyNowhere rules [] (lead anchor tag)
lead_nowhere rules None None parsed named tagged = tt
lead_nowhere rules (Some name) None parsed named tagged = anchored_nowhere rules (Some name) named
lead_nowhere rules None (Some tag) parsed named tagged =
    nowhere_both rules [] tag (space ∷ []) (properties_nowhere rules None (Some tag) parsed named tagged) ((λ e. absurd (false≢true e)), tt)
lead_nowhere rules (Some name) (Some tag) parsed named tagged =
    nowhere_both rules [] (properties_text (Some name) (Some tag)) (space ∷ []) (properties_nowhere rules (Some name) (Some tag) parsed named tagged)
    ((λ e. absurd (false≢true e)), tt)
