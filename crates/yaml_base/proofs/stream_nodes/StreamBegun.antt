-- The properties of a collection in a block are on one line, after a space if one is needed, and are read there.
use Rattle.yaml_base.proofs.Common.{ℕ, ◌+◌, if◌then◌else◌, ◌==◌, is_some, Option, None, Some, length, Bool, false, true, ◌&&◌, ◌||◌, List, [], ◌++◌, ◌∷◌, refl}
use Rattle.yaml_base.proofs.Common.{◌≡◌, append-nil, append_assoc, ap, subst, sym, ◌∙◌, arith, nat_tests, Text, space, is_blank, is_break, Cursor, space_if}
use Rattle.yaml_base.proofs.Common.{TagDirective, Collection, collection_tag, render_properties, is_read_break, Effective, ParsedTag, is_spaces}
use Rattle.yaml_base.proofs.Common.{ends_indicator, spaces, key_from, key_of_line, begins_sequence, begins_mapping, begins_text, kind_of_node, Rules}
use Rattle.yaml_base.proofs.{Common.properties_read, stream_flow.StreamFlowScalars.rules_of, stream_flow.StreamFlowWords.tag_of_collection}
use Rattle.yaml_base.proofs.{stream_flow.StreamPropertyWords.lead, stream_lines.StreamInside.blank_spaces, stream_nodes.StreamAliasFits.name_line}
use Rattle.yaml_base.proofs.{stream_nodes.StreamNodesFit.BegunReads, AllPass.fewer_pass}
use Rattle.yaml_base.proofs.stream_keys.StreamNoKeys.{KeyNowhere, nowhere_alone, properties_nowhere}
use Rattle.yaml_base.proofs.stream_lines.StreamLineLaws.{OneLine, one_line_both, unbroken_line}
use Rattle.yaml_base.proofs.stream_nodes.StreamLeads.{spelling_text, spelling_ended, tag_is_written, before_count, before_spaces, before_some}
use Rattle.yaml_base.proofs.stream_nodes.StreamStands.{tag_written, tag_meant, TagStands}
use Rattle.yaml_base.proofs.stream_nodes.StreamBlocks.{Said, BegunKind, unsaid, is_parsed}
use Rattle.yaml_base.proofs.stream_nodes.StreamProperties.{holds_white, IsTagged, IsNamed, properties_text, name_letters, properties_parsed}

-- Lines

-- a character that isn't white breaks no line
white_line : (breaks12 : Bool) (c : ℕ) → (is_blank c || is_break c) ≡ false → is_read_break breaks12 c ≡ false
white_line breaks12 c h = grind (arith, nat_tests)

-- a text that holds nothing white is on one line
pub shown_line : (breaks12 : Bool) (text : Text) → holds_white text ≡ false → OneLine breaks12 text
shown_line breaks12 text h = fewer_pass (λ c. is_blank c || is_break c) (is_read_break breaks12) (white_line breaks12) text h

-- properties are on one line
pub properties_line : (rules : Rules) (anchor tag : Option Text) (parsed : Option ParsedTag) → IsNamed anchor → IsTagged rules.directives tag parsed
    → OneLine rules.breaks12 (properties_text anchor tag)
properties_line rules anchor tag parsed h k = grind (arith, nat_tests, one_line_both, unbroken_line, name_line, name_letters, shown_line)

-- with the space after them
pub lead_line : (rules : Rules) (anchor tag : Option Text) (parsed : Option ParsedTag) → IsNamed anchor → IsTagged rules.directives tag parsed
    → OneLine rules.breaks12 (lead anchor tag)
lead_line rules None None parsed named tagged = refl
lead_line rules (Some name) None parsed named tagged =
    one_line_both rules.breaks12 (0x26 ∷ name) (space ∷ []) (properties_line rules (Some name) None parsed named tagged)
    (unbroken_line rules.breaks12 (space ∷ []) refl)
lead_line rules None (Some tag) parsed named tagged =
    one_line_both rules.breaks12 tag (space ∷ []) (properties_line rules None (Some tag) parsed named tagged) (unbroken_line rules.breaks12 (space ∷ []) refl)
lead_line rules (Some name) (Some tag) parsed named tagged =
    one_line_both rules.breaks12 (properties_text (Some name) (Some tag)) (space ∷ [])
    (properties_line rules (Some name) (Some tag) parsed named tagged) (unbroken_line rules.breaks12 (space ∷ []) refl)

-- Layout

-- properties are rendered after a space if one is needed
pub properties_whole : (portable : Bool) (directives : List TagDirective) (anchor tag : Option Text) (cursor : Cursor) (c : ℕ) (t : Text)
    → properties_text anchor (tag_written portable directives tag false) ≡ c ∷ t
    → (render_properties portable directives anchor tag false cursor).text ≡ space_if true cursor ++ (c ∷ t)
properties_whole portable directives anchor tag cursor c t e = grind (arith, append-nil, append_assoc, spelling_text)

-- after them white space has ended
properties_ended : (portable : Bool) (directives : List TagDirective) (anchor tag : Option Text) (cursor : Cursor) (c : ℕ) (t : Text)
    → properties_text anchor (tag_written portable directives tag false) ≡ c ∷ t
    → (render_properties portable directives anchor tag false cursor).cursor.indention ≡ false
properties_ended portable directives anchor tag cursor c t h = grind (arith, nat_tests, spelling_ended)

-- Reading

-- properties that begin with `&` or `!` are read on their line
properties_begun : (s : Effective) (own directives : List TagDirective) (anchor tag : Option Text) (cursor : Cursor) (c : ℕ) (t : Text)
    → IsNamed anchor → TagStands s.portable own directives tag → properties_text anchor (tag_written s.portable directives tag false) ≡ c ∷ t
    → (c == space) ≡ false → (c == 0x2D) ≡ false → (c == 0x3F) ≡ false → (c == 0x26 || c == 0x21) ≡ true
    → Said (rules_of s own) anchor tag cursor (render_properties s.portable directives anchor tag false cursor)
properties_begun s own directives anchor tag cursor c t named stands is shows dash question begins =
    let no_key : key_from (rules_of s own) [] (c ∷ t) ≡ None =
    nowhere_alone _ [] (c ∷ t) (subst (KeyNowhere (rules_of s own) []) is (properties_nowhere _ anchor _ _ named (tag_is_written _ own _ tag false stands))) in
    let kind : kind_of_node (rules_of s own) (c ∷ t) ≡ begins_text =
    ap (λ x. if x && ends_indicator t then begins_sequence
    else (if (c == 0x3F && ends_indicator t) || is_some (key_of_line (rules_of s own) (c ∷ t)) then begins_mapping else begins_text)) dash
    ∙ ap (λ x. if (x && ends_indicator t) || is_some (key_of_line (rules_of s own) (c ∷ t)) then begins_mapping else begins_text) question
    ∙ ap (λ x. if is_some x then begins_mapping else begins_text) no_key in
    let written = tag_written s.portable directives tag false in
    let tagged = tag_is_written _ own _ tag false stands in
    let count = length (properties_text anchor written) + 0 in
    record {
      count = before_count cursor.whitespace;
      head = c;
      tail = t;
      text = properties_whole s.portable directives anchor tag cursor c t is ∙ ap (λ u. u ++ (c ∷ t)) (before_spaces cursor.whitespace);
      some = before_some cursor.whitespace;
      one_line = subst (OneLine s.breaks12) is (properties_line (rules_of s own) anchor written (tag_meant tag false) named tagged);
      shows = shows;
      kind = kind;
      begins = begins;
      read = record { properties = record { anchor = anchor; tag = tag_meant tag false }; text = spaces count ++ [] };
      reads =
          ap (properties_read own) (sym is ∙ sym (append-nil (properties_text anchor written)))
          ∙ properties_parsed own anchor written (tag_meant tag false) 0 [] named tagged refl (λ h. refl);
      blank = ap is_spaces (append-nil (spaces count)) ∙ blank_spaces count;
      anchor_read = refl;
      read_tag = tag_of_collection tag;
      ends = properties_ended s.portable directives anchor tag cursor c t is;
    }

-- a collection's properties, if it has some, are read on their line
pub begun_kind : (s : Effective) (own directives : List TagDirective) (anchor tag : Option Text) (cursor : Cursor) → IsNamed anchor
    → TagStands s.portable own directives tag
    → BegunKind (rules_of s own) anchor tag cursor (render_properties s.portable directives anchor tag false cursor)
begun_kind s own directives None None cursor named stands = unsaid refl refl refl
begun_kind s own directives (Some name) None cursor named stands =
    is_parsed (properties_begun s own directives (Some name) None cursor 0x26 name named stands refl refl refl refl refl)
begun_kind s own directives None (Some tag) cursor named stands =
    is_parsed (properties_begun s own _ None _ cursor 0x21 _ named stands stands.begins refl refl refl refl)
begun_kind s own directives (Some name) (Some tag) cursor named stands =
    is_parsed (properties_begun s own _ _ _ cursor 0x26 _ named stands refl refl refl refl refl)

-- the properties of a collection whose names are readable
pub begun_reads : (s : Effective) (own directives : List TagDirective) (start : Collection) (cursor : Cursor) → IsNamed start.anchor
    → TagStands s.portable own directives (collection_tag s.canonical start) → BegunReads (rules_of s own) s directives start cursor
begun_reads s own directives start cursor named stands =
    begun_kind s own directives start.anchor (collection_tag s.canonical start) cursor named stands
