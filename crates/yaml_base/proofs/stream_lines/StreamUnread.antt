-- No node is read of a line that begins with a directive's `%` or that is a document's marker: a text that reads as a node is neither.
use Rattle.yaml_base.proofs.Common.{nat_tests, arith, ℕ, if◌then◌else◌, ◌==◌, option_map, Option, None, Some, codes, Bool, false, true, List, [], ◌++◌, ◌∷◌}
use Rattle.yaml_base.proofs.Common.{refl, ◌≡◌, eqb-true, append_assoc, ap, sym, ◌∙◌, and_parts, false≢true, Text, stood_plain, Tree, begins_with_marker}
use Rattle.yaml_base.proofs.Common.{start_marker, end_marker, no_exclamation, marker_of, begins_with_percent, Line, without_last_space, key_of_text, key_from}
use Rattle.yaml_base.proofs.Common.{key_of_line, trimmed, word_text, kind_of_text, text_read, begins_text, kind_of_node, node_read, Rules, Properties}
use Rattle.yaml_base.proofs.stream_lines.{StreamCuts.none_not_some, StreamSections.is_markerless}
use Rattle.yaml_base.proofs.Common.{no_properties, scalar_parsed, word_after, word_read}

-- a character that doesn't begin a document's text
data LineStart : Type 0 where
  percent : LineStart
  dashes : LineStart
  dots : LineStart

abbrev indicator_text : LineStart → Text
indicator_text percent = codes "%"
indicator_text dashes = codes "---"
indicator_text dots = codes "..."

-- Words

-- whether a text is tidy or not, it isn't read as plain
unsaid : (x : Bool) (properties : Properties) (value : Option Text) → value ≡ None → scalar_parsed properties stood_plain (if x then value else None) ≡ None
unsaid true properties value h = ap (scalar_parsed properties stood_plain) h
unsaid false properties value h = refl

indicator_word : (symbol : LineStart) (t : Text) (rules : Rules) (column : Option ℕ) (properties : Properties)
    → word_after rules false column properties (indicator_text symbol ++ t) ≡ None
indicator_word symbol t rules column properties = grind (arith, nat_tests, unsaid)

indicator_read : (symbol : LineStart) (t : Text) (rules : Rules) → word_read rules false (indicator_text symbol ++ t) ≡ None
indicator_read percent t rules = indicator_word percent t rules None no_properties
indicator_read dashes t rules = indicator_word dashes t rules None no_properties
indicator_read dots t rules = indicator_word dots t rules None no_properties

-- Keys

-- a text's last space is one of the text after the indicator
space_after : (symbol : LineStart) (t : Text) → without_last_space (indicator_text symbol ++ t)
    ≡ option_map (λ u. indicator_text symbol ++ u) (without_last_space t)
space_after symbol t = grind (arith, nat_tests)

-- no such text is a key
indicator_key : (symbol : LineStart) (t : Text) (rules : Rules) → key_of_text rules (indicator_text symbol ++ t) ≡ None
indicator_key symbol t rules = grind (arith, indicator_read, space_after)

-- nor does one precede a `:` later on
no_key_after : (symbol : LineStart) (before t : Text) (rules : Rules) → key_from rules (indicator_text symbol ++ before) t ≡ None
no_key_after symbol before [] rules = refl
no_key_after symbol before (c ∷ t) rules = grind (arith, nat_tests, append_assoc, indicator_key, no_key_after symbol (before ++ (c ∷ [])) t rules)

-- so such a line begins with no key
indicator_line : (symbol : LineStart) (t : Text) (rules : Rules) → key_of_line rules (indicator_text symbol ++ t) ≡ None
indicator_line percent t rules = no_key_after percent [] t rules
indicator_line dashes t rules = no_key_after dashes [] t rules
indicator_line dots t rules = no_key_after dots [] t rules

indicator_kind : (symbol : LineStart) (t : Text) (rules : Rules) → kind_of_node rules (indicator_text symbol ++ t) ≡ begins_text
indicator_kind symbol t rules = grind (arith, nat_tests, indicator_line)

-- Texts

-- white space at a text's end is none of the indicator
indicator_trimmed : (breaks12 : Bool) (symbol : LineStart) (t : Text) → trimmed breaks12 (indicator_text symbol ++ t)
    ≡ indicator_text symbol ++ trimmed breaks12 t
indicator_trimmed breaks12 symbol t = grind (arith, nat_tests)

indicator_text_kind : (symbol : LineStart) (t : Text) → kind_of_text (indicator_text symbol ++ t) ≡ word_text
indicator_text_kind symbol t = grind (arith, nat_tests)

-- no text is read of such a line
indicator_text_read : (symbol : LineStart) (t ending : Text) (rest : List Line) (rules : Rules) (column : Option ℕ) (properties : Properties)
    → text_read rules column properties (indicator_text symbol ++ t) ending rest ≡ None
indicator_text_read symbol t ending rest rules column properties = grind (arith, indicator_text_kind, append_assoc, indicator_trimmed, indicator_word)

-- nor a node
indicator_unread : (symbol : LineStart) (t ending : Text) (rest : List Line) (depth : ℕ) (rules : Rules) (here : Bool) (column : Option ℕ)
    → node_read depth rules here column (record { text = indicator_text symbol ++ t; ending = ending } ∷ rest) ≡ None
indicator_unread symbol t ending rest depth rules here column = grind (arith, nat_tests, indicator_kind, indicator_text_read)

-- First lines

-- a text that begins with a marker
marker_shape : (symbol : ℕ) (t : Text) → begins_with_marker symbol t ≡ true → (r : Text) × (t ≡ symbol ∷ symbol ∷ symbol ∷ r)
marker_shape symbol t h = grind (arith, nat_tests, false≢true, and_parts, eqb-true)

-- the first line of a text that reads as a node is no marker
pub read_markerless : (line : Line) (rest : List Line) (depth : ℕ) (rules : Rules) (here : Bool) (column : Option ℕ) (tree : Tree)
    → node_read depth rules here column (line ∷ rest) ≡ Some tree → is_markerless (marker_of line.text) ≡ true
read_markerless line rest depth rules here column tree h = by (begins_with_marker 0x2D line.text) refl (begins_with_marker 0x2E line.text) refl
  where
    refused : (symbol : LineStart) (t : Text) → line.text ≡ indicator_text symbol ++ t → ⊥
    refused symbol t e =
        none_not_some (sym (indicator_unread symbol t line.ending rest depth rules here column)
        ∙ ap (λ u. node_read depth rules here column (record { text = u; ending = line.ending } ∷ rest)) (sym e) ∙ h)

    by : (x : Bool) → begins_with_marker 0x2D line.text ≡ x → (y : Bool) → begins_with_marker 0x2E line.text ≡ y
        → is_markerless (if x then start_marker else (if y then end_marker else no_exclamation)) ≡ true
    by true e y f = let shape = marker_shape 0x2D line.text e in absurd (refused dashes shape.0 shape.1)
    by false e true f = let shape = marker_shape 0x2E line.text f in absurd (refused dots shape.0 shape.1)
    by false e false f = refl

-- nor does it begin with `%`
pub read_no_percent : (line : Line) (rest : List Line) (depth : ℕ) (rules : Rules) (here : Bool) (column : Option ℕ) (tree : Tree)
    → node_read depth rules here column (line ∷ rest) ≡ Some tree → begins_with_percent line.text ≡ false
read_no_percent line rest depth rules here column tree h = by line.text refl
  where
    refused : (t : Text) → line.text ≡ 0x25 ∷ t → ⊥
    refused t e =
        none_not_some (sym (indicator_unread percent t line.ending rest depth rules here column)
        ∙ ap (λ u. node_read depth rules here column (record { text = u; ending = line.ending } ∷ rest)) (sym e) ∙ h)

    by : (text : Text) → line.text ≡ text → begins_with_percent text ≡ false
    by [] e = refl
    by (c ∷ t) e = is (c == 0x25) refl
      where
        is : (x : Bool) → (c == 0x25) ≡ x → x ≡ false
        is true f = absurd (refused t (e ∙ ap (λ d. d ∷ t) (eqb-true c 0x25 f)))
        is false f = refl
