-- A node's own text that reads on its lines does so after its anchor and its tag.
use Rattle.yaml_base.proofs.Common.{arith, ℕ, ◌+◌, if◌then◌else◌, ◌==◌, option_map, Option, None, Some, length, Bool, false, not, true, ◌&&◌, ◌||◌, List, []}
use Rattle.yaml_base.proofs.Common.{◌++◌, ◌∷◌, refl, ◌≡◌, append-nil, append_assoc, ap, sym, ◌∙◌, and_parts, false≢true, Text, space, ScalarStyle}
use Rattle.yaml_base.proofs.Common.{is_read_break, ParsedTag, is_plain, scalar_tree, Line, lines_of, text_of_lines, ends_indicator, begins_with_indicator}
use Rattle.yaml_base.proofs.Common.{all_deeper, spaces, key_from, LinesReader, kind_of_text, text_by_kind, text_read, begins_text, not-true, kind_of_node}
use Rattle.yaml_base.proofs.Common.{node_lines, begins_properties, after_properties, text_or_properties, Rules, Properties, properties_read, stood_in_style}
use Rattle.yaml_base.proofs.{Common.scalar_parsed, Common.nat_tests, stream_flow.StreamPropertyWords.lead, stream_lines.StreamClosed.lines_behind}
use Rattle.yaml_base.proofs.{CommentBlanks.blanks_kept, stream_lines.StreamLineLaws.is_closed, stream_lines.StreamClosed.closed_alike}
use Rattle.yaml_base.specs.CommentReading.{blanks, keeps_breaks}
use Rattle.yaml_base.proofs.{stream_lines.StreamLineLaws.text_of_lines_of, stream_nodes.StreamBegun.lead_line, stream_nodes.StreamBlocks.spaces_both}
use Rattle.yaml_base.proofs.{stream_nodes.StreamLeads.lead_spaces, stream_nodes.StreamLeads.lead_then, stream_nodes.StreamLeafFits.TextReads}
use Rattle.yaml_base.proofs.{stream_nodes.StreamStands.tag_meant, stream_keys.StreamNoKeys.KeyNowhere, stream_keys.StreamNoKeys.lead_nowhere}
use Rattle.yaml_base.proofs.stream_flow.StreamFlowWords.{Given, tagging_meant, scalar_in}
use Rattle.yaml_base.proofs.stream_lines.StreamTidyLaws.{first_text, lines_after_first}
use Rattle.yaml_base.proofs.stream_lines.StreamInside.{indented_spaces, not_skipped, AllInside, deeper_inside}
use Rattle.yaml_base.proofs.{stream_documents.StreamNoComment.no_text_by_kind, stream_lines.StreamCuts.none_not_some, Common.eqb-true}
use Rattle.yaml_base.proofs.Common.{Indented, ReadsText, node_at, node_by_kind, no_properties, without_skipped_lines}
use Rattle.yaml_base.proofs.stream_nodes.StreamProperties.{properties_text, has_properties, begins_content, properties_parsed}

-- Lines

-- the break that ends the first of some lines
abbrev pub first_ending : List Line → Text
first_ending [] = []
first_ending (line ∷ rest) = line.ending

-- a character that is no break begins the first line
pub lines_shown : (breaks12 : Bool) (c : ℕ) (t : Text) → is_read_break breaks12 c ≡ false
    → lines_of breaks12 (c ∷ t)
    ≡ record { text = c ∷ first_text (lines_of breaks12 t); ending = first_ending (lines_of breaks12 t) } ∷ lines_after_first (lines_of breaks12 t)
lines_shown breaks12 c t h = grind (arith)

-- lines inside a column, if there is one
pub deeper_all : (column : Option ℕ) (lines : List Line) → ((c : ℕ) → column ≡ Some c → AllInside true c lines) → all_deeper column lines ≡ true
deeper_all None lines h = refl
deeper_all (Some c) lines h = deeper_inside c lines (h c refl)

-- a text on its lines is read whole
own_read : (rules : Rules) (column : Option ℕ) (properties : Properties) (c : ℕ) (t : Text) → is_read_break rules.breaks12 c ≡ false
    → all_deeper column (lines_after_first (lines_of rules.breaks12 t)) ≡ true
    → text_read rules column properties (c ∷ first_text (lines_of rules.breaks12 t)) (first_ending (lines_of rules.breaks12 t))
    (lines_after_first (lines_of rules.breaks12 t))
    ≡ text_by_kind (kind_of_text (c ∷ [])) rules column properties (c ∷ t)
own_read rules column properties c t h deeper =
    let lines = lines_of rules.breaks12 t in
    let whole = (c ∷ first_text lines) ++ (first_ending lines ++ text_of_lines (lines_after_first lines)) in
    ap (λ x. if x then text_by_kind (kind_of_text (c ∷ [])) rules column properties whole else None) deeper
    ∙ ap (text_by_kind (kind_of_text (c ∷ [])) rules column properties) (sym (ap text_of_lines (lines_shown _ c t h)) ∙ text_of_lines_of _ _)

-- Keys

-- if no key ends in a text, one in the text after it is looked for
nowhere_skips : (rules : Rules) (before a t : Text) → KeyNowhere rules before a → key_from rules before (a ++ t) ≡ key_from rules (before ++ a) t
nowhere_skips rules before [] t none = ap (λ b. key_from rules b t) (sym (append-nil before))
nowhere_skips rules before (c ∷ a) t none = grind (arith, nat_tests, and_parts, append_assoc, nowhere_skips rules (before ++ (c ∷ [])) a t none.1)

-- Own texts

-- a scalar's own text up to its last line's end, without its anchor and tag: its first line begins no block, also after these, its other lines are
-- deeper than the column around, and it reads as a value in the form of a style
pub record OwnText (rules : Rules) (column : Option ℕ) (text : Text) (style : ScalarStyle) (value : Text) : Type 0 where
  pub head : ℕ
  pub tail : Text
  pub is : text ≡ head ∷ tail
  pub content : begins_content (head ∷ tail) ≡ true
  pub goes_on : is_read_break rules.breaks12 head ≡ false
  pub no_item : begins_with_indicator 0x2D (head ∷ first_text (lines_of rules.breaks12 tail)) ≡ false
  pub no_key : begins_with_indicator 0x3F (head ∷ first_text (lines_of rules.breaks12 tail)) ≡ false
  pub keyless : (anchor tag : Option Text) (parsed : Option ParsedTag) → Given rules anchor tag parsed
      → key_from rules (lead anchor tag) (head ∷ first_text (lines_of rules.breaks12 tail)) ≡ None
  pub deeper : (c : ℕ) → column ≡ Some c → AllInside true c (lines_after_first (lines_of rules.breaks12 tail))
  pub read : (properties : Properties)
      → text_by_kind (kind_of_text (head ∷ [])) rules column properties (head ∷ tail) ≡ scalar_parsed properties (stood_in_style style) (Some value)

-- its first line begins a text, after properties or without them
pub own_kind : (rules : Rules) (anchor tag : Option Text) (parsed : Option ParsedTag) (c : ℕ) (f : Text) → Given rules anchor tag parsed
    → begins_with_indicator 0x2D (c ∷ f) ≡ false → begins_with_indicator 0x3F (c ∷ f) ≡ false → key_from rules (lead anchor tag) (c ∷ f) ≡ None
    → kind_of_node rules (lead anchor tag ++ (c ∷ f)) ≡ begins_text
own_kind rules anchor tag parsed c f given no_item no_key keyless = grind (arith, nowhere_skips, lead_nowhere)

-- Properties

-- the text after spaces in the place of properties is read with them
behind_reads : (rules : Rules) (reads : LinesReader) (column : Option ℕ) (properties : Properties) (k c : ℕ) (f ending : Text) (rest : List Line)
    → (c == space) ≡ false → (c == 0x23) ≡ false
    → kind_of_node rules (c ∷ f) ≡ begins_text
    → node_lines rules reads (λ at. text_read rules column properties) properties false (record { text = spaces k ++ (c ∷ f); ending = ending } ∷ rest)
    ≡ text_read rules column properties (c ∷ f) ending rest
behind_reads rules reads column properties k c f ending rest shows uncommented kind =
    let line : Line = record { text = spaces k ++ (c ∷ f); ending = ending } in
    let texts : ReadsText = λ at. text_read rules column properties in
    ap (λ x. node_at rules reads texts properties x (not x) (if x then without_skipped_lines rest else line ∷ rest))
    (not_skipped k c f shows uncommented)
    ∙ ap (λ (i : Indented). node_by_kind (kind_of_node rules i.text) rules reads texts properties false true i ending rest (line ∷ rest))
    (indented_spaces k c f shows)
    ∙ ap (λ x. node_by_kind x rules reads texts properties false true (record { column = k; text = c ∷ f }) ending rest (line ∷ rest)) kind

-- the first character of a node's own text is no space and no indicator of a property
pub own_shows : (c : ℕ) → begins_content (c ∷ []) ≡ true → ((c == space) ≡ false) × ((c == 0x26 || c == 0x21) ≡ false)
own_shows c h = grind (arith, false≢true)

-- a text after properties or without them is read with these
pub parsed_reads : (rules : Rules) (reads : LinesReader) (column : Option ℕ) (at : ℕ) (anchor tag : Option Text) (parsed : Option ParsedTag) (c : ℕ)
    (f ending : Text)
    (rest : List Line)
    → Given rules anchor tag parsed → begins_content (c ∷ f) ≡ true → (c == 0x23) ≡ false → kind_of_node rules (c ∷ f) ≡ begins_text
    → text_or_properties (begins_properties (lead anchor tag ++ (c ∷ f))) rules reads column at (lead anchor tag ++ (c ∷ f)) ending rest
    ≡ text_read rules column (record { anchor = anchor; tag = parsed }) (c ∷ f) ending rest
parsed_reads rules reads column at anchor tag parsed c f ending rest given content uncommented kind = by anchor tag parsed given
  where
    shown : ((c == space) ≡ false) × ((c == 0x26 || c == 0x21) ≡ false)
    shown = own_shows c content

    behind : (anchor tag : Option Text) (parsed : Option ParsedTag) → Given rules anchor tag parsed → has_properties anchor tag ≡ true
        → after_properties rules reads column at ending rest (properties_read rules.directives (lead anchor tag ++ (c ∷ f)))
        ≡ text_read rules column (record { anchor = anchor; tag = parsed }) (c ∷ f) ending rest
    behind anchor tag parsed given has =
        let count = length (properties_text anchor tag) + lead_spaces anchor tag in
        let properties : Properties = record { anchor = anchor; tag = parsed } in
        ap (λ t. after_properties rules reads column at ending rest (properties_read rules.directives t)) (lead_then _ tag _)
        ∙ ap (after_properties rules reads column at ending rest) (properties_parsed _ anchor tag parsed _ (c ∷ f) given.named given.tagged content
        (λ h. ap (λ x. ends_indicator (spaces (if x then 1 else 0) ++ (c ∷ f))) has))
        ∙ ap (λ t. node_lines rules reads (λ at. text_read rules column properties) properties false (record { text = t; ending = ending } ∷ rest))
        (spaces_both at count _ (c ∷ f) refl) ∙ behind_reads rules reads column properties (at + count) c f ending rest shown.0 uncommented kind

    by : (anchor tag : Option Text) (parsed : Option ParsedTag) → Given rules anchor tag parsed
        → text_or_properties (begins_properties (lead anchor tag ++ (c ∷ f))) rules reads column at (lead anchor tag ++ (c ∷ f)) ending rest
        ≡ text_read rules column (record { anchor = anchor; tag = parsed }) (c ∷ f) ending rest
    by None None None given = ap (λ x. text_or_properties x rules reads column at (c ∷ f) ending rest) shown.1
    by None None (Some parsed) given = absurd given.tagged
    by (Some name) None parsed given = behind (Some name) None parsed given refl
    by (Some name) (Some tag) parsed given = behind (Some name) (Some tag) parsed given refl
    by None (Some tag) (Some parsed) given =
        ap (λ t. text_or_properties (begins_properties ((t ++ (space ∷ [])) ++ (c ∷ f))) rules reads column at (lead None (Some tag) ++ (c ∷ f)) ending rest)
        given.tagged.begins ∙ behind None (Some tag) (Some parsed) given refl
    by None (Some tag) None given = absurd given.tagged

-- the first character of a line that begins so
pub record Headed (text : Text) : Type 0 where
  pub head : ℕ
  pub tail : Text
  pub is : text ≡ head ∷ tail
  pub shows : (head == space) ≡ false

pub headed : (rules : Rules) (anchor tag : Option Text) (parsed : Option ParsedTag) (c : ℕ) (f : Text) → Given rules anchor tag parsed → (c == space) ≡ false
    → Headed (lead anchor tag ++ (c ∷ f))
headed rules None None parsed c f given h = record { head = c; tail = f; is = refl; shows = h }
headed rules (Some name) None parsed c f given h = record { head = 0x26; tail = (name ++ (space ∷ [])) ++ (c ∷ f); is = refl; shows = refl }
headed rules (Some name) (Some tag) parsed c f given h =
    record { head = 0x26; tail = ((name ++ (space ∷ tag)) ++ (space ∷ [])) ++ (c ∷ f); is = refl; shows = refl }
headed rules None (Some tag) (Some parsed) c f given h = grind (arith)
headed rules None (Some tag) None c f given h = absurd given.tagged

-- such a text begins no comment
own_uncommented : (rules : Rules) (column : Option ℕ) (text value : Text) (style : ScalarStyle) (own : OwnText rules column text style value)
    → (own.head == 0x23) ≡ false
own_uncommented rules column text value style own = by (own.head == 0x23) refl
  where
    by : (x : Bool) → (own.head == 0x23) ≡ x → x ≡ false
    by false e = refl
    by true e =
        absurd (none_not_some (sym (no_text_by_kind rules column no_properties own.tail)
        ∙ ap (λ c. text_by_kind (kind_of_text (c ∷ [])) rules column no_properties (c ∷ own.tail)) (sym (eqb-true own.head 0x23 e))
        ∙ own.read no_properties))

-- such a text reads on its lines after its properties
pub own_reads : (rules : Rules) (column : Option ℕ) (text value : Text) (style : ScalarStyle) (anchor tag given_tag : Option Text) (bare : Bool)
    → OwnText rules column text style value → Given rules anchor tag (tag_meant given_tag bare) → (bare ≡ true → is_plain style ≡ false)
    → TextReads rules column (lead anchor tag ++ text) (scalar_in anchor given_tag style bare value) (keeps_breaks text)
own_reads rules column text value style anchor tag given_tag bare own given meant =
    let parsed = tag_meant given_tag bare in
    let lines = lines_of rules.breaks12 own.tail in
    let f = first_text lines in
    let properties : Properties = record { anchor = anchor; tag = parsed } in
    let parts = and_parts (not (own.head == space)) (not (own.head == 0x26) && not (own.head == 0x21)) own.content in
    let h = headed rules anchor tag parsed own.head f given (not-true (own.head == space) parts.0) in
    let alone : Given rules None None None = record { named = tt; tagged = tt } in
    let ending = first_ending lines in
    let rest = lines_after_first lines in
    let tree = scalar_in anchor given_tag style bare value in
    let after : (rest : List Line) (reads : LinesReader) (at : ℕ)
    → text_or_properties (begins_properties (h.head ∷ h.tail)) rules reads column at (h.head ∷ h.tail) ending rest
    ≡ text_read rules column properties (own.head ∷ f) ending rest =
    λ rest reads at.
    ap (λ t. text_or_properties (begins_properties t) rules reads column at t ending rest) (sym h.is)
    ∙ parsed_reads rules reads column at anchor tag parsed own.head f ending rest given own.content
    (own_uncommented rules column text value style own)
    (own_kind rules None None None own.head f alone own.no_item own.no_key (own.keyless None None None alone)) in
    let read : text_read rules column properties (own.head ∷ f) ending rest ≡ Some tree =
    own_read rules column properties own.head own.tail own.goes_on (deeper_all column rest own.deeper) ∙ own.read properties
    ∙ ap (option_map (λ tagging. scalar_tree anchor tagging value)) (tagging_meant given_tag style bare meant) in
    let whole : (own.head ∷ f) ++ (ending ++ text_of_lines rest) ≡ text =
    sym (ap text_of_lines (lines_shown rules.breaks12 own.head own.tail own.goes_on)) ∙ text_of_lines_of rules.breaks12 (own.head ∷ own.tail) ∙ sym own.is in
    record {
      head = h.head;
      first = h.tail;
      ending = first_ending lines;
      rest = lines_after_first lines;
      is =
          ap (λ t. lines_of rules.breaks12 (lead anchor tag ++ t)) own.is
          ∙ lines_behind rules.breaks12 (lead anchor tag) (own.head ∷ own.tail) (own.head ∷ f) (first_ending lines) (lines_after_first lines)
          (lead_line rules anchor tag parsed given.named given.tagged) (lines_shown rules.breaks12 own.head own.tail own.goes_on)
          ∙ ap (λ t. record { text = t; ending = first_ending lines } ∷ lines_after_first lines) h.is;
      shows = h.shows;
      kind =
          ap (kind_of_node rules) (sym h.is) ∙ own_kind rules anchor tag parsed own.head f given own.no_item own.no_key (own.keyless anchor tag parsed given);
      deeper = own.deeper;
      read = λ reads at. after rest reads at ∙ read;
      spares = λ drops ends count reads at.
          let closed = closed_alike rules.breaks12 [] (lead anchor tag) own.head own.tail
          (ap (λ t. is_closed rules.breaks12 (lead anchor tag ++ t)) (sym own.is) ∙ ends) in
          after (rest ++ blanks count) reads at
          ∙ blanks_kept count rules column properties (own.head ∷ f) ending rest tree
          (ap (is_closed rules.breaks12) (whole ∙ own.is) ∙ closed) (ap keeps_breaks whole ∙ drops) read;
    }
