-- The meaning of the tree of a TOML value, at any place of each scalar.
use Rattle.yaml_toml.proofs.Common.{Option, None, Some, codes, Bool, false, true, List, [], ◌++◌, ◌∷◌, refl, ◌≡◌, if◌then◌else◌, is_some, append-nil, ap, subst}
use Rattle.yaml_toml.proofs.Common.{append_assoc, sym, ◌∙◌, and_parts, chars, node_tree, Text, plain, Scalar, scalar_tag, scalar_node, Nodes, Pairs, no_nodes}
use Rattle.yaml_toml.proofs.Common.{nodes_and, no_pairs, pairs_and, Effective, is_empty, is_plain, Tree, int_tag, text_content, collection_in, float_tag}
use Rattle.yaml_toml.proofs.Common.{signed_decimal, json_word, infinite, moment_content, date_content, by_11, by_core, HasNumbers, ItemsHaveNumbers}
use Rattle.yaml_toml.proofs.Common.{KeysHaveNumbers, Moment, ClockTime, special_text, moment_of, datetime_text}
use Rattle.yaml_base.{proofs.PlainUnderQuotes.plain_under, specs.values.Resolved.meant_infinity}
use Rattle.yaml_base.proofs.Common.{TagDirective, as_item, as_key, as_value, Place, has_no_nodes, has_no_pairs, is_simple, is_simple_at, charset_of, choice_of}
use Rattle.yaml_base.proofs.Common.{style_asked_at, allowed_under, is_written_in_flow, entry_place, allowances, chosen, stood_plain, stood_quoted, Tagging}
use Rattle.yaml_base.proofs.Common.{without_tag, sequence_tree, mapping_tree, mapping_node, meant_integer}
use Rattle.yaml_base.proofs.stream_nodes.StreamAgrees.{tagging_in, nodes_tree, pairs_tree}
use Rattle.yaml_writer.proofs.{DateLemmas.dates_read, DateLemmas.dates_plain, FloatLemmas.special_floats_read, TimeLemmas.timestamps_read}
use Rattle.yaml_writer.proofs.ScalarMeanings.{IsPlainWord, ReadsScalars, flag_at, number_at, plain_word, reads_by_11, reads_by_core, text_at, untagged, word_at}
use Rattle.yaml_writer.specs.{Times.is_moment, Times.moment_in, Times.timestamp_text, Floats.special_meaning, declared.floats.SpecialFloat.SpecialFloat}
use Rattle.yaml_writer.specs.Means.{canonical_tag, trees_in_order, pairs_in_order}
use Rattle.yaml_writer.specs.Dates.{CalendarDate, date_text, is_calendar_date}
use Rattle.yaml_writer.specs.declared.floats.SpecialFloat.TheVariants.{Infinity, NegativeInfinity, NotANumber}
use Rattle.yaml_toml.specs.Means.{SchemaReader, IsDated, MeansDate, MeansToml, ItemsMeanToml, KeysMean}
use Rattle.yaml_toml.proofs.{Moments.valid_moment, Moments.core_date, Integers.integer_read, Integers.integer_plain}
use Rattle.yaml_toml.proofs.TomlTrees.{toml_node, items_nodes, keys_pairs}
use Rattle.toml_datetime.specs.declared.datetime.Datetime.{Datetime}
use Rattle.toml_ordered.specs.Data as toml

-- a reader's types of the scalars of TOML
pub record ReadsToml (reader : SchemaReader) : Type 0 where
  pub reads : ReadsScalars reader.schema
  pub specials : (value : SpecialFloat) → reader.schema (special_text value) ≡ special_meaning value
  pub dates : (date : CalendarDate) → is_calendar_date date ≡ true → reader.schema (date_text date) ≡ reader.date

pub toml_by_11 : ReadsToml by_11
toml_by_11 = record { reads = reads_by_11; specials = λ value. (special_floats_read value).0; dates = λ date valid. (dates_read date valid).0 }

pub toml_by_core : ReadsToml by_core
toml_by_core = record { reads = reads_by_core; specials = λ value. (special_floats_read value).1; dates = core_date }

-- ---- plain words

special_plain : (value : SpecialFloat) → IsPlainWord (special_text value)
special_plain Infinity = plain_word (codes ".inf") refl
special_plain NegativeInfinity = plain_word (codes "-.inf") refl
special_plain NotANumber = plain_word (codes ".nan") refl

special_tagged : (value : SpecialFloat) → float_tag ≡ canonical_tag (special_meaning value)
special_tagged Infinity = refl
special_tagged _ = refl

infinite_meant : (negative : Bool) → special_meaning (infinite negative) ≡ meant_infinity negative
infinite_meant true = refl
infinite_meant false = refl

-- ---- dates

module _ (reader : SchemaReader) (reads : ReadsToml reader) (s : Effective) (place : Place) (simple : Bool) where
  abbrev tagging_for : (canonical : Bool) → Scalar → Tagging
  tagging_for canonical content =
      tagging_in (scalar_tag canonical content) (chosen (allowed_under s content) (style_asked_at s place content) (is_empty content.value)
      (is_some (scalar_tag canonical content)) content.plain_implicit content.quoted_implicit place.in_flow simple canonical)

  dated : (date : CalendarDate) (time : Option ClockTime) (canonical : Bool) → is_moment (record { date = date; time = time }) ≡ true
      → IsDated reader (record { date = date; time = time }) (tagging_for canonical (moment_content canonical (record { date = date; time = time })))
      (timestamp_text (record { date = date; time = time }))
  dated date None true valid = refl
  dated date (Some time) true valid = refl
  dated date (Some time) false valid = refl
  dated date None false valid =
      subst (λ (x : Bool). IsDated reader (record { date = date; time = None }) (without_tag (if x then stood_plain else stood_quoted)) (date_text date)) (sym
      (ap is_plain (plain_under s.double_quotes (allowances (charset_of s) (date_text date)) plain (is_empty (date_text date)) false true true place.in_flow
      simple false (dates_plain date (charset_of s) false true true place.in_flow simple is refl)))) (refl, reads.dates date is)
    where
      is : is_calendar_date date ≡ true
      is = (and_parts (is_calendar_date date) true valid).0

  moment_means : (moment : Moment) → is_moment moment ≡ true
      → IsDated reader moment (tagging_in (scalar_tag s.canonical (moment_content s.canonical moment))
      (choice_of s place simple (moment_content s.canonical moment))) (timestamp_text moment) × (moment_in (timestamp_text moment) ≡ Some moment)
  moment_means moment valid = (dated moment.date moment.time s.canonical valid, (timestamps_read moment valid).1)

-- ---- values

module _ (reader : SchemaReader) (reads : ReadsToml reader) (s : Effective) (directives : List TagDirective) (in_flow : Bool) where
  abbrev ItemsAfter : toml.Items → Nodes → (flow : Bool) → Type 0
  ItemsAfter items before flow =
      (trees : List Tree)
      × (trees_in_order (nodes_tree (items_nodes items s.canonical in_flow before) s directives flow)
      ≡ trees_in_order (nodes_tree before s directives flow) ++ trees)
      × ItemsMeanToml reader items trees

  abbrev KeysAfter : toml.TomlNodes → Pairs → (flow : Bool) → Type 0
  KeysAfter keys before flow =
      (trees : List (Tree × Tree))
      × (pairs_in_order (pairs_tree (keys_pairs keys s.canonical in_flow before) s directives flow) ≡ pairs_in_order
      (pairs_tree before s directives flow) ++ trees)
      × KeysMean reader keys trees

  date_at : (date : Datetime) (place : Place) (found : Option Moment) → moment_of date ≡ found
      → MeansDate reader date found (node_tree (scalar_node (date_content s.canonical date found)) s directives place)
  date_at date place None is = text_at reader.schema reads.reads s directives (datetime_text date) place
  date_at date place (Some moment) is =
      moment_means reader reads s place (is_simple_at place s.canonical directives (scalar_node (moment_content s.canonical moment))) moment
      (valid_moment date moment is)

  mutual
    pub node_means : (x : toml.TomlNode) → HasNumbers x → (place : Place) → MeansToml reader x (node_tree (toml_node x s.canonical in_flow) s directives place)
    node_means (toml.string text) numbers place = text_at reader.schema reads.reads s directives text place
    node_means (toml.integer z) fits place =
        word_at _ reads.reads s directives int_tag (signed_decimal z) _ (integer_read _ reads.reads z fits) refl (integer_plain z fits) place
    node_means (toml.decimal word) is place = number_at reader.schema reads.reads s directives (json_word word) is place
    node_means (toml.infinity negative) numbers place =
        let value = infinite negative in
        word_at _ reads.reads s directives _ (special_text value) _ (reads.specials value) (special_tagged value) (special_plain value) place
        ∙ infinite_meant negative
    node_means toml.not_a_number numbers place =
        word_at _ reads.reads s directives float_tag (special_text NotANumber) _ (reads.specials NotANumber) refl (special_plain NotANumber) place
    node_means (toml.boolean flag) numbers place = flag_at reader.schema reads.reads s directives flag place
    node_means (toml.datetime date) numbers place = date_at date place (moment_of date) refl
    node_means (toml.array items) numbers place =
        let flow = is_written_in_flow s place (collection_in in_flow) (has_no_nodes (items_nodes items s.canonical in_flow no_nodes)) in
        let after = items_mean items numbers no_nodes flow in
        subst (λ (tag : Option Text). MeansToml reader (toml.array items) (sequence_tree None tag (nodes_tree (items_nodes items s.canonical in_flow no_nodes) s
        directives flow))) (sym (untagged s.canonical in_flow)) (subst (ItemsMeanToml reader items) (sym after.1) after.2)
    node_means (toml.table origin keys) numbers place =
        let flow = is_written_in_flow s place (collection_in in_flow) (has_no_pairs (keys_pairs keys s.canonical in_flow no_pairs)) in
        let after = keys_mean keys numbers no_pairs flow in
        subst (λ (tag : Option Text). MeansToml reader (toml.table origin keys) (mapping_tree None tag
        (pairs_tree (keys_pairs keys s.canonical in_flow no_pairs) s directives flow)))
        (sym (untagged s.canonical in_flow)) (subst (KeysMean reader keys) (sym after.1) after.2)
    node_means (toml.tables done last) numbers place =
        let table = mapping_node (collection_in in_flow) (keys_pairs last s.canonical in_flow no_pairs) in
        let before = items_nodes done s.canonical in_flow no_nodes in
        let flow = is_written_in_flow s place (collection_in in_flow) false in
        let after = items_mean done numbers.0 no_nodes flow in
        let inner = entry_place flow (as_item (has_no_nodes before)) 0 in
        let inner_flow = is_written_in_flow s inner (collection_in in_flow) (has_no_pairs (keys_pairs last s.canonical in_flow no_pairs)) in
        let keys = keys_mean last numbers.1 no_pairs inner_flow in
        let pairs = pairs_tree (keys_pairs last s.canonical in_flow no_pairs) s directives inner_flow in
        subst (λ (tag : Option Text). MeansToml reader (toml.tables done last) (sequence_tree None tag (nodes_tree (nodes_and before table) s directives flow)))
        (sym (untagged s.canonical in_flow)) (
          after.0,
          pairs,
          ap (λ (tag : Option Text). trees_in_order (nodes_tree before s directives flow) ++ mapping_tree None tag pairs ∷ []) (untagged s.canonical in_flow)
              ∙ ap (λ (trees : List Tree). trees ++ mapping_tree None None pairs ∷ []) after.1,
          after.2,
          subst (KeysMean reader last) (sym keys.1) keys.2,
        )

    items_mean : (items : toml.Items) → ItemsHaveNumbers items → (before : Nodes) (flow : Bool) → ItemsAfter items before flow
    items_mean toml.no_items numbers before flow = ([], sym (append-nil (trees_in_order (nodes_tree before s directives flow))), tt)
    items_mean (toml.item x items) numbers before flow =
        let node = toml_node x s.canonical in_flow in
        let place = entry_place flow (as_item (has_no_nodes before)) 0 in
        let tree = node_tree node s directives place in
        let after = items_mean items numbers.1 (nodes_and before node) flow in (
          tree ∷ after.0,
          after.1 ∙ append_assoc (trees_in_order (nodes_tree before s directives flow)) (tree ∷ []) after.0,
          (node_means x numbers.0 place, after.2),
        )

    keys_mean : (keys : toml.TomlNodes) → KeysHaveNumbers keys → (before : Pairs) (flow : Bool) → KeysAfter keys before flow
    keys_mean toml.no_nodes numbers before flow = ([], sym (append-nil (pairs_in_order (pairs_tree before s directives flow))), tt)
    keys_mean (toml.node key x keys) numbers before flow =
        let named = scalar_node (text_content (chars key)) in
        let node = toml_node x s.canonical in_flow in
        let key_place = entry_place flow (as_key (has_no_pairs before)) 0 in
        let place = entry_place flow (as_value (is_simple s.canonical directives named)) 0 in
        let pair : Tree × Tree = (node_tree named s directives key_place, node_tree node s directives place) in
        let after = keys_mean keys numbers.1 (pairs_and before named node) flow in (
          pair ∷ after.0,
          after.1 ∙ append_assoc (pairs_in_order (pairs_tree before s directives flow)) (pair ∷ []) after.0,
          (text_at reader.schema reads.reads s directives key key_place, node_means x numbers.0 place, after.2),
        )
