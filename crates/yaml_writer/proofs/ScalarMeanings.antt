-- How both schemas read the scalars that a writer is given, at every place.
use Rattle.yaml_writer.proofs.Common.{ℕ, if◌then◌else◌, is_some, None, codes, Bool, false, true, ◌&&◌, List, refl, ◌≡◌, ap, ◌∙◌, and_parts, chars, Text}
use Rattle.yaml_writer.proofs.Common.{plain, Effective, JsonNumber, is_json_number, fraction_or_default, is_json_integer, yaml_number, int_tag}
use Rattle.yaml_writer.proofs.Common.{float_tag, not, Allowances, requested_style, fitting_style, fits_plain, IsNumber}
use Rattle.yaml_base.proofs.Common.{bytes_eq, false≢true, bytes_eq-Decides, ScalarStyle, Scalar, scalar_tag, collection_tag, scalar_node, is_empty}
use Rattle.yaml_base.proofs.Common.{is_plain, resolved_by_core, resolved_by_11, digits_value, any_style, double_quoted}
use Rattle.yaml_base.proofs.Common.{TagDirective, Place, is_simple_at, charset_of, style_asked_at, choice_of, allowances, allowed_under}
use Rattle.yaml_base.proofs.Common.{is_block, ChosenStyle, chosen, Stood, stood_plain, stood_quoted, Tagging, with_tag, without_tag, json_value}
use Rattle.yaml_base.proofs.Common.{number_meant, means_number, Resolved, meant_integer, meant_decimal, meant_text, signed}
use Rattle.yaml_base.proofs.{JsonSpelling.spelling_keeps_value, NumbersRead.spelling_read, PlainUnderQuotes.still_plain}
use Rattle.yaml_base.proofs.stream_nodes.StreamAgrees.{node_tree, standing_in, tagging_in}
use Rattle.yaml_base.specs.{Places.is_root, Settings.escapes_separators, scalars.BlockHeader.begins_blank, values.JsonNumbers.value_with}
use Rattle.yaml_base.specs.values.Resolved.{meant_null, meant_boolean, meant_by_nobody}
use Rattle.yaml_base.specs.values.TypedValues.{null_tag, bool_tag, bool_text}
use Rattle.yaml_writer.proofs.{PlainLemmas.plain_texts, PlainNumbers.written_numbers}
use Rattle.yaml_writer.specs.Contents.{word_content, null_content, bool_content, number_content, text_content, collection_in}
use Rattle.yaml_writer.specs.Means.{Schema, canonical_tag, scalar_meant, MeansNumber, MeansText}
use Rattle.yaml_writer.specs.NumberParts.{number_in}
use Rattle.yaml_writer.specs.Writing.{number_tag, text_style}

-- ---- schemas

-- a text in the style that a writer gives it is written plain only if the schema takes it for a text
abbrev pub TextsOf : Schema → Type 0
TextsOf schema =
    (text : Text) (allowed : Allowances) (empty tag_written plain_implicit quoted_implicit flow simple_key canonical : Bool)
    → (chosen allowed (text_style text) empty tag_written plain_implicit quoted_implicit flow simple_key canonical).style ≡ plain
    → schema text ≡ meant_text

-- How both schemas read nothing, booleans, numbers and texts.
pub record ReadsScalars (schema : Schema) : Type 0 where
  pub nothing : schema (codes "null") ≡ meant_null
  pub flags : (flag : Bool) → schema (bool_text flag) ≡ meant_boolean flag
  pub numbers : (parts : JsonNumber) → is_json_number parts ≡ true → schema (yaml_number parts) ≡ number_meant parts
  pub texts : TextsOf schema

flags_by_11 : (flag : Bool) → resolved_by_11 (bool_text flag) ≡ meant_boolean flag
flags_by_11 true = refl
flags_by_11 false = refl

flags_by_core : (flag : Bool) → resolved_by_core (bool_text flag) ≡ meant_boolean flag
flags_by_core true = refl
flags_by_core false = refl

pub reads_by_11 : ReadsScalars resolved_by_11
reads_by_11 =
    record {
      nothing = refl;
      flags = flags_by_11;
      numbers = λ parts valid. (spelling_read parts valid).0;
      texts = λ text allowed empty tag_written plain_implicit quoted_implicit flow simple_key canonical is.
          (plain_texts any_style text allowed empty tag_written plain_implicit quoted_implicit flow simple_key canonical is).0;
    }

pub reads_by_core : ReadsScalars resolved_by_core
reads_by_core =
    record {
      nothing = refl;
      flags = flags_by_core;
      numbers = λ parts valid. (spelling_read parts valid).1;
      texts = λ text allowed empty tag_written plain_implicit quoted_implicit flow simple_key canonical is.
          (plain_texts any_style text allowed empty tag_written plain_implicit quoted_implicit flow simple_key canonical is).1;
    }

-- ---- words

-- a test that holds of both
abbrev both : (Bool → Bool) → Bool
both test = test true && test false

pick : (test : Bool → Bool) → both test ≡ true → (x : Bool) → test x ≡ true
pick test h true = (and_parts (test true) (test false) h).0
pick test h false = (and_parts (test true) (test false) h).1

-- a word is written plain, whichever characters are written as themselves, in flow or in a block, as a key or not
abbrev pub stands_plain : Text → (unicode breaks12 flow simple : Bool) → Bool
stands_plain word unicode breaks12 flow simple =
    is_plain (chosen (allowances (record { unicode = unicode; breaks12 = breaks12 }) word) plain (is_empty word) false true true flow simple false).style

abbrev pub IsPlainWord : Text → Type 0
IsPlainWord word = (unicode breaks12 flow simple : Bool) → stands_plain word unicode breaks12 flow simple ≡ true

pub plain_word : (word : Text)
    → both (λ unicode. both (λ breaks12. both (λ flow. both (λ simple. stands_plain word unicode breaks12 flow simple)))) ≡ true → IsPlainWord word
plain_word word h unicode breaks12 flow simple =
    pick (λ s. stands_plain word unicode breaks12 flow s)
    (pick (λ f. both (λ s. stands_plain word unicode breaks12 f s))
    (pick (λ b. both (λ f. both (λ s. stands_plain word unicode b f s)))
    (pick (λ u. both (λ b. both (λ f. both (λ s. stands_plain word u b f s)))) h unicode) breaks12) flow) simple

pub plain_flags : (flag : Bool) → IsPlainWord (bool_text flag)
plain_flags true = plain_word (codes "true") refl
plain_flags false = plain_word (codes "false") refl

pub plain_numbers : (parts : JsonNumber) → is_json_number parts ≡ true → IsPlainWord (yaml_number parts)
plain_numbers parts valid unicode breaks12 flow simple =
    ap is_plain (written_numbers parts (record { unicode = unicode; breaks12 = breaks12 }) false true true flow simple valid refl).0

-- ---- scalars

module _ (schema : Schema) (s : Effective) (place : Place) (simple : Bool) where
  -- the style of a scalar, and how it is tagged, by whether the form is canonical
  abbrev style_by : Scalar → Bool → ChosenStyle
  style_by content canonical =
      chosen (allowed_under s content) (style_asked_at s place content) (is_empty content.value)
      (is_some (scalar_tag canonical content)) content.plain_implicit content.quoted_implicit place.in_flow simple canonical

  abbrev tagging_by : Scalar → Bool → Tagging
  tagging_by content canonical = tagging_in (scalar_tag canonical content) (style_by content canonical)

  -- With its reading's tag a scalar has the schema's meaning.
  with_own_tag : (own word : Text) (meant : Resolved) → schema word ≡ meant → own ≡ canonical_tag meant → scalar_meant schema (with_tag own) word ≡ meant
  with_own_tag own word meant reads is =
      ap (λ (found : Resolved). if bytes_eq own (canonical_tag found) then found else meant_by_nobody) reads
      ∙ ap (λ (same : Bool). if same then meant else meant_by_nobody) ((bytes_eq-Decides own (canonical_tag meant)).1 is)

  word_by : (own word : Text) (meant : Resolved) → schema word ≡ meant → own ≡ canonical_tag meant → IsPlainWord word → (canonical : Bool)
      → scalar_meant schema (tagging_by (word_content canonical own word) canonical) word ≡ meant
  word_by own word meant reads is plain_there true = with_own_tag own word meant reads is
  word_by own word meant reads is plain_there false =
      ap (λ (x : Bool). scalar_meant schema (without_tag (standing_by x)) word)
      (still_plain s.double_quotes (allowances (charset_of s) word) plain (is_empty word) false true true place.in_flow simple false
      (plain_there s.unicode (escapes_separators s) place.in_flow simple))
      ∙ reads
    where
      standing_by : Bool → Stood
      standing_by x = if x then stood_plain else stood_quoted

  pub word_means : (own word : Text) (meant : Resolved) → schema word ≡ meant → own ≡ canonical_tag meant → IsPlainWord word
      → scalar_meant schema (tagging_in (scalar_tag s.canonical (word_content s.canonical own word))
      (choice_of s place simple (word_content s.canonical own word)))
      word ≡ meant
  word_means own word meant reads is plain_there = word_by own word meant reads is plain_there s.canonical

  -- plain or not
  plain_style : (style : ScalarStyle) → is_plain style ≡ true → style ≡ plain
  plain_style plain h = refl
  plain_style _ h = absurd (false≢true h)

  as_it_stands : (text : Text) (style : ScalarStyle) → (style ≡ plain → schema text ≡ meant_text)
      → scalar_meant schema (without_tag (standing_in style false)) text ≡ meant_text
  as_it_stands text style reads = by (is_plain style) refl
    where
      by : (x : Bool) → is_plain style ≡ x → scalar_meant schema (without_tag (if x then stood_plain else stood_quoted)) text ≡ meant_text
      by true h = reads (plain_style style h)
      by false h = refl

  -- double quotes may be asked for in its place
  text_asked : (text : Text) → TextsOf schema → (instead : Bool) (allowed : Allowances)
      (empty tag_written plain_implicit quoted_implicit flow simple_key canonical : Bool)
      → (chosen allowed (if instead then double_quoted else text_style text) empty tag_written plain_implicit quoted_implicit flow simple_key canonical).style
      ≡ plain
      → schema text ≡ meant_text
  text_asked text texts true allowed empty tag_written plain_implicit quoted_implicit flow simple_key true is = absurd (false≢true (ap is_plain is))
  text_asked text texts true allowed empty tag_written plain_implicit quoted_implicit flow simple_key false is = by (simple_key && allowed.multiline) is
    where
      by : (x : Bool) → fitting_style allowed (fits_plain allowed empty tag_written plain_implicit flow simple_key)
          (allowed.block_allowed && not flow && not simple_key) (requested_style x double_quoted) ≡ plain → schema text ≡ meant_text
      by true is = absurd (false≢true (ap is_plain is))
      by false is = absurd (false≢true (ap is_plain is))
  text_asked text texts false allowed empty tag_written plain_implicit quoted_implicit flow simple_key canonical is =
      texts text allowed empty tag_written plain_implicit quoted_implicit flow simple_key canonical is

  -- whether they are
  abbrev instead : Text → Bool
  instead text = is_block (text_style text) && is_root place && s.portable && begins_blank text

  text_by : (text : Text) → TextsOf schema → (canonical : Bool) → scalar_meant schema (tagging_by (text_content text) canonical) text ≡ meant_text
  text_by text texts true = as_it_stands text (style_by (text_content text) true).style
      (text_asked text texts (instead text) (allowed_under s (text_content text)) (is_empty text) false true true place.in_flow simple true)
  text_by text texts false = as_it_stands text (style_by (text_content text) false).style
      (text_asked text texts (instead text) (allowed_under s (text_content text)) (is_empty text) false true true place.in_flow simple false)

  pub text_means : (text : Text) → TextsOf schema
      → scalar_meant schema (tagging_in (scalar_tag s.canonical (text_content text)) (choice_of s place simple (text_content text))) text ≡ meant_text
  text_means text texts = text_by text texts s.canonical

-- a number's tag is that of its reading
pub number_tagged : (parts : JsonNumber) → number_tag parts ≡ canonical_tag (number_meant parts)
number_tagged parts = by (is_json_integer parts)
  where
    by : (x : Bool) → (if x then int_tag else float_tag)
        ≡ canonical_tag (if x then meant_integer (signed parts.negative (digits_value 10 parts.whole)) else meant_decimal
        (value_with parts (fraction_or_default (codes "0") parts)))
    by true = refl
    by false = refl

-- a collection has no tag in any form
pub untagged : (canonical in_flow : Bool) → collection_tag canonical (collection_in in_flow) ≡ None
untagged true in_flow = refl
untagged false in_flow = refl

-- ---- nodes

module _ (schema : Schema) (reads : ReadsScalars schema) (s : Effective) (directives : List TagDirective) where
  -- how a scalar is tagged in a place
  abbrev pub tagging_at : Place → Scalar → Tagging
  tagging_at place content =
      tagging_in (scalar_tag s.canonical content) (choice_of s place (is_simple_at place s.canonical directives (scalar_node content)) content)

  -- a word
  pub word_at : (own word : Text) (meant : Resolved) → schema word ≡ meant → own ≡ canonical_tag meant → IsPlainWord word → (place : Place)
      → scalar_meant schema (tagging_at place (word_content s.canonical own word)) word ≡ meant
  word_at own word meant read is plain_there place =
      word_means schema s place (is_simple_at place s.canonical directives (scalar_node (word_content s.canonical own word))) own word meant read is
      plain_there

  pub null_at : (place : Place) → scalar_meant schema (tagging_at place (null_content s.canonical)) (codes "null") ≡ meant_null
  null_at place = word_at null_tag (codes "null") meant_null reads.nothing refl (plain_word (codes "null") refl) place

  pub flag_at : (flag : Bool) (place : Place) → scalar_meant schema (tagging_at place (bool_content s.canonical flag)) (bool_text flag) ≡ meant_boolean flag
  flag_at flag place = word_at bool_tag (bool_text flag) (meant_boolean flag) (reads.flags flag) refl (plain_flags flag) place

  -- a number, by its text
  pub number_at : (text : List ℕ) → IsNumber text (number_in text) → (place : Place)
      → MeansNumber text (scalar_meant schema (tagging_at place (number_content s.canonical (number_in text))) (yaml_number (number_in text)))
  number_at text is place =
      let parts = number_in text in
      record {
        parts = parts;
        is_number = is;
        means =
            ap (means_number (json_value parts))
            (word_at (number_tag parts) (yaml_number parts) (number_meant parts) (reads.numbers parts is.valid) (number_tagged parts)
            (plain_numbers parts is.valid) place)
            ∙ spelling_keeps_value parts;
      }

  -- a text
  pub text_at : (text : List ℕ) (place : Place) → MeansText schema text (node_tree (scalar_node (text_content (chars text))) s directives place)
  text_at text place =
      (text_means schema s place (is_simple_at place s.canonical directives (scalar_node (text_content (chars text)))) (chars text) reads.texts, refl)
