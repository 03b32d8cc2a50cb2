-- The events of a document that doesn't nest too deep are an accepted list.
use Rattle.yaml_toml.proofs.Common.{suc, ℕ, ◌+◌, ◌≤◌, Bool, true, Option, None, Some, List, [], ◌++◌, ◌∷◌, refl, ◌≡◌, append-nil, append_assoc, subst, sym}
use Rattle.yaml_toml.proofs.Common.{false, arith, chars, Event, scalar, sequence_start, sequence_end, mapping_start, mapping_end, most_open, is_sound}
use Rattle.yaml_toml.proofs.Common.{IsAccepted, is_json_integer, yaml_number, bool_tag, bool_text, word_content, text_content, collection_in, number_in}
use Rattle.yaml_toml.proofs.Common.{closing, signed_decimal, document_nesting, items_nesting, keys_nesting, toml_nesting, date_content, decimal_content}
use Rattle.yaml_toml.proofs.Common.{infinite, integer_content, toml_items_events, json_word, keys_events, moment_content, special_content, toml_events}
use Rattle.yaml_toml.proofs.Common.{special_text, Moment, ClockTime, moment_of, datetime_text}
use Rattle.yaml_emitter.proofs.AcceptedLists.{sound, both_sound, Stays, few_open}
use Rattle.yaml_writer.{proofs.WhyFailed.NeverPasses, specs.declared.floats.SpecialFloat.TheVariants.NotANumber}
use Rattle.yaml_writer.proofs.Accepting.{bool_sound, closing_stays, first_sound, float_sound, int_sound, mapping_sound, number_sound, opening_stays}
use Rattle.yaml_writer.proofs.Accepting.{sequence_sound, stream_of_sound, text_sound}
use Rattle.yaml_toml.proofs.TomlTrees.{all_events, root_of, stream_flat, toml_stream}
use Rattle.toml_datetime.specs.declared.datetime.Datetime.{Datetime}
use Rattle.toml_ordered.specs.Data as toml

-- ---- each event is in order

moment_sound : (moment : Moment) (canonical : Bool) (time : Option ClockTime)
    → is_sound canonical (scalar (moment_content canonical (record { date = moment.date; time = time }))) ≡ true
moment_sound moment true None = refl
moment_sound moment true (Some time) = refl
moment_sound moment false None = refl
moment_sound moment false (Some time) = refl

date_sound : (date : Datetime) (canonical : Bool) (found : Option Moment) → is_sound canonical (scalar (date_content canonical date found)) ≡ true
date_sound date canonical None = text_sound canonical (chars (datetime_text date))
date_sound date canonical (Some moment) = moment_sound moment canonical moment.time

module _ (canonical in_flow : Bool) where
  mutual
    value_sound : (x : toml.TomlNode) → sound canonical (toml_events canonical in_flow x) ≡ true
    value_sound (toml.string text) = first_sound canonical (scalar (text_content (chars text))) [] (text_sound canonical (chars text)) refl
    value_sound (toml.integer z) = first_sound canonical (scalar (integer_content canonical z)) [] (int_sound canonical (signed_decimal z)) refl
    value_sound (toml.decimal word) =
        let parts = number_in (json_word word) in
        first_sound canonical (scalar (decimal_content canonical word)) [] (number_sound canonical (is_json_integer parts) (yaml_number parts)) refl
    value_sound (toml.infinity negative) =
        first_sound canonical (scalar (special_content canonical (infinite negative))) [] (float_sound canonical (special_text (infinite negative))) refl
    value_sound toml.not_a_number =
        first_sound canonical (scalar (special_content canonical NotANumber)) [] (float_sound canonical (special_text NotANumber)) refl
    value_sound (toml.boolean flag) =
        first_sound canonical (scalar (word_content canonical bool_tag (bool_text flag))) [] (bool_sound canonical (bool_text flag)) refl
    value_sound (toml.datetime date) =
        first_sound canonical (scalar (date_content canonical date (moment_of date))) [] (date_sound date canonical (moment_of date)) refl
    value_sound (toml.array items) =
        first_sound canonical (sequence_start (collection_in in_flow)) (toml_items_events canonical in_flow items ++ sequence_end ∷ [])
        (sequence_sound canonical in_flow) (both_sound canonical (toml_items_events canonical in_flow items) (sequence_end ∷ []) (items_sound items) refl)
    value_sound (toml.table origin keys) =
        first_sound canonical (mapping_start (collection_in in_flow)) (keys_events canonical in_flow keys ++ mapping_end ∷ []) (mapping_sound canonical in_flow)
        (both_sound canonical (keys_events canonical in_flow keys) (mapping_end ∷ []) (keys_sound keys) refl)
    value_sound (toml.tables done last) =
        let ends = mapping_end ∷ sequence_end ∷ [] in
        let behind = mapping_start (collection_in in_flow) ∷ (keys_events canonical in_flow last ++ ends) in
        first_sound canonical (sequence_start (collection_in in_flow)) (toml_items_events canonical in_flow done ++ behind) (sequence_sound canonical in_flow)
        (both_sound canonical (toml_items_events canonical in_flow done) behind (items_sound done)
        (first_sound canonical (mapping_start (collection_in in_flow)) (keys_events canonical in_flow last ++ ends) (mapping_sound canonical in_flow)
        (both_sound canonical (keys_events canonical in_flow last) ends (keys_sound last) refl)))

    items_sound : (items : toml.Items) → sound canonical (toml_items_events canonical in_flow items) ≡ true
    items_sound toml.no_items = refl
    items_sound (toml.item x items) =
        both_sound canonical (toml_events canonical in_flow x) (toml_items_events canonical in_flow items) (value_sound x) (items_sound items)

    keys_sound : (keys : toml.TomlNodes) → sound canonical (keys_events canonical in_flow keys) ≡ true
    keys_sound toml.no_nodes = refl
    keys_sound (toml.node key x keys) =
        first_sound canonical (scalar (text_content (chars key))) (toml_events canonical in_flow x ++ keys_events canonical in_flow keys)
        (text_sound canonical (chars key))
        (both_sound canonical (toml_events canonical in_flow x) (keys_events canonical in_flow keys) (value_sound x) (keys_sound keys))

  pub stream_sound : (root : toml.TomlNodes) → sound canonical (all_events root canonical in_flow) ≡ true
  stream_sound root = stream_of_sound canonical (toml_events canonical in_flow (root_of root)) (value_sound (root_of root))

  -- ---- how many collections are open

  module _ (most : ℕ) where
    mutual
      value_stays : (x : toml.TomlNode) (now : ℕ) (rest : List Event) → now + toml_nesting x ≤ most → Stays most now rest
          → Stays most now (toml_events canonical in_flow x ++ rest)
      value_stays (toml.array items) now rest fits later =
          let inside : suc now + items_nesting items ≤ most = omega (arith, fits) in (
            omega (arith, fits),
            subst (Stays most (suc now)) (sym (append_assoc (toml_items_events canonical in_flow items) (sequence_end ∷ []) rest))
                (items_stay items (suc now) (sequence_end ∷ rest) inside (omega (arith, fits), later)),
          )
      value_stays (toml.table origin keys) now rest fits later =
          let inside : suc now + keys_nesting keys ≤ most = omega (arith, fits) in (
            omega (arith, fits),
            subst (Stays most (suc now)) (sym (append_assoc (keys_events canonical in_flow keys) (mapping_end ∷ []) rest))
                (keys_stay keys (suc now) (mapping_end ∷ rest) inside (omega (arith, fits), later)),
          )
      value_stays (toml.tables done last) now rest fits later =
          let inside : suc now + items_nesting done ≤ most = omega (arith, fits) in
          let deeper : suc (suc now) + keys_nesting last ≤ most = omega (arith, fits) in
          let ends = mapping_end ∷ sequence_end ∷ [] in
          let behind = mapping_start (collection_in in_flow) ∷ (keys_events canonical in_flow last ++ ends) in
          let second : suc now ≤ most = omega (arith, fits) in
          let third : suc (suc now) ≤ most = omega (arith, deeper) in (
            omega (arith, fits),
            subst (Stays most (suc now)) (sym (append_assoc (toml_items_events canonical in_flow done) behind rest))
                (items_stay done (suc now) (behind ++ rest) inside (
                  second,
                  subst (Stays most (suc (suc now))) (sym (append_assoc (keys_events canonical in_flow last) ends rest))
                      (keys_stay last (suc (suc now)) (ends ++ rest) deeper (third, (second, later))),
                )),
          )
      value_stays _ now rest fits later = (omega (arith, fits), later)

      items_stay : (items : toml.Items) (now : ℕ) (rest : List Event) → now + items_nesting items ≤ most → Stays most now rest
          → Stays most now (toml_items_events canonical in_flow items ++ rest)
      items_stay toml.no_items now rest fits later = later
      items_stay (toml.item x items) now rest fits later =
          subst (Stays most now) (sym (append_assoc (toml_events canonical in_flow x) (toml_items_events canonical in_flow items) rest))
          (value_stays x now (toml_items_events canonical in_flow items ++ rest) (omega (arith, fits)) (items_stay items now rest (omega (arith, fits)) later))

      keys_stay : (keys : toml.TomlNodes) (now : ℕ) (rest : List Event) → now + keys_nesting keys ≤ most → Stays most now rest
          → Stays most now (keys_events canonical in_flow keys ++ rest)
      keys_stay toml.no_nodes now rest fits later = later
      keys_stay (toml.node key x keys) now rest fits later = (
        omega (arith, fits),
        subst (Stays most now) (sym (append_assoc (toml_events canonical in_flow x) (keys_events canonical in_flow keys) rest))
            (value_stays x now (keys_events canonical in_flow keys ++ rest) (omega (arith, fits)) (keys_stay keys now rest (omega (arith, fits)) later)),
      )

    -- no prefix leaves more open
    pub stream_shallow : (root : toml.TomlNodes) → document_nesting root ≤ most → NeverPasses most (all_events root canonical in_flow)
    stream_shallow root fits = λ prefix rest is.
        let events = toml_events canonical in_flow (root_of root) in
        few_open most (all_events root canonical in_flow) prefix rest
        (opening_stays most (events ++ closing) (value_stays (root_of root) 0 closing (omega (arith, fits)) (closing_stays most))) is

    -- the same of its document's own events
    pub document_shallow : (root : toml.TomlNodes) → document_nesting root ≤ most → NeverPasses most (toml_events canonical in_flow (root_of root))
    document_shallow root fits = λ prefix rest is.
        let events = toml_events canonical in_flow (root_of root) in
        few_open most events prefix rest (subst (Stays most 0) (append-nil events) (value_stays (root_of root) 0 [] (omega (arith, fits)) (omega arith))) is

  -- ---- all

  pub toml_accepted : (root : toml.TomlNodes) → document_nesting root ≤ most_open → IsAccepted canonical (all_events root canonical in_flow)
  toml_accepted root fits =
      record {
        stream = toml_stream root canonical in_flow;
        is_stream = stream_flat root canonical in_flow;
        sound = stream_sound root;
        shallow = stream_shallow most_open root fits;
      }
