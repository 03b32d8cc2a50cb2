-- A text of a value with unique keys has no place at which a key repeats; so no error has a place in the bytes of such a value.
use Rattle.yaml_read.proofs.Common.{ℕ, ◌+◌, ◌*◌, ◌⊎◌, [], ◌∷◌, ◌++◌, ◌≡◌, ◌∙◌, None, Some, Option, List, refl, ap, subst, sym, inl, inr, append_assoc, arith}
use Rattle.yaml_read.proofs.Common.{append-nil, codes, encode, encode_utf8_all, length, line_feed, utf8, append_cancel_left, encodes-append, text_bytes-utf8}
use Rattle.yaml_read.proofs.Common.{TypedPairs, TypedValue, TypedValues, list_value, map_value, no_value_pairs, no_values, value_pairs_and, suc, values_and}
use Rattle.yaml_read.proofs.Common.{HasUniqueKeys, document_text, line_at, value_text, OpenLevel, items_open, pairs_open, value_due, Keys, KeysAllow}
use Rattle.yaml_read.proofs.Common.{OpenHasUniqueKeys, behind_value, node, HasRead, IsOpen, opened_text, BreaksInValue, behind_all, behind_node, in_node}
use Rattle.yaml_read.proofs.Common.{CanBeRead, CanBeReadAt, column_in, IsPlacedBy, ReadError, IsUtf8, Stop, StopsAt}
use Rattle.yaml_read.proofs.OnePlace.{bare, bare_length, behind_bare, no_place, opened_walk, value_walk}
use Rattle.yaml_read.proofs.Opening.{item_on, item_out, key_on, pair_on, pair_out, value_in, value_out, word_read}
use Rattle.yaml_read.proofs.WordSteps.{NodeStep, entry_bytes, entry_mark, entry_words, key_words, lies_deep, list_opened, map_opened, node_step}
use Rattle.yaml_read.proofs.WordSteps.{single, whole_value}
use Rattle.yaml_read.proofs.Walks.{Spot, Walk, a_key, a_list, a_map, after_node, at_end, at_node, later, mark, next_spot, past_halts, same_some, stays, walks}
use Rattle.yaml_read.proofs.Walks.{words_at}
use Rattle.yaml_read.{specs.Errors.Tells, specs.Errors.TellsKey, specs.HeldKeys.KeyStopsAt, specs.RepeatedKeys.RepeatsKey}
use Rattle.yaml_read.{specs.declared.errors.KeyStop.KeyStop}
use Rattle.yaml_read.proofs.{Placing.stops_placed, ChosenKeys.NoneAllowed, Encoded.word_encoded, Remaining.readable_root, Turns.key_line, WordTexts.flat}
use Rattle.yaml_read.proofs.{TextWalks.entry_of, WrittenValues.text_tells}
use Rattle.yaml_read.specs.declared.errors.KeyStop.TheVariants as key
use Rattle.yaml_read.specs.declared.errors.Stop.TheVariants as stop
use Rattle.yaml_value.specs.declared.keys.Keys.TheVariants as keys
use Rattle.yaml_read.specs.declared.errors.ReadError.TheVariants as told

-- the bytes are those of a whole value, and this holds if its keys are unique
record Ends (whole : List ℕ) (Holds : Type 0) : Type 0 where
  pub root : TypedValue
  pub text : whole ≡ encode_utf8_all (value_text 0 root ++ line_feed ∷ [])
  pub readable : CanBeReadAt 0 root
  pub back : HasUniqueKeys root → Holds

ends_as : (whole : List ℕ) (One Other : Type 0) → (One → Other) → Ends whole One → Ends whole Other
ends_as whole One Other into ends = record { root = ends.root; text = ends.text; readable = ends.readable; back = λ unique. into (ends.back unique) }

-- from a place on the way leads to the end
record Goes (whole : List ℕ) (spot : Spot) (bytes : List ℕ) : Type 0 where
  pub node : (levels : List OpenLevel) → spot ≡ at_node (bare levels) → IsOpen whole levels bytes → Ends whole (OpenHasUniqueKeys levels)
  pub behind : (levels : List OpenLevel) (value : TypedValue) → spot ≡ after_node (bare levels) → HasRead whole levels value bytes
      → Ends whole (OpenHasUniqueKeys levels × HasUniqueKeys value)
  pub done : spot ≡ at_end → bytes ≡ []

none_some : (a : Spot) → ◌≡◌ {A = Option Spot} None (Some a) → ⊥
none_some a is = cc

-- ---- one step on

module _ (whole : List ℕ) (next : Spot) (bytes rest : List ℕ) (words : List (List ℕ)) (is : bytes ≡ flat words ++ rest) (goes : Goes whole next rest) where
  node_on : (levels : List OpenLevel) → NodeStep levels words → next_spot (at_node (bare levels)) (mark words) ≡ Some next → IsOpen whole levels bytes
      → Ends whole (OpenHasUniqueKeys levels)
  node_on levels (whole_value value readable text leads) to opened =
      ends_as whole (OpenHasUniqueKeys levels × HasUniqueKeys value) (OpenHasUniqueKeys levels) (λ both. both.0)
      (goes.behind levels value (same_some _ _ (sym to ∙ leads (bare levels))) (value_in _ _ _ _ _ opened (is ∙ ap (λ t. t ++ rest) (sym text)) readable))
  node_on levels (list_opened room text leads) to opened =
      ends_as whole (OpenHasUniqueKeys (items_open no_values ∷ levels)) (OpenHasUniqueKeys levels) (λ both. both.0)
      (goes.node (items_open no_values ∷ levels) (same_some _ _ (sym to ∙ leads (bare levels)))
      (record { text = word_read _ _ rest _ _ (opened_text levels) opened.text is text; readable = (opened.readable, (room, tt)) }))
  node_on levels (map_opened room text leads) to opened =
      ends_as whole (OpenHasUniqueKeys (pairs_open no_value_pairs ∷ levels)) (OpenHasUniqueKeys levels) (λ both. both.0)
      (goes.node (pairs_open no_value_pairs ∷ levels) (same_some _ _ (sym to ∙ leads (bare levels)))
      (record { text = word_read _ _ rest _ _ (opened_text levels) opened.text is text; readable = (opened.readable, (room, tt)) }))
  node_on levels (lies_deep deep leads) to opened = absurd (none_some next (sym (leads (bare levels)) ∙ to))

  -- the bytes of an entry's end, and the place after it
  cut : (depth : ℕ) (word : List ℕ) → words ≡ entry_of depth word → bytes ≡ codes "," ++ (line_at (depth * 2) ++ (word ++ rest))
  cut depth word are = grind (arith, flat, entry_bytes, codes, append_assoc, line_at)

  there : (depth : ℕ) (word : List ℕ) (level : OpenLevel) (levels : List OpenLevel) (place : Spot) → words ≡ entry_of depth word
      → next_spot (after_node (level ∷ levels)) (mark words) ≡ Some next → next_spot (after_node (level ∷ levels)) (mark (entry_of depth word)) ≡ Some place
      → next ≡ place
  there depth word level levels place are to leads = grind (arith, same_some, next_spot, after_node, mark)

  item_on_way : (levels : List OpenLevel) (items : TypedValues) (value : TypedValue)
      → (words ≡ entry_of (length levels) (codes "  ")) ⊎ (words ≡ entry_of (length levels) (codes "]"))
      → next_spot (after_node (a_list ∷ bare levels)) (mark words) ≡ Some next → HasRead whole (items_open items ∷ levels) value bytes
      → Ends whole (OpenHasUniqueKeys (items_open items ∷ levels) × HasUniqueKeys value)
  item_on_way levels items value (inl are) to read =
      ends_as whole (OpenHasUniqueKeys (items_open (values_and items value) ∷ levels)) (OpenHasUniqueKeys (items_open items ∷ levels) × HasUniqueKeys value)
      (λ all. ((all.0, all.1.0), all.1.1)) (goes.node (items_open (values_and items value) ∷ levels)
      (there (length levels) (codes "  ") a_list (bare levels) (at_node (a_list ∷ bare levels)) are to
      (ap (next_spot (after_node (a_list ∷ bare levels))) (entry_mark (length levels) (codes "  "))))
      (item_on whole levels items value bytes rest read (cut (length levels) (codes "  ") are)))
  item_on_way levels items value (inr are) to read =
      ends_as whole (OpenHasUniqueKeys levels × HasUniqueKeys (list_value (values_and items value)))
      (OpenHasUniqueKeys (items_open items ∷ levels) × HasUniqueKeys value) (λ all. ((all.0, all.1.0), all.1.1))
      (goes.behind levels (list_value (values_and items value)) (there (length levels) (codes "]") a_list (bare levels) (after_node (bare levels)) are to
      (ap (next_spot (after_node (a_list ∷ bare levels))) (entry_mark (length levels) (codes "]"))))
      (item_out whole levels items value bytes rest read (cut (length levels) (codes "]") are)))

  pair_on_way : (levels : List OpenLevel) (pairs : TypedPairs) (key value : TypedValue)
      → (words ≡ entry_of (length levels) (codes "  ? ")) ⊎ (words ≡ entry_of (length levels) (codes "}"))
      → next_spot (after_node (a_key ∷ bare levels)) (mark words) ≡ Some next → HasRead whole (value_due pairs key ∷ levels) value bytes
      → Ends whole (OpenHasUniqueKeys (value_due pairs key ∷ levels) × HasUniqueKeys value)
  pair_on_way levels pairs key value (inl are) to read =
      ends_as whole (OpenHasUniqueKeys (pairs_open (value_pairs_and pairs key value) ∷ levels))
      (OpenHasUniqueKeys (value_due pairs key ∷ levels) × HasUniqueKeys value) (λ all. ((all.0, (all.1.0, (all.1.1.0, all.1.1.1.0))), all.1.1.1.1))
      (goes.node (pairs_open (value_pairs_and pairs key value) ∷ levels)
      (there (length levels) (codes "  ? ") a_key (bare levels) (at_node (a_map ∷ bare levels)) are to
      (ap (next_spot (after_node (a_key ∷ bare levels))) (entry_mark (length levels) (codes "  ? "))))
      (pair_on whole levels pairs key value bytes rest read (cut (length levels) (codes "  ? ") are)))
  pair_on_way levels pairs key value (inr are) to read =
      ends_as whole (OpenHasUniqueKeys levels × HasUniqueKeys (map_value (value_pairs_and pairs key value)))
      (OpenHasUniqueKeys (value_due pairs key ∷ levels) × HasUniqueKeys value) (λ all. ((all.0, (all.1.0, (all.1.1.0, all.1.1.1.0))), all.1.1.1.1))
      (goes.behind levels (map_value (value_pairs_and pairs key value))
      (there (length levels) (codes "}") a_key (bare levels) (after_node (bare levels)) are to
      (ap (next_spot (after_node (a_key ∷ bare levels))) (entry_mark (length levels) (codes "}"))))
      (pair_out whole levels pairs key value bytes rest read (cut (length levels) (codes "}") are)))

  behind_on : (levels : List OpenLevel) (value : TypedValue) → behind_value levels words → next_spot (after_node (bare levels)) (mark words) ≡ Some next
      → HasRead whole levels value bytes → Ends whole (OpenHasUniqueKeys levels × HasUniqueKeys value)
  behind_on [] value are to read =
      record {
        root = value;
        text =
            value_out whole value bytes read
            (is ∙ ap (λ ws. flat ws ++ rest) (single (codes "\n") words are) ∙ ap (λ t. codes "\n" ++ t) (goes.done (same_some next at_end (sym to))));
        readable = read.readable;
        back = λ unique. (tt, unique);
      }
  behind_on (items_open items ∷ levels) value are to read =
      item_on_way levels items value (entry_words (length levels) (codes "  ") (codes "]") words are) to read
  behind_on (value_due pairs key ∷ levels) value are to read =
      pair_on_way levels pairs key value (entry_words (length levels) (codes "  ? ") (codes "}") words are) to read
  behind_on (pairs_open pairs ∷ levels) key are to read =
      let line = line_at (length levels * 2) in
      ends_as whole (OpenHasUniqueKeys (value_due pairs key ∷ levels)) (OpenHasUniqueKeys (pairs_open pairs ∷ levels) × HasUniqueKeys key)
      (λ all. ((all.0, all.1.0), all.1.1.1)) (goes.node (value_due pairs key ∷ levels) (same_some next (at_node (a_key ∷ bare levels)) (sym to))
      (key_on whole levels pairs key bytes rest read
      (is ∙ ap (λ t. t ++ rest) (key_words (length levels) words are) ∙ append_assoc line (codes "  : ") rest)))

  goes_on : (spot : Spot) → words_at spot words → next_spot spot (mark words) ≡ Some next → Goes whole spot bytes
  goes_on spot are to =
      record {
        node = λ levels at opened.
            node_on levels (node_step levels words (subst (λ n. node n words) (sym (bare_length levels)) (subst (λ (s : Spot). words_at s words) at are)))
            (subst (λ (s : Spot). next_spot s (mark words) ≡ Some next) at to) opened;
        behind = λ levels value at read.
            behind_on levels value
            (behind_bare (λ These. These words → behind_value levels words) levels (λ these. these) (subst (λ (s : Spot). words_at s words) at are))
            (subst (λ (s : Spot). next_spot s (mark words) ≡ Some next) at to) read;
        done = λ at. absurd (none_some next (subst (λ (s : Spot). next_spot s (mark words) ≡ Some next) at to));
      }

goes_by : (whole : List ℕ) (spot last : Spot) (bytes end : List ℕ) → Walk spot bytes last end → last ≡ at_end → end ≡ [] → Goes whole spot bytes
goes_by whole _ _ _ _ (stays spot bytes) off none =
    record { node = λ levels at. absurd (apart at); behind = λ levels value at. absurd (away at); done = λ at. none }
  where
    apart : {levels : List OpenLevel} → spot ≡ at_node levels → ⊥
    apart at = cc

    away : {levels : List OpenLevel} → spot ≡ after_node levels → ⊥
    away at = cc
goes_by whole _ _ _ _ (walks spot next last bytes rest end words are to is more) off none =
    goes_on whole next bytes rest words is (goes_by whole next last rest end more off none) spot are to

-- ---- no key repeats

repeats_not : (value : TypedValue) (whole : List ℕ) (left : ℕ) → CanBeReadAt 0 value → HasUniqueKeys value
    → whole ≡ encode_utf8_all (value_text 0 value ++ line_feed ∷ []) → (repeats : RepeatsKey whole left)
    → CanBeReadAt (suc (length repeats.outer)) repeats.key → ⊥
repeats_not value whole left readable unique is repeats fits =
    let outer = repeats.outer in
    let column = column_in outer + 2 in
    let levels = value_due repeats.pairs repeats.key ∷ outer in
    let line = encode_utf8_all (line_at column ++ codes ": ") in
    let opened : IsOpen whole levels repeats.rest =
    key_on whole outer repeats.pairs repeats.key (line ++ repeats.rest) repeats.rest (value_in _ _ repeats.key _ (line ++ repeats.rest) repeats.opened
    (repeats.begins ∙ ap (λ t. t ++ repeats.rest) (encodes-append (value_text column repeats.key) (line_at column ++ codes ": "))
    ∙ append_assoc (encode_utf8_all (value_text column repeats.key)) line repeats.rest) fits)
    (ap (λ t. t ++ repeats.rest) (key_line outer []) ∙ append_assoc (line_at (length outer * 2)) (codes "  : ") repeats.rest) in
    let walk = subst (λ (t : List ℕ). Walk (at_node []) t at_end []) (append-nil (encode_utf8_all (value_text 0 value ++ line_feed ∷ [])) ∙ sym is)
    (value_walk value readable) in
    let ends = (goes_by whole _ _ _ _ (later _ _ _ _ _ _ (opened_walk _ _ _ opened) walk (past_halts [])) refl refl).node levels refl opened in
    let same : ends.root ≡ value = text_tells ends.root value ends.readable readable
    (word_encoded (codes "---\n") (value_text 0 ends.root ++ line_feed ∷ []) refl ∙ ap (λ t. codes "---\n" ++ t) (sym ends.text ∙ is)
    ∙ sym (word_encoded (codes "---\n") (value_text 0 value ++ line_feed ∷ []) refl)) in
    repeats.again (ends.back (subst HasUniqueKeys (sym same) unique)).1.1.0

-- ---- errors

forgets : (mode : Keys) (whole : List ℕ) (left : ℕ) → BreaksInValue mode whole left → BreaksInValue keys.MayRepeat whole left
forgets mode whole left (in_node levels bytes opened allowed breaks) = in_node levels bytes opened tt breaks
forgets mode whole left (behind_node levels value bytes read levels_allowed allowed breaks) = behind_node levels value bytes read tt tt breaks
forgets mode whole left (behind_all value bytes rest read allowed is some place) = behind_all value bytes rest read tt is some place

forgets_stop : (mode : Keys) (bytes : List ℕ) (reason : Stop) → StopsAt mode bytes reason → StopsAt keys.MayRepeat bytes reason
forgets_stop mode bytes (stop.Refused left) (inl breaks) = inl breaks
forgets_stop mode bytes (stop.Refused left) (inr behind) = inr (behind.0, behind.1, forgets mode behind.0 left behind.2)
forgets_stop mode bytes (stop.TooDeep left) behind =
    let deep = behind.2 in (
      behind.0,
      behind.1,
      record {
        levels = deep.levels;
        bytes = deep.bytes;
        opened = deep.opened;
        allowed = tt;
        full = deep.full;
        inside = deep.inside;
        begins = deep.begins;
        place = deep.place;
      },
    )
forgets_stop mode bytes stop.Memory stops = tt

-- bytes of a value that can be read are refused for want of memory alone, unless a key repeats
memory_alone : (mode : Keys) (bytes : List ℕ) (reason : Stop) (error : ReadError) (value : TypedValue) → IsUtf8 bytes → Tells bytes reason error
    → StopsAt mode bytes reason → CanBeRead value → encode (Some utf8) (document_text value) ≡ bytes → error ≡ told.Memory
memory_alone mode bytes reason error value valid tells stops readable is =
    no_place value error readable (subst (λ (b : List ℕ). IsPlacedBy keys.MayRepeat b error) (sym is)
    (stops_placed keys.MayRepeat bytes reason error valid tells (forgets_stop mode bytes reason stops)))

-- memory gave out, or no value with keys as they must be has the bytes at which reading stops
pub none_allowed : (mode : Keys) (bytes : List ℕ) (why : KeyStop) (error : ReadError) → IsUtf8 bytes → TellsKey bytes why error
    → KeyStopsAt mode bytes why → NoneAllowed mode bytes error
none_allowed mode bytes (key.Other stop.Memory) error valid tells stops = inl tells
none_allowed mode bytes (key.Other (stop.Refused left)) error valid tells stops =
    inr (λ value readable allow is.
    let memory = memory_alone mode bytes (stop.Refused left) error value valid tells stops readable is in let other = tells.2 in cc)
none_allowed mode bytes (key.Other (stop.TooDeep left)) error valid tells stops =
    inr (λ value readable allow is.
    let memory = memory_alone mode bytes (stop.TooDeep left) error value valid tells stops readable is in let other = tells.2 in cc)
none_allowed mode bytes (key.Repeats left) error valid tells stops =
    inr (λ value readable allow is.
    repeats_not value stops.1.0 left (readable_root value readable) (subst (λ (m : Keys). KeysAllow m value) stops.0 allow)
    (append_cancel_left (codes "---\n") stops.1.0 (encode_utf8_all (value_text 0 value ++ line_feed ∷ []))
    (sym stops.1.1 ∙ sym is ∙ text_bytes-utf8 (document_text value) ∙ word_encoded (codes "---\n") (value_text 0 value ++ line_feed ∷ []) refl))
    stops.1.2.0 stops.1.2.1)
