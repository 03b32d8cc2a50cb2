-- The keys that the reader holds of the maps that are open.
use Rattle.std.specs.Prelude.{ℕ, suc, ◌+◌, ◌<◌, ◌≤◌, ◌≡◌, ◌||◌, Bool, true, false, Result, Ok, Err, IfErr, IfOk, List, [], ◌∷◌, ◌++◌}
use Rattle.std.specs.Prelude.{String, bytes_eq, length, take}
use Rattle.std.specs.BTreeSet.{BTreeSet, contains_text}
use Rattle.std.specs.Str.{encode_utf8_all}
use Rattle.yaml_base.specs.values.TypedValues.{TypedPairs, TypedValue, no_value_pairs, null_value, value_pairs_and}
use Rattle.yaml_base.specs.graphs.DumpedText.{document_text}
use Rattle.yaml_value.specs.OpenLevels.{OpenLevel, items_open, pairs_open, value_due}
use Rattle.yaml_value.specs.{SeenValues.seen_value, declared.levels.Level.Level, declared.value.Value.Value}
use Rattle.yaml_read.specs.AllowedKeys.{KeysAllow}
use Rattle.yaml_read.specs.Opened.{IsOpen}
use Rattle.yaml_read.specs.Places.{IsBehindMarker, StopsAt}
use Rattle.yaml_read.specs.Readable.{CanBeReadAt}
use Rattle.yaml_read.specs.Remaining.{column_in}
use Rattle.yaml_read.specs.RepeatedKeys.{RepeatsKey, key_bytes}
use Rattle.yaml_read.specs.Settled.{Moved}
use Rattle.yaml_read.specs.declared.errors.KeyStop.{KeyStop}
use Rattle.yaml_read.specs.declared.errors.KeyStop.TheVariants as stop
use Rattle.yaml_read.specs.declared.errors.Stop.TheVariants.{Memory}
use Rattle.yaml_value.specs.declared.keys.Keys.{Keys}
use Rattle.yaml_value.specs.declared.keys.Keys.TheVariants as keys
use Rattle.yaml_read.specs.declared.keys.OpenKeys.{OpenKeys}

-- True of the bytes of a key of these pairs.
abbrev pub is_key : (column : ℕ) → TypedPairs → (bytes : List ℕ) → Bool
is_key column no_value_pairs bytes = false
is_key column (value_pairs_and pairs key value) bytes = is_key column pairs bytes || bytes_eq (key_bytes column key) bytes

-- a set has the bytes of the keys of these pairs, and no others
abbrev pub HasKeys : {A : Type 0} → (column : ℕ) → TypedPairs → BTreeSet (String A) → Type 0
HasKeys column pairs texts = (bytes : List ℕ) → contains_text texts bytes ≡ is_key column pairs bytes

-- what is held of a list or a map: the keys of a map, the one that awaits its value among them, and the text from a key on that is to come
abbrev pub HoldsKeys : {A : Type 0} → (whole : List ℕ) → OpenLevel → (outer : List OpenLevel) → OpenKeys A → Type 0
HoldsKeys whole (items_open items) outer held = Unit {0}
HoldsKeys whole (pairs_open pairs) outer held = IsOpen whole (pairs_open pairs ∷ outer) held.start.now × HasKeys (column_in outer + 2) pairs held.texts
HoldsKeys whole (value_due pairs key) outer held = HasKeys (column_in outer + 2) (value_pairs_and pairs key null_value) held.texts

-- the same before the value or the key that it took last, or before it was opened
abbrev pub HeldKeys : {A : Type 0} → (whole : List ℕ) → OpenLevel → (outer : List OpenLevel) → OpenKeys A → Type 0
HeldKeys whole (items_open items) outer held = Unit {0}
HeldKeys whole (pairs_open pairs) outer held = HasKeys (column_in outer + 2) pairs held.texts
HeldKeys whole (value_due pairs key) outer held = HoldsKeys whole (pairs_open pairs) outer held

-- what is held of each list and map that is open, of the innermost last
abbrev pub HoldKeys : {A : Type 0} → (whole : List ℕ) → List OpenLevel → List (OpenKeys A) → Type 0
HoldKeys whole [] all = all ≡ []
HoldKeys {A} whole (level ∷ outer) all =
    (init : List (OpenKeys A)) × (last : OpenKeys A) × (all ≡ init ++ last ∷ []) × HoldsKeys whole level outer last × HoldKeys whole outer init

-- the same if keys must differ, else nothing
abbrev pub HoldBy : {A : Type 0} → Keys → (whole : List ℕ) → List OpenLevel → List (OpenKeys A) → Type 0
HoldBy keys.Unique whole levels all = HoldKeys whole levels all
HoldBy keys.MayRepeat whole levels all = Unit {0}

-- ---- the code's answers

-- a key was added to a set, or it is there already
abbrev pub KeyAdded : {A : Type 0} → (key : List ℕ) → OpenKeys A → Result (OpenKeys A) KeyStop → Type 0
KeyAdded key held (Ok more) =
    (contains_text held.texts key ≡ false)
    × ((bytes : List ℕ) → contains_text more.texts bytes ≡ (contains_text held.texts bytes || bytes_eq key bytes))
KeyAdded key held (Err (stop.Repeats left)) = (contains_text held.texts key ≡ true) × (left ≡ length held.start.now)
KeyAdded key held (Err (stop.Other reason)) = reason ≡ Memory

-- text begins with something that ends before a rest
abbrev pub EndsBefore : (text rest : List ℕ) → Type 0
EndsBefore text rest = (front : List ℕ) × (text ≡ front ++ rest)

-- a list or a map whose last key, if it awaits its value, ends before the rest
abbrev pub KeyEndsBefore : OpenLevel → (text rest : List ℕ) → Type 0
KeyEndsBefore (value_due pairs key) text rest = EndsBefore text rest
KeyEndsBefore _ text rest = Unit {0}

-- at the next node in a list or a map
abbrev pub HeldAtNode : {A : Type 0} → OpenLevel → OpenKeys A → (rest : List ℕ) → Result (OpenKeys A) KeyStop → Type 0
HeldAtNode (items_open items) held rest (Ok more) = Unit {0}
HeldAtNode (items_open items) held rest (Err reason) = ⊥
HeldAtNode (pairs_open pairs) held rest (Ok more) = (more.start.now ≡ rest) × (more.texts ≡ held.texts)
HeldAtNode (pairs_open pairs) held rest (Err reason) = ⊥
HeldAtNode (value_due pairs key) held rest result = (key : List ℕ) → held.start.now ≡ key ++ rest → KeyAdded key held result

-- what was held of so many was kept, and the last of it taken off; or if there is none, all was kept, and it begins at the rest
pub record TakenOff {A : Type 0} (depth : ℕ) (old new : List (OpenKeys A)) (rest : List ℕ) (held : OpenKeys A) : Type 0 where
  pub there : depth ≤ length old → 0 < depth → take depth old ≡ new ++ held ∷ []
  pub begun : length old < depth → (new ≡ old) × ((bytes : List ℕ) → contains_text held.texts bytes ≡ false)

-- this list or map is the innermost of those that are open in the code
pub record IsLastLevel {A : Type 0} (level : Level A) (levels : List (Level A)) : Type 0 where
  pub outer : List (Level A)
  pub is : levels ≡ outer ++ level ∷ []

-- what is held before a node is read, with what is open before and after it
pub record FollowsKeys {A : Type 0} (mode : Keys) (old : List (OpenKeys A)) (after : List OpenLevel) (rest : List ℕ) : Type 0 where
  pub whole : List ℕ
  pub before : List OpenLevel
  pub held : HoldBy mode whole before old
  pub moved : Moved before after
  pub opened : IsOpen whole after rest

-- the innermost map awaits the value of a key that it has already
pub record KeyRepeats (whole : List ℕ) (after : List OpenLevel) (left : ℕ) : Type 0 where
  pub pairs : TypedPairs
  pub key : TypedValue
  pub outer : List OpenLevel
  pub is : after ≡ value_due pairs key ∷ outer
  pub text : List ℕ
  pub rest : List ℕ
  pub opened : IsOpen whole (pairs_open pairs ∷ outer) text
  pub place : left ≡ length text
  pub begins : text ≡ key_bytes (column_in outer + 2) key ++ rest
  pub again : is_key (column_in outer + 2) pairs (key_bytes (column_in outer + 2) key) ≡ true

-- a key that awaits its value is none of the others
abbrev pub InnermostIsNew : List OpenLevel → Type 0
InnermostIsNew (value_due pairs key ∷ outer) = is_key (column_in outer + 2) pairs (key_bytes (column_in outer + 2) key) ≡ false
InnermostIsNew _ = Unit {0}

-- what is held at the next node
abbrev pub KeysFollowed : {A : Type 0} → (whole : List ℕ) → (after : List OpenLevel) → (new : List (OpenKeys A)) → Result (Unit {0}) KeyStop → Type 0
KeysFollowed whole after new (Ok _) = HoldKeys whole after new × InnermostIsNew after
KeysFollowed whole after new (Err (stop.Repeats left)) = KeyRepeats whole after left
KeysFollowed whole after new (Err (stop.Other reason)) = reason ≡ Memory

-- the same if keys must differ, else success
abbrev pub FollowedBy : {A : Type 0} → Keys → (whole : List ℕ) → (after : List OpenLevel) → (new : List (OpenKeys A)) → Result (Unit {0}) KeyStop → Type 0
FollowedBy keys.Unique whole after new result = KeysFollowed whole after new result
FollowedBy keys.MayRepeat whole after new (Ok _) = Unit {0}
FollowedBy keys.MayRepeat whole after new (Err reason) = ⊥

-- why reading stops; a key that repeats is one that can be read
abbrev pub KeyStopsAt : Keys → (bytes : List ℕ) → KeyStop → Type 0
KeyStopsAt mode bytes (stop.Other reason) = StopsAt mode bytes reason
KeyStopsAt mode bytes (stop.Repeats left) =
    (mode ≡ keys.Unique) × IsBehindMarker bytes (λ whole. (again : RepeatsKey whole left) × CanBeReadAt (suc (length again.outer)) again.key)

-- a document's text was read as a value with such keys
pub record TextRead {A : Type 0} (mode : Keys) (text : List ℕ) (result : Result (Value A) KeyStop) : Type 0 where
  pub sound : IfOk result (λ value. (text ≡ encode_utf8_all (document_text (seen_value value))) × CanBeReadAt 0 (seen_value value)
      × KeysAllow mode (seen_value value))
  pub stops : IfErr result (KeyStopsAt mode text)
