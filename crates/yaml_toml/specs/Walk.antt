-- The events that a writer is given of a document, and the rest of it.
use Rattle.std.specs.Prelude.{◌≡◌, ℕ, ℤ, ◌<◌, ◌+◌, ◌^◌, Bool, Option, None, Some, Result, Ok, Err, List, [], ◌∷◌, ◌++◌, map, length, ◌≤◌, OnOk}
use Rattle.std.specs.Int.Signed.{mag}
use Rattle.toml_ordered.specs.Data.{TomlNode, integer, decimal, array, table, tables, Items, no_items, item, TomlNodes, no_nodes, node, items_view}
use Rattle.toml_ordered.specs.Keys.{live_view}
use Rattle.toml_parser.specs.Numbers.{word_value}
use Rattle.toml_parser.specs.declared.scalar.Scalar.{Scalar}
use Rattle.toml_ordered.specs.Grammar.{ordered_document, scalar_node}
use Rattle.toml_ordered.specs.declared.tree.Node.{Node as CodeNode}
use Rattle.toml_ordered.specs.declared.tree.Origin.TheVariants.{Header}
use Rattle.yaml_base.specs.Event.{Event, Scalar as Content, scalar, sequence_end, mapping_start, mapping_end}
use Rattle.yaml_base.specs.declared.errors.yaml_error_t.{yaml_error_t}
use Rattle.yaml_base.specs.declared.errors.yaml_error_t.TheVariants.{Memory}
use Rattle.yaml_base.specs.declared.kinds.CollectionKind.{CollectionKind}
use Rattle.yaml_base.specs.declared.kinds.CollectionKind.TheVariants.{Mapping, Sequence}
use Rattle.yaml_base.specs.Prefix.{IsPrefix}
use Rattle.yaml_writer.specs.Answering.{Answers, IsAnswerBy, KeptBy}
use Rattle.yaml_writer.specs.Failing.{HasErrorSaid}
use Rattle.yaml_writer.specs.WasGiven.{GaveEvents, IsBare, WasGiven, WroteEvent}
use Rattle.yaml_writer.specs.Contents.{collection_in}
use Rattle.yaml_writer.specs.NumberParts.{IsNumber, number_in}
use Rattle.yaml_writer.specs.Writing.{WriterState}
use Rattle.yaml_toml.specs.Events.{toml_events, toml_items_events, keys_events, json_word}
use Rattle.yaml_toml.specs.OpenCounts.{OpensAtMost}
use Rattle.yaml_toml.specs.declared.walk.Rest.{Rest}
use Rattle.yaml_toml.specs.declared.walk.Rest.TheVariants as rest
use Rattle.yaml_toml.specs.declared.walk.Stop.{Stop}
use Rattle.yaml_toml.specs.declared.walk.Stop.TheVariants as stop
use Rattle.yaml_toml.specs.declared.error.TomlError.{TomlError}
use Rattle.toml_ordered.specs.declared.fault.Fault.{Fault}
use Rattle.toml_ordered.specs.declared.fault.Fault.TheVariants as fault
use Rattle.yaml_toml.specs.declared.error.TomlError.TheVariants as errors

-- the characters of a decimal are a number of JSON
abbrev pub IsJsonWord : List ℕ → Type 0
IsJsonWord word = IsNumber (json_word word) (number_in (json_word word))

-- few enough digits for std's definition of decimals, which an integer of 64 bits has
abbrev pub FewDigits : ℤ → Type 0
FewDigits z = mag z + 1 < 10 ^ 64

-- each decimal in a value is a number, and each integer has few digits
abbrev mutual
  pub HasNumbers : TomlNode → Type 0
  HasNumbers (integer z) = FewDigits z
  HasNumbers (decimal word) = IsJsonWord word
  HasNumbers (array items) = ItemsHaveNumbers items
  HasNumbers (table origin keys) = KeysHaveNumbers keys
  HasNumbers (tables done last) = ItemsHaveNumbers done × KeysHaveNumbers last
  HasNumbers _ = Unit {0}

  pub ItemsHaveNumbers : Items → Type 0
  ItemsHaveNumbers no_items = Unit {0}
  ItemsHaveNumbers (item x items) = HasNumbers x × ItemsHaveNumbers items

  pub KeysHaveNumbers : TomlNodes → Type 0
  KeysHaveNumbers no_nodes = Unit {0}
  KeysHaveNumbers (node key x keys) = HasNumbers x × KeysHaveNumbers keys

-- Each decimal that TOML reads from a word is a number of JSON.
abbrev pub ScalarsHaveNumbers : Type 0
ScalarsHaveNumbers = (word : List ℕ) (s : Scalar) → word_value word ≡ Some s → HasNumbers (scalar_node word s)

-- ---- the rest of a collection that was begun

abbrev pub rest_kind : Rest → CollectionKind
rest_kind (rest.Items items) = Sequence
rest_kind (rest.Tables done last) = Sequence
rest_kind (rest.Members keys) = Mapping

abbrev pub items_left : (canonical in_flow : Bool) → List CodeNode → List Event
items_left canonical in_flow items = toml_items_events canonical in_flow (items_view items) ++ sequence_end ∷ []

abbrev pub keys_left : (canonical in_flow : Bool) → TomlNodes → List Event
keys_left canonical in_flow keys = keys_events canonical in_flow keys ++ mapping_end ∷ []

abbrev pub rest_events : (canonical in_flow : Bool) → Rest → List Event
rest_events canonical in_flow (rest.Items items) = items_left canonical in_flow items.now
rest_events canonical in_flow (rest.Tables done last) =
    toml_items_events canonical in_flow (items_view done.now)
    ++ mapping_start (collection_in in_flow) ∷ (keys_events canonical in_flow (live_view last) ++ mapping_end ∷ sequence_end ∷ [])
rest_events canonical in_flow (rest.Members keys) = keys_left canonical in_flow (live_view keys)

abbrev pub RestHasNumbers : Rest → Type 0
RestHasNumbers (rest.Items items) = ItemsHaveNumbers (items_view items.now)
RestHasNumbers (rest.Tables done last) = ItemsHaveNumbers (items_view done.now) × KeysHaveNumbers (live_view last)
RestHasNumbers (rest.Members keys) = KeysHaveNumbers (live_view keys)

-- of all that are open, the innermost last
abbrev pub kinds_of : List Rest → List CollectionKind
kinds_of opened = map rest_kind opened

abbrev pub pending : (canonical in_flow : Bool) → List Rest → List Event
pending canonical in_flow [] = []
pending canonical in_flow (outer ∷ inner) = pending canonical in_flow inner ++ rest_events canonical in_flow outer

abbrev pub PendingHaveNumbers : List Rest → Type 0
PendingHaveNumbers [] = Unit {0}
PendingHaveNumbers (outer ∷ inner) = RestHasNumbers outer × PendingHaveNumbers inner

-- ---- the size of the rests, which each step lessens

abbrev mutual
  pub node_size : TomlNode → ℕ
  node_size (array items) = 2 + items_size items
  node_size (table origin keys) = 2 + keys_size keys
  node_size (tables done last) = 5 + (items_size done + keys_size last)
  node_size x = 1

  pub items_size : Items → ℕ
  items_size no_items = 0
  items_size (item x items) = node_size x + items_size items

  pub keys_size : TomlNodes → ℕ
  keys_size no_nodes = 0
  keys_size (node key x keys) = node_size x + keys_size keys

abbrev pub rest_size : Rest → ℕ
rest_size (rest.Items items) = 1 + items_size (items_view items.now)
rest_size (rest.Tables done last) = 4 + (items_size (items_view done.now) + keys_size (live_view last))
rest_size (rest.Members keys) = 1 + keys_size (live_view keys)

abbrev pub pending_size : List Rest → ℕ
pending_size [] = 0
pending_size (outer ∷ inner) = rest_size outer + pending_size inner

-- the innermost collection that is open is of this kind, within those of these kinds
abbrev pub HasInnermost : WriterState → List CollectionKind → CollectionKind → Type 0
HasInnermost writer kinds kind = (outer : List CollectionKind) × (writer.levels ≡ outer ++ (kinds ++ kind ∷ []))

-- ---- the events that were given

-- these events were given, and these collections are open in place of those, within others
abbrev pub Moved : WriterState → List Event → (before after : List CollectionKind) → WriterState → Type 0
Moved was events before after now = (outer : List CollectionKind) → was.levels ≡ outer ++ before → GaveEvents was events now × (now.levels ≡ outer ++ after)

-- Some of the due events were given, and the others are pending; if all pending decimals are numbers, all due ones are; less than this is
-- left; no more collections than the most are open meanwhile.
pub record GaveSome (most : ℕ) (in_flow : Bool) (was : WriterState) (due : List Event) (before : List CollectionKind) (numbers : Type 0) (size : ℕ)
    (now : WriterState)
    (opened : List Rest) : Type 0 where
  pub given : List Event
  pub moved : Moved was given before (kinds_of opened) now
  pub parts : given ++ pending was.canonical in_flow opened ≡ due
  pub numbers_in : PendingHaveNumbers opened → numbers
  pub less : pending_size opened < size
  pub few : length before ≤ most → OpensAtMost most (length before) given (length (kinds_of opened))

-- the first of the events that were due were given, and no more
pub record StepsStop (most : ℕ) (was : WriterState) (due : List Event) (before : List CollectionKind) (now : WriterState) : Type 0 where
  pub given : List Event
  pub begins : IsPrefix given due
  pub gave : IsBare was → GaveEvents was given now
  pub few : length before ≤ most → (behind : ℕ) × OpensAtMost most (length before) given behind

-- ---- the results of calls

-- the event of a scalar was given, or there was an error
pub record GivesScalar (was : WriterState) (content : Content) (result : Result (Unit {0}) yaml_error_t) (now : WriterState) : Type 0 where
  pub written : OnOk result (WroteEvent was (scalar content) now)
  pub kept : Answers was (scalar content) result now

abbrev pub stop_error : Stop → Option yaml_error_t
stop_error stop.TooDeep = None
stop_error (stop.Failed error) = Some error

-- an allocation of the call's own failed
abbrev pub IsOwnMemory : Stop → Type 0
IsOwnMemory stopped = stopped ≡ stop.Failed Memory

-- the writer's answer
abbrev pub IsStopOf : Result (Unit {0}) yaml_error_t → Result (Unit {0}) Stop → Type 0
IsStopOf = IsAnswerBy (λ (error : yaml_error_t). stop.Failed error)

-- The emitter has no error after a success, and after an error the one that is returned, if any; its text and its output only grow.
abbrev pub KeptAfterStop : WriterState → Result (Unit {0}) Stop → WriterState → Type 0
KeptAfterStop = KeptBy stop_error

abbrev pub toml_writers_error : TomlError → Option yaml_error_t
toml_writers_error (errors.Emitter error) = Some error
toml_writers_error _ = None

-- the emitter has no error after a success, and after an error the one that is returned, if any
abbrev pub IsSoundAfterToml : WriterState → Result (Unit {0}) TomlError → WriterState → Type 0
IsSoundAfterToml was (Ok done) now = now.emitter.error ≡ None
IsSoundAfterToml was (Err error) now = HasErrorSaid was (toml_writers_error error) now

-- ---- documents

-- the text is a document of TOML; its events were given
pub record WroteToml (in_flow : Bool) (text : List ℕ) (was now : WriterState) : Type 0 where
  pub root : TomlNodes
  pub read : ordered_document text ≡ Some root
  pub numbers : KeysHaveNumbers root
  pub wrote : WasGiven was (toml_events was.canonical in_flow (table Header root)) now

-- an error that says that the text is no document of TOML
abbrev pub DeniesToml : TomlError → Type 0
DeniesToml (errors.NotToml position why) = Unit {0}
DeniesToml (errors.TooDeepToRead position) = Unit {0}
DeniesToml (errors.DefinedAgain key name first position) = Unit {0}
DeniesToml _ = ⊥

-- the writer's error that a fault is
abbrev pub fault_error : Fault → Option yaml_error_t
fault_error fault.Memory = Some Memory
fault_error _ = None
