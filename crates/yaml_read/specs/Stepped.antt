-- The answers of the readers of a node and of the text after a node.
pub use Rattle.yaml_read.specs.Settled.{closed_value}
use Rattle.std.specs.Prelude.{ℕ, suc, ◌*◌, ◌<◌, ◌≤◌, ◌≡◌, None, Result, Ok, Err, IfErr, IfOk, List, [], ◌∷◌, ◌++◌, String, codes, length, true}
use Rattle.std.specs.Borrow.{Bor}
use Rattle.std.specs.Str.{all_scalars, encode_utf8_all}
use Rattle.yaml_base.specs.Characters.{Text}
use Rattle.yaml_base.specs.Seen.{seen_text}
use Rattle.yaml_base.specs.values.TypedValues.{TypedValue, most_nested, no_value_pairs, no_values}
use Rattle.yaml_base.specs.graphs.DumpedText.{in_quotes, line_at}
use Rattle.yaml_value.specs.OpenLevels.{OpenLevel, items_open, pairs_open, value_due}
use Rattle.yaml_value.specs.{SeenValues.seen_value, declared.value.Value.Value}
use Rattle.yaml_value.specs.declared.keys.Keys.{Keys}
use Rattle.yaml_read.specs.AllowedKeys.{KeysAllow, OpenKeysAllow}
use Rattle.yaml_read.specs.Awaits.{EntryStands}
use Rattle.yaml_read.specs.Grammar.{behind_in, behind_tag, entry_end, line_then, nothing, quoted_text, these_or_those, word_then}
use Rattle.yaml_read.specs.Heads.{tag_word}
use Rattle.yaml_read.specs.Opened.{EntryCut, HasRead, IsOpen, NextRead, TurnRead}
use Rattle.yaml_read.specs.Places.{BreaksAt, IsDeepHere, IsHere, LacksLine, StopsIn}
use Rattle.yaml_read.specs.Settled.{NextMoved, NextTook, TurnTook}
use Rattle.yaml_read.specs.Sound.{IsScalarValue}
use Rattle.yaml_read.specs.Words.{Cuts, OrMemory, past_word}
use Rattle.yaml_read.specs.declared.errors.Stop.{Stop}
use Rattle.yaml_read.specs.declared.errors.Stop.TheVariants as stop
use Rattle.yaml_read.specs.declared.heads.Kind.{Kind}
use Rattle.yaml_read.specs.declared.heads.Kind.TheVariants as kind
use Rattle.yaml_read.specs.declared.levels.Entry.{Entry}
use Rattle.yaml_read.specs.declared.levels.Entry.TheVariants.{Another, End}
use Rattle.yaml_read.specs.declared.levels.Next.{Next}
use Rattle.yaml_read.specs.declared.levels.Next.TheVariants.{Done, Node}
use Rattle.yaml_read.specs.declared.levels.Turn.{Turn}
use Rattle.yaml_read.specs.declared.levels.Turn.TheVariants.{Continues, Ends}

-- ---- less is left of the text

-- after an entry
abbrev pub EntryShorter : List ℕ → Entry → Type 0
EntryShorter text (Another rest) = length rest.now < length text
EntryShorter text (End rest) = length rest.now < length text

-- after a value in a list or a map
abbrev pub TurnShorter : {A : Type 0} → List ℕ → Turn A → Type 0
TurnShorter text (Continues level rest) = length rest.now < length text
TurnShorter text (Ends value rest) = length rest.now < length text

-- after a value, if another node follows
abbrev pub NextShorter : {A : Type 0} → List ℕ → Next A → Type 0
NextShorter text (Done value) = Unit {0}
NextShorter text (Node rest) = length rest.now < length text

-- ---- nodes, between the lists and maps that were open before and those that are open after

-- At a node: what is read has these bytes, and else they break off.
pub record NodeStepped {A : Type 0} (before after : List OpenLevel) (text : List ℕ) (result : Result (Next A) Stop) : Type 0 where
  pub read : (whole : List ℕ) → IsOpen whole before text → IfOk result (NextRead whole after)
  pub stops : (mode : Keys) (whole : List ℕ) → IsOpen whole before text → OpenKeysAllow mode before → IfErr result (StopsIn mode whole)
  pub shorter : IfOk result (NextShorter text)
  pub moved : IfOk result (NextMoved before after)

-- after a value, in the same way
pub record ValueSettled {A : Type 0} (before after : List OpenLevel) (value : TypedValue) (text : List ℕ) (result : Result (Next A) Stop) : Type 0 where
  pub read : (whole : List ℕ) → HasRead whole before value text → IfOk result (NextRead whole after)
  pub stops : (mode : Keys) (whole : List ℕ) → HasRead whole before value text → OpenKeysAllow mode before → KeysAllow mode value
      → IfErr result (StopsIn mode whole)
  pub shorter : IfOk result (NextShorter text)
  pub took : IfOk result (NextTook before value after)

-- ---- tags and scalars

-- the tag that the bytes begin with, or they begin with none
abbrev pub TagRead : List ℕ → Result (Kind × Bor (List ℕ)) Stop → Type 0
TagRead bytes (Ok found) = bytes ≡ tag_word found.0 ++ found.1.now
TagRead bytes (Err error) = ((kind : Kind) → past_word (tag_word kind) bytes ≡ None) × IsHere bytes error

-- a text between quotes
pub record QuotedRead {A : Type 0} (bytes : List ℕ) (result : Result (String A × Bor (List ℕ)) Stop) : Type 0 where
  pub reads : (value rest : Text) → all_scalars value ≡ true → bytes ≡ encode_utf8_all (in_quotes value ++ rest)
      → OrMemory (λ found. (seen_text found.0 ≡ value) × (found.1.now ≡ encode_utf8_all rest)) result
  pub sound : IfOk result (λ found. bytes ≡ encode_utf8_all (in_quotes (seen_text found.0)) ++ found.1.now)
  pub breaks : IfErr result (BreaksAt quoted_text bytes)
  pub shorter : IfOk result (λ found. length found.1.now < length bytes)

-- after a scalar's tag
pub record ScalarRead {A : Type 0} (kind : Kind) (bytes : List ℕ) (result : Result (Value A × Bor (List ℕ)) Stop) : Type 0 where
  pub sound : IfOk result (λ found. IsScalarValue (tag_word kind ++ bytes) (seen_value found.0) found.1.now)
  pub breaks : (depth : ℕ) → IfErr result (BreaksAt (behind_tag depth kind) bytes)
  pub shorter : IfOk result (λ found. length found.1.now < length bytes)

-- ---- brackets

-- no bracket follows a tag, or it lies within as many lists and maps as may be open
pub data BracketLacks (depth : ℕ) (bracket text behind : List ℕ) (error : Stop) : Type 0 where
  no_bracket : past_word bracket behind ≡ None → IsHere behind error → BracketLacks depth bracket text behind error
  no_room : (inside : List ℕ) → behind ≡ bracket ++ inside → most_nested ≤ depth → IsDeepHere text error → BracketLacks depth bracket text behind error

-- after an opening bracket a line of this depth is missing, or a lead in it; or memory gave out
pub data EntryLacks (depth : ℕ) (lead text : List ℕ) (error : Stop) : Type 0 where
  no_memory : error ≡ stop.Memory → EntryLacks depth lead text error
  no_line : past_word (line_at (depth * 2)) text ≡ None → LacksLine depth text error → EntryLacks depth lead text error
  no_lead : (line : List ℕ) → text ≡ line_at (depth * 2) ++ line → past_word lead line ≡ None → IsHere line error → EntryLacks depth lead text error

-- the text begins with a line of this depth with a lead in it, and this follows it; or one of them is missing
pub record LeadCut (depth : ℕ) (lead text : List ℕ) (result : Result (Bor (List ℕ)) Stop) : Type 0 where
  pub cut : Cuts (line_at (depth * 2) ++ lead) text result
  pub lacks : IfErr result (EntryLacks depth lead text)
  pub shorter : IfOk result (λ rest. length rest.now < length text)

-- a list or a map was opened, up to its first node
abbrev pub Entered : {A : Type 0} → OpenLevel → (lead : List ℕ) → (before after : List OpenLevel) → (text : List ℕ) → Result (Next A) Stop → Type 0
Entered level lead before after text (Ok (Done value)) = ⊥
Entered level lead before after text (Ok (Node rest)) =
    (after ≡ level ∷ before) × (text ≡ line_at (suc (length before) * 2) ++ (lead ++ rest.now))
Entered level lead before after text (Err error) = EntryLacks (suc (length before)) lead text error

-- a list or a map without a node in it, by its kind: its brackets, and what leads to its first node
pub data IsEmptyLevel : OpenLevel → Kind → (bracket end lead : List ℕ) → Type 0 where
  empty_list_level : IsEmptyLevel (items_open no_values) kind.List (codes "[") (codes "]") []
  empty_map_level : IsEmptyLevel (pairs_open no_value_pairs) kind.Map (codes "{") (codes "}") (codes "? ")

-- ---- entries

-- a lead or an end in a line of this depth
pub record LineEntryRead (depth : ℕ) (lead end text : List ℕ) (result : Result Entry Stop) : Type 0 where
  pub stands : EntryStands (line_at (depth * 2) ++ lead) (line_at (depth * 2) ++ end) text result
  pub breaks : IfErr result (BreaksAt (line_then depth (these_or_those (word_then lead nothing) (word_then end nothing))) text)
  pub shorter : IfOk result (EntryShorter text)

-- The text after an entry of a list or a map that lies so deep.
pub record EntryRead (depth : ℕ) (lead end text : List ℕ) (result : Result Entry Stop) : Type 0 where
  pub cut : IfOk result (EntryCut depth lead end text)
  pub breaks : IfErr result (BreaksAt (entry_end depth lead end) text)
  pub shorter : IfOk result (EntryShorter text)

-- after a value in a list or a map that lies so deep
pub record ValueTaken {A : Type 0} (depth : ℕ) (level : OpenLevel) (value : TypedValue) (text : List ℕ) (result : Result (Turn A) Stop) : Type 0 where
  pub read : (whole : List ℕ) (levels : List OpenLevel) → depth ≡ length levels → HasRead whole (level ∷ levels) value text
      → IfOk result (TurnRead whole levels)
  pub breaks : IfErr result (BreaksAt (behind_in depth level) text)
  pub shorter : IfOk result (TurnShorter text)
  pub took : IfOk result (TurnTook level value)

-- after the value that such a list or a map took last: another node in it, or its end; a value follows a key
abbrev pub BehindRead : (depth : ℕ) → OpenLevel → (text : List ℕ) → Result Entry Stop → Type 0
BehindRead depth (items_open items) text result = EntryRead depth (codes "  ") (codes "]") text result
BehindRead depth (pairs_open pairs) text result = EntryRead depth (codes "  ? ") (codes "}") text result
BehindRead depth (value_due pairs key) text (Ok (Another rest)) = LeadCut depth (codes "  : ") text (Ok rest)
BehindRead depth (value_due pairs key) text (Ok (End rest)) = ⊥
BehindRead depth (value_due pairs key) text (Err error) = LeadCut depth (codes "  : ") text (Err error)
