-- The walk over the tokens of a value: the arrays and objects that are open after some of them, and the events that were given until there.
use Rattle.std.specs.Prelude.{◌≡◌, ◌≢◌, ◌⊎◌, ℕ, ◌-◌, ◌<◌, ◌≤◌, Bool, true, false, not, Option, Some, option_and_then, List, [], ◌∷◌, ◌++◌, length}
use Rattle.json.specs.Token.{Token}
use Rattle.json.specs.Json.{Json, skip_value}
use Rattle.json.specs.Reads.{skip_items, skip_members}
use Rattle.json.specs.Lex.{tokens}
use Rattle.json.specs.Tree.{json_tokens}
use Rattle.yaml_base.specs.declared.errors.yaml_error_t.{yaml_error_t}
use Rattle.yaml_base.specs.declared.errors.yaml_error_t.TheVariants.{Memory}
use Rattle.yaml_writer.specs.Writing.{WriterState}
use Rattle.yaml_base.specs.declared.kinds.CollectionKind.{CollectionKind}
use Rattle.yaml_base.specs.declared.kinds.CollectionKind.TheVariants.{Mapping, Sequence}
use Rattle.yaml_json.specs.Begins.{BeginsAllowed, BeginsSome, BeginsWithinDepth}
use Rattle.yaml_writer.specs.Failing.{FailedHaving}
use Rattle.yaml_writer.specs.WasGiven.{GaveEvents, levels_after}
use Rattle.yaml_json.specs.Refused.{TokensBreakAt, NamesTwiceAt, OpensTooDeepAt, is_marked}
use Rattle.yaml_json.specs.HeldNames.{HaveNames, HoldsNames}
use Rattle.yaml_json.specs.Names.{NamesOnce, all_names_after, outer_names}
use Rattle.yaml_json.specs.declared.names.Names.{Names}
use Rattle.yaml_json.specs.TokenEvents.{tokens_events}
use Rattle.yaml_json.specs.declared.error.JsonError.{JsonError}
use Rattle.yaml_json.specs.declared.error.JsonError.TheVariants as errors
use Rattle.yaml_json.specs.declared.values.Spot.{Spot}
use Rattle.yaml_json.specs.declared.values.Spot.TheVariants.{At, PastString, PastValue}
use Rattle.yaml_json.specs.declared.values.Stop.{Stop}
use Rattle.yaml_json.specs.declared.values.Stop.TheVariants as stops

-- ---- the grammar

-- The tokens after a collection, of the tokens after some of its items or members; its values nest at most `depth` deep.
abbrev pub skip_rest : CollectionKind → ℕ → List Token → Option (List Token)
skip_rest Sequence depth ahead = skip_items depth ahead
skip_rest Mapping depth ahead = skip_members depth ahead

-- The tokens after each of these collections is closed, the outermost first, of the tokens that the innermost has ahead.
abbrev pub unwind : ℕ → List CollectionKind → Option (List Token) → Option (List Token)
unwind depth [] found = found
unwind depth (kind ∷ inner) found = option_and_then (skip_rest kind (depth - 1)) (unwind (depth - 1) inner found)

-- After these tokens of a value these collections are open: whatever follows, the value ends when all are closed.
abbrev pub LeavesOpenAt : ℕ → List Token → List CollectionKind → Type 0
LeavesOpenAt depth taken levels = (length levels ≤ depth) × ((more : List Token) → skip_value depth (taken ++ more) ≡ unwind depth levels (Some more))

-- after these tokens of a value these collections are open, however much deeper values may nest
abbrev pub LeavesOpen : ℕ → List Token → List CollectionKind → Type 0
LeavesOpen depth taken levels = (deep : ℕ) → depth ≤ deep → LeavesOpenAt deep taken levels

-- the token is a whole value
abbrev pub IsScalar : Token → Type 0
IsScalar (Token.string text) = Unit {0}
IsScalar (Token.number text) = Unit {0}
IsScalar (Token.boolean flag) = Unit {0}
IsScalar Token.null = Unit {0}
IsScalar _ = ⊥

-- the token that opens a collection, and the one that closes it
abbrev pub opener : CollectionKind → Token
opener Sequence = Token.begin_array
opener Mapping = Token.begin_object

abbrev pub closer : CollectionKind → Token
closer Sequence = Token.end_array
closer Mapping = Token.end_object

abbrev is_sequence : CollectionKind → Bool
is_sequence Sequence = true
is_sequence Mapping = false

-- the token closes a collection of this kind
abbrev pub closes : Token → CollectionKind → Bool
closes Token.end_object kind = not (is_sequence kind)
closes Token.end_array kind = is_sequence kind
closes _ kind = false

-- the token opens a collection
abbrev pub IsOpener : Token → Type 0
IsOpener token = (kind : CollectionKind) × (token ≡ opener kind)

-- the token begins no value
abbrev pub BeginsNone : Token → Type 0
BeginsNone token = (IsScalar token → ⊥) × (IsOpener token → ⊥)

-- a value begins with the token: a scalar, or a collection that isn't too deep; these are open then
abbrev pub BeginsValueBy : ℕ → List CollectionKind → Token → List CollectionKind → Type 0
BeginsValueBy depth levels token now =
    (IsScalar token × (now ≡ levels))
    ⊎ ((kind : CollectionKind) × (token ≡ opener kind) × (length levels < depth) × (now ≡ levels ++ kind ∷ []))

-- ---- the writer

-- the events of these tokens were given, and these collections are open within those that were
pub record GaveTokens (in_flow : Bool) (was : WriterState) (taken : List Token) (levels : List CollectionKind) (now : WriterState) : Type 0 where
  pub gave : GaveEvents was (tokens_events was.canonical in_flow taken) now
  pub opened : levels_after (tokens_events was.canonical in_flow taken) was.levels ≡ was.levels ++ levels

-- After the tokens that were given before, the events of these tokens were given.
abbrev pub GivesTaken : (in_flow : Bool) → List CollectionKind → WriterState → List Token → List CollectionKind → WriterState → Type 0
GivesTaken in_flow levels before taken opened after =
    (was : WriterState) (so : List Token) → GaveTokens in_flow was so levels before → GaveTokens in_flow was (so ++ taken) opened after

-- An allocation failed, and nothing changed; or the events of these tokens were given after those before, and the writer failed with this
-- error.
abbrev pub FailsGiving : (in_flow : Bool) → List CollectionKind → WriterState → List Token → yaml_error_t → WriterState → Type 0
FailsGiving in_flow levels before taken error after =
    ((error ≡ Memory) × (after ≡ before))
    ⊎ ((was : WriterState) (so : List Token) → GaveTokens in_flow was so levels before
    → FailedHaving was (tokens_events was.canonical in_flow (so ++ taken)) error after)

-- ---- the names

-- If names are kept, none comes twice among these tokens, and those of the arrays and objects that are open are kept.
abbrev pub KeepsNames : {A : Type 0} → List Token → Names A → Type 0
KeepsNames so held = held.are_kept ≡ true → NamesOnce [] so × HaveNames held.few.items held.levels.items (all_names_after [] so)

-- as many levels have names as are open
abbrev pub FitsNames : {A : Type 0} → (unique : Bool) → List CollectionKind → Names A → Type 0
FitsNames unique levels held = (held.are_kept ≡ unique) × (held.are_kept ≡ true → length held.levels.items ≡ length levels)

-- If they were kept before these tokens, they are kept after them.
abbrev pub KeepsNamesAfter : {A : Type 0} → Names A → List Token → Names A → Type 0
KeepsNamesAfter held taken later = (so : List Token) → KeepsNames so held → KeepsNames (so ++ taken) later

-- names are kept after some of the tokens that were ahead
pub record KeepsTo {A : Type 0} (held : Names A) (ahead after : List Token) (later : Names A) : Type 0 where
  pub taken : List Token
  pub parts : ahead ≡ taken ++ after
  pub keeps : KeepsNamesAfter held taken later

-- the names of the innermost are dropped
abbrev pub LeavesNames : {A : Type 0} → Names A → Names A → Type 0
LeavesNames held later =
    (later.are_kept ≡ held.are_kept) × ((names : List (List (List ℕ))) → HoldsNames names held → HoldsNames (outer_names names) later)
    × (held.are_kept ≡ true → length later.levels.items ≡ length held.levels.items - 1)

-- If names must be unique, none comes twice among the tokens that were taken.
abbrev pub HasUniqueNames : (unique : Bool) → (before after : List Token) → Type 0
HasUniqueNames unique before after = unique ≡ true → (taken : List Token) × (taken ++ after ≡ before) × NamesOnce [] taken

-- ---- one token

-- the token was given, with which a value begins
pub record BeganValue (depth : ℕ) (in_flow : Bool) (token : Token) (levels : List CollectionKind) (before : WriterState) (opened : List CollectionKind)
    (after : WriterState) : Type 0 where
  pub begins : BeginsValueBy depth levels token opened
  pub gives : GivesTaken in_flow levels before (token ∷ []) opened after

-- the writer failed at the token, with which a value begins
pub record BeginFailed (depth : ℕ) (in_flow : Bool) (token : Token) (levels : List CollectionKind) (before : WriterState) (error : yaml_error_t)
    (after : WriterState) : Type 0 where
  pub opened : List CollectionKind
  pub begins : BeginsValueBy depth levels token opened
  pub fails : FailsGiving in_flow levels before (token ∷ []) error after

-- The place at which the text breaks off, if no value begins with a token: after the string of a name, or at the token.
abbrev pub spot_of : Token → Spot
spot_of (Token.key text) = PastString
spot_of _ = At

-- no value begins with the token, or it opens one too many
abbrev pub RefusesToken : (depth : ℕ) → List CollectionKind → Token → Stop → Type 0
RefusesToken depth levels token (stops.NotJson spot) = BeginsNone token × (spot ≡ spot_of token)
RefusesToken depth levels token stops.TooDeep = IsOpener token × (length levels ≡ depth)
RefusesToken depth levels token stops.NameAgain = ⊥
RefusesToken depth levels token (stops.Failed error) = Unit {0}

-- no token is left, or an allocation failed
abbrev pub ReadsNone : List Token → Stop → Type 0
ReadsNone ahead (stops.NotJson spot) = (ahead ≡ []) × (spot ≡ At)
ReadsNone ahead stops.TooDeep = ⊥
ReadsNone ahead stops.NameAgain = ⊥
ReadsNone ahead (stops.Failed error) = error ≡ Memory

-- ---- the first token of a value

-- the first of these tokens was given, with which a value begins
pub record BeganFirstValue (depth : ℕ) (in_flow : Bool) (ahead : List Token) (levels : List CollectionKind) (before : WriterState) (after : List Token)
    (opened : List CollectionKind) (now : WriterState) : Type 0 where
  pub token : Token
  pub first : ahead ≡ token ∷ after
  pub began : BeganValue depth in_flow token levels before opened now

-- the writer failed at the first of these tokens, with which a value begins
pub record FailedAtToken (depth : ℕ) (in_flow : Bool) (ahead : List Token) (levels : List CollectionKind) (before : WriterState) (error : yaml_error_t)
    (now : WriterState) : Type 0 where
  pub token : Token
  pub after : List Token
  pub first : ahead ≡ token ∷ after
  pub failed : BeginFailed depth in_flow token levels before error now

-- an allocation failed, and nothing changed; or that
abbrev pub FirstFailed : (depth : ℕ) → (in_flow : Bool) → List Token → List CollectionKind → WriterState → yaml_error_t → WriterState → Type 0
FirstFailed depth in_flow ahead levels before error now =
    ((error ≡ Memory) × (now ≡ before)) ⊎ FailedAtToken depth in_flow ahead levels before error now

-- the text ends too early, or the writer failed
abbrev pub EndsEarly : Stop → Type 0
EndsEarly (stops.NotJson spot) = spot ≡ At
EndsEarly stops.TooDeep = ⊥
EndsEarly stops.NameAgain = ⊥
EndsEarly (stops.Failed error) = Unit {0}

-- no token is left, or the first is refused
abbrev pub RefusesFirst : (depth : ℕ) → List CollectionKind → List Token → Stop → Type 0
RefusesFirst depth levels [] stop = EndsEarly stop
RefusesFirst depth levels (token ∷ after) stop = RefusesToken depth levels token stop

-- ---- one turn

-- this collection is the innermost
pub record IsInnermost (kind : CollectionKind) (levels : List CollectionKind) : Type 0 where
  pub outer : List CollectionKind
  pub is : levels ≡ outer ++ kind ∷ []

-- The first tokens were given; these collections were open in the walk, and those are now.
pub record WalkedOn (depth : ℕ) (in_flow : Bool) (ahead : List Token) (levels : List CollectionKind) (before : WriterState) (after : List Token)
    (opened : List CollectionKind) (now : WriterState) : Type 0 where
  pub taken : List Token
  pub parts : ahead ≡ taken ++ after
  pub shorter : length after < length ahead
  pub gives : GivesTaken in_flow levels before taken opened now
  pub moves : (so : List Token) → LeavesOpen depth so levels → LeavesOpen depth (so ++ taken) opened

-- In a walk with these collections open, the events of the first tokens were given, with which a value begins; then an allocation failed,
-- or the emitter.
pub record StepFailed (depth : ℕ) (in_flow : Bool) (ahead : List Token) (levels : List CollectionKind) (before : WriterState) (error : yaml_error_t)
    (now : WriterState) : Type 0 where
  pub taken : List Token
  pub left : List Token
  pub parts : taken ++ left ≡ ahead
  pub fails :
      (was : WriterState) (so : List Token) → GaveTokens in_flow was so levels before
      → FailedHaving was (tokens_events was.canonical in_flow (so ++ taken)) error now
  pub begins : (so : List Token) → LeavesOpen depth so levels → BeginsWithinDepth depth (so ++ taken)

-- why the text stops the writing after these tokens, with those ahead
abbrev pub WhyStopped : (depth : ℕ) → (unique : Bool) → (taken left : List Token) → Stop → Type 0
WhyStopped depth unique taken left (stops.NotJson spot) = TokensBreakAt depth unique taken left
WhyStopped depth unique taken left stops.TooDeep = OpensTooDeepAt depth unique taken left
WhyStopped depth unique taken left stops.NameAgain = NamesTwiceAt depth unique taken left
WhyStopped depth unique taken left (stops.Failed error) = Unit {0}

-- ---- at which lexeme

-- a value begins with the token, or it is a name
abbrev pub IsBeginner : Token → Type 0
IsBeginner Token.end_object = ⊥
IsBeginner Token.end_array = ⊥
IsBeginner Token.bad = ⊥
IsBeginner _ = Unit {0}

-- an allowed value goes on with a value or a name more, so also after a comma
pub record GoesOn (depth : ℕ) (unique : Bool) (taken : List Token) : Type 0 where
  pub token : Token
  pub is_beginner : IsBeginner token
  pub begins : BeginsAllowed depth unique (taken ++ token ∷ [])

-- the next token, if any, is of its first lexeme, and not of the one after a string, too
abbrev pub NoStringNext : List Token → Type 0
NoStringNext (Token.key text ∷ after) = ⊥
NoStringNext (Token.string text ∷ after) = ⊥
NoStringNext _ = Unit {0}

-- The next token is a name, and its string is possible there; or it is a string, and is possible as a name.
abbrev pub CouldStandOther : (taken left : List Token) → Type 0
CouldStandOther taken left =
    (text : List ℕ) × ((after : List Token)
    × (((left ≡ Token.key text ∷ after) × BeginsSome (taken ++ Token.string text ∷ []))
    ⊎ ((left ≡ Token.string text ∷ after) × BeginsSome (taken ++ Token.key text ∷ []))))

-- the tokens are those of a whole value
abbrev pub IsWholeValue : List Token → Type 0
IsWholeValue taken = (json : Json) × (json_tokens json ≡ taken)

abbrev pub IsSpot : (depth : ℕ) → (unique : Bool) → Spot → (taken left : List Token) → Type 0
IsSpot depth unique At taken left = GoesOn depth unique taken × NoStringNext left
IsSpot depth unique PastString taken left = CouldStandOther taken left
IsSpot depth unique PastValue taken left = IsWholeValue taken × (left ≢ [])

-- The next token is no name whose string is possible there.
abbrev pub NoStringStands : (taken left : List Token) → Type 0
NoStringStands taken left = (text : List ℕ) (after : List Token) → left ≡ Token.key text ∷ after → BeginsSome (taken ++ Token.string text ∷ []) → ⊥

-- The place at which the text stops the writing after these tokens, with those ahead.
abbrev pub WhereStopped : (depth : ℕ) → (unique : Bool) → (taken left : List Token) → Stop → Type 0
WhereStopped depth unique taken left (stops.NotJson spot) = IsSpot depth unique spot taken left
WhereStopped depth unique taken left stops.TooDeep = GoesOn depth unique taken × NoStringNext left
WhereStopped depth unique taken left stops.NameAgain = GoesOn depth unique taken × NoStringStands taken left
WhereStopped depth unique taken left (stops.Failed error) = Unit {0}

-- These tokens were left when the last was read: those ahead, and before them, if a value is whole, its last.
abbrev pub WereLeft : Stop → (taken left before : List Token) → Type 0
WereLeft (stops.NotJson PastValue) taken left before =
    (front : List Token) × ((last : Token) × ((taken ≡ front ++ last ∷ []) × (before ≡ last ∷ left)))
WereLeft _ taken left before = before ≡ left

-- the value isn't whole yet
abbrev pub StopsInside : Stop → Type 0
StopsInside (stops.NotJson PastValue) = ⊥
StopsInside _ = Unit {0}

-- In a walk with these collections open and these names taken, the events of the first of the tokens ahead were given, and then the text
-- stops it, with these left.
pub record Refuses {A : Type 0} (depth : ℕ) (unique in_flow : Bool) (levels : List CollectionKind) (held : Names A) (ahead left : List Token)
    (before : WriterState) (stop : Stop) (now : WriterState) : Type 0 where
  pub taken : List Token
  pub parts : taken ++ left ≡ ahead
  pub inside : StopsInside stop
  pub gave :
      (was : WriterState) (so : List Token) → GaveTokens in_flow was so levels before
      → GaveEvents was (tokens_events was.canonical in_flow (so ++ taken)) now
  pub why : (so : List Token) → LeavesOpen depth so levels → KeepsNames so held → WhyStopped depth unique (so ++ taken) left stop
  pub place : (so : List Token) → LeavesOpen depth so levels → KeepsNames so held → WhereStopped depth unique (so ++ taken) left stop

-- The text stops the writing after the first of these tokens, whose events were given; these were left when the last was read. If there
-- is no first, nothing changed.
pub record TextStopsWriting (depth : ℕ) (unique in_flow : Bool) (all before : List Token) (was : WriterState) (stop : Stop) (now : WriterState)
    : Type 0 where
  pub taken : List Token
  pub left : List Token
  pub parts : taken ++ left ≡ all
  pub why : WhyStopped depth unique taken left stop
  pub place : WhereStopped depth unique taken left stop
  pub were : WereLeft stop taken left before
  pub gave : GaveEvents was (tokens_events was.canonical in_flow taken) now
  pub unchanged : taken ≡ [] → now ≡ was

-- so of the tokens of a text
abbrev pub StopsText : (depth : ℕ) → (unique in_flow : Bool) → (text : List ℕ) → WriterState → Stop → WriterState → Type 0
StopsText depth unique in_flow text was stop now = (before : List Token) × TextStopsWriting depth unique in_flow (tokens text) before was stop now

-- ---- the whole walk

-- The state of the walk.
pub record WalkProgress (depth : ℕ) (in_flow : Bool) (start : List Token) (was : WriterState) (ahead : List Token) (levels : List CollectionKind)
    (now : WriterState) : Type 0 where
  pub taken : List Token
  pub parts : taken ++ ahead ≡ start
  pub stood : GaveTokens in_flow was taken levels now
  pub stands : LeavesOpen depth taken levels

-- ---- the error that is returned to a caller

-- The error has the same meaning for the text as the stop.
abbrev pub MatchesStop : (text : List ℕ) → Stop → JsonError → Type 0
MatchesStop text (stops.NotJson spot) (errors.NotJson position says) = is_marked text ≡ false
MatchesStop text (stops.NotJson spot) (errors.Marked position) = is_marked text ≡ true
MatchesStop text stops.TooDeep (errors.TooDeep position) = Unit {0}
MatchesStop text stops.NameAgain (errors.DuplicateName position) = Unit {0}
MatchesStop text (stops.Failed error) (errors.Emitter returned) = Unit {0}
MatchesStop _ _ _ = ⊥
