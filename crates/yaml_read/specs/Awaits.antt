-- The collections that are open while the events of a document are read.
use Rattle.std.specs.Prelude.{ℕ, ◌≡◌, Bool, true, false, Option, None, Some, Result, Ok, Err, List, [], ◌∷◌, ◌++◌}
use Rattle.yaml_base.specs.Event.{Event, sequence_end, mapping_end}
use Rattle.yaml_read.specs.EventTexts.{Pending, closing_text, item_awaited, key_awaited, lead_text, value_awaited}
use Rattle.yaml_read.specs.Words.{past_word}
use Rattle.yaml_read.specs.declared.errors.Stop.{Stop}
use Rattle.yaml_read.specs.declared.leads.Await.{Await}
use Rattle.yaml_read.specs.declared.leads.Await.TheVariants as code
use Rattle.yaml_read.specs.declared.levels.Entry.{Entry}
use Rattle.yaml_read.specs.declared.levels.Entry.TheVariants.{Another, End}

-- ---- the code's list of what is open

-- The part that a collection of the code awaits.
abbrev pub seen_await : Await → Pending
seen_await code.FirstItem = item_awaited true
seen_await code.Item = item_awaited false
seen_await code.FirstKey = key_awaited true
seen_await code.Key = key_awaited false
seen_await code.Value = value_awaited

-- these, the innermost first, before outer ones
abbrev pub awaits_onto : List Pending → List Await → List Pending
awaits_onto outer [] = outer
awaits_onto outer (awaited ∷ awaits) = awaits_onto (seen_await awaited ∷ outer) awaits

-- The collections that are open in the code, the innermost first.
abbrev pub seen_awaits : List Await → List Pending
seen_awaits awaits = awaits_onto [] awaits

-- this one is the last in the code's list
pub record IsLastAwait (awaited : Await) (awaits : List Await) : Type 0 where
  pub outer : List Await
  pub is : awaits ≡ outer ++ awaited ∷ []

-- this one is the innermost; none if nothing is open
abbrev pub IsInnermostAwait : List Pending → Option Await → Type 0
IsInnermostAwait levels None = levels ≡ []
IsInnermostAwait levels (Some awaited) = (outer : List Pending) × (levels ≡ seen_await awaited ∷ outer)

-- ---- the text before an event

-- the innermost collection may end
abbrev pub can_end : List Pending → Bool
can_end [] = false
can_end (item_awaited empty ∷ outer) = true
can_end (key_awaited empty ∷ outer) = true
can_end (value_awaited ∷ outer) = false

-- the event with which it ends
abbrev pub closing_event : List Pending → Event
closing_event [] = sequence_end
closing_event (item_awaited empty ∷ outer) = sequence_end
closing_event (key_awaited empty ∷ outer) = mapping_end
closing_event (value_awaited ∷ outer) = mapping_end

-- the text begins with one of two words, and this follows it; or with neither
abbrev pub EntryStands : (lead end text : List ℕ) → Result Entry Stop → Type 0
EntryStands lead end text (Ok (Another rest)) = text ≡ lead ++ rest.now
EntryStands lead end text (Ok (End rest)) = text ≡ end ++ rest.now
EntryStands lead end text (Err error) = (past_word lead text ≡ None) × (past_word end text ≡ None)

-- the text begins with what leads to a node, or with the end of the innermost collection, and this follows it; or with neither
abbrev pub LeadStands : List Pending → (text : List ℕ) → Result Entry Stop → Type 0
LeadStands levels text (Ok (Another rest)) = text ≡ lead_text levels ++ rest.now
LeadStands levels text (Ok (End rest)) = (can_end levels ≡ true) × (text ≡ closing_text levels ++ rest.now)
LeadStands levels text (Err error) = (past_word (lead_text levels) text ≡ None) × (can_end levels ≡ true → past_word (closing_text levels) text ≡ None)
