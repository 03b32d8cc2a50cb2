-- A document's text from node to node, by whether keys must differ.
use Rattle.yaml_read.proofs.Common.{ℕ, ◌+◌, List, [], ◌∷◌, ◌++◌, refl, ◌≡◌, subst, sym, codes, Ok, Err, Bor, IsUtf8, TypedValue, HasUniqueKeys, IsNewKey}
use Rattle.yaml_read.proofs.Common.{OpenLevel, seen_levels, value_due, Level, Keys, FollowedBy, FollowsKeys, InnermostIsNew, KeyStopsAt, IsOpen, StopsAt}
use Rattle.yaml_read.proofs.Common.{column_in, KeysAllow, OpenKeysAllow, IsPlacedBy, Ended, Moved, NodeStepped, KeyStop, ReadError, OpenKeys, Next}
use Rattle.yaml_read.proofs.UniqueSoFar.{HasNewKey, ended_allows, key_unique, moved_unique, unique_allows}
use Rattle.yaml_read.{specs.Errors.TellsKey, specs.HeldKeys.HoldBy, specs.HeldKeys.KeyRepeats, specs.HeldKeys.TextRead}
use Rattle.yaml_read.{specs.declared.levels.Next.TheVariants.Node, proofs.KeyTexts.key_again, proofs.KeyTexts.new_key, proofs.Placing.stops_placed}
use Rattle.yaml_value.specs.declared.keys.Keys.TheVariants as keys
use Rattle.yaml_read.specs.declared.errors.KeyStop.TheVariants as key

-- a document's text up to a node: what is open, and the keys that are held of it
pub record TextAt {A : Type 0} (mode : Keys) (text : List ℕ) (levels : List OpenLevel) (bytes : List ℕ) (held : List (OpenKeys A)) : Type 0 where
  pub whole : List ℕ
  pub text_is : text ≡ codes "---\n" ++ whole
  pub opened : IsOpen whole levels bytes
  pub hold : HoldBy mode whole levels held
  pub allow : OpenKeysAllow mode levels

hold_none : {A : Type 0} (mode : Keys) (whole : List ℕ) (held : List (OpenKeys A)) → held ≡ [] → HoldBy mode whole [] held × OpenKeysAllow mode []
hold_none keys.Unique whole held none = (none, tt)
hold_none keys.MayRepeat whole held none = (tt, tt)

pub text_begins : {A : Type 0} (mode : Keys) (text bytes : List ℕ) (held : List (OpenKeys A)) → text ≡ codes "---\n" ++ bytes → held ≡ []
    → TextAt mode text [] bytes held
text_begins mode text bytes held is none =
    let begun = hold_none mode bytes held none in
    record { whole = bytes; text_is = is; opened = record { text = refl; readable = tt }; hold = begun.0; allow = begun.1 }

new_innermost : (levels : List OpenLevel) → InnermostIsNew levels → HasNewKey levels
new_innermost (value_due pairs key ∷ outer) is = new_key (column_in outer + 2) pairs key is
new_innermost _ is = tt

hold_on : {A : Type 0} (mode : Keys) (whole : List ℕ) (before after : List OpenLevel) (new : List (OpenKeys A)) → Moved before after
    → OpenKeysAllow mode before → FollowedBy mode whole after new (Ok tt) → HoldBy mode whole after new × OpenKeysAllow mode after
hold_on keys.Unique whole before after new moved unique followed = (followed.0, moved_unique before after moved unique (new_innermost after followed.1))
hold_on keys.MayRepeat whole before after new moved unique followed = (tt, tt)

module _ {A : Type 0} (mode : Keys) (text : List ℕ) (before after : List OpenLevel) (bytes : List ℕ) (rest : Bor (List ℕ)) (old : List (OpenKeys A))
    (so_far : TextAt mode text before bytes old) (stepped : NodeStepped {A = A} before after bytes (Ok (Node rest))) where
  -- the next node is open
  abbrev pub follows : FollowsKeys mode old after rest.now
  follows = record { whole = so_far.whole; before = before; held = so_far.hold; moved = stepped.moved; opened = stepped.read so_far.whole so_far.opened }

  pub text_on : (new : List (OpenKeys A)) → FollowedBy mode follows.whole after new (Ok tt) → TextAt mode text after rest.now new
  text_on new followed =
      let held = hold_on mode so_far.whole before after new stepped.moved so_far.allow followed in
      record { whole = so_far.whole; text_is = so_far.text_is; opened = stepped.read so_far.whole so_far.opened; hold = held.0; allow = held.1 }

-- a key repeats
module _ {A : Type 0} (text : List ℕ) (before after : List OpenLevel) (bytes : List ℕ) (rest : Bor (List ℕ)) (old : List (OpenKeys A))
    (so_far : TextAt keys.Unique text before bytes old) (stepped : NodeStepped {A = A} before after bytes (Ok (Node rest))) (left : ℕ)
    (again : KeyRepeats so_far.whole after left) where
  known : IsNewKey again.pairs again.key → ⊥
  known =
      let now = subst (λ (l : List OpenLevel). IsOpen so_far.whole l rest.now) again.is (stepped.read so_far.whole so_far.opened) in
      key_again again.outer again.pairs again.key again.opened.readable.1.1 now.readable.1.1.1 again.opened.readable.1.0 again.again

  repeats : TextRead {A = A} keys.Unique text (Err (key.Repeats left))
  repeats =
      record {
        sound = tt;
        stops = (
          refl,
          (
            so_far.whole,
            so_far.text_is,
            (
              record {
                pairs = again.pairs;
                outer = again.outer;
                text = again.text;
                opened = again.opened;
                unique = key_unique before after again.outer again.pairs again.key stepped.moved again.is so_far.allow;
                place = again.place;
                key = again.key;
                rest = again.rest;
                begins = again.begins;
                again = known;
              },
              (subst (λ (l : List OpenLevel). IsOpen so_far.whole l rest.now) again.is (stepped.read so_far.whole so_far.opened)).readable.1.1.1,
            ),
          ),
        );
      }

pub follow_stops : {A : Type 0} (mode : Keys) (text : List ℕ) (before after : List OpenLevel) (bytes : List ℕ) (rest : Bor (List ℕ))
    (old new : List (OpenKeys A)) (so_far : TextAt mode text before bytes old) → NodeStepped {A = A} before after bytes (Ok (Node rest))
    → (reason : KeyStop) → FollowedBy mode so_far.whole after new (Err reason) → TextRead {A = A} mode text (Err reason)
follow_stops keys.MayRepeat text before after bytes rest old new so_far stepped reason followed = absurd followed
follow_stops keys.Unique text before after bytes rest old new so_far stepped (key.Repeats left) followed =
    repeats text before after bytes rest old so_far stepped left followed
follow_stops keys.Unique text before after bytes rest old new so_far stepped (key.Other reason) followed =
    record { sound = tt; stops = subst (StopsAt keys.Unique text) (sym followed) tt }

-- the step to a node, with the levels after it as a slice
pub stepped_at : {A : Type 0} (before : List OpenLevel) (bytes : List ℕ) (next : Next A) (rest : Bor (List ℕ)) (levels slice : List (Level A))
    → slice ≡ levels → next ≡ Node rest → NodeStepped before (seen_levels levels) bytes (Ok next)
    → NodeStepped {A = A} before (seen_levels slice) bytes (Ok (Node rest))
stepped_at {A} before bytes next rest levels slice same is stepped =
    subst (λ (l : List (Level A)). NodeStepped {A = A} before (seen_levels l) bytes (Ok (Node rest))) (sym same)
    (subst (λ (n : Next A). NodeStepped before (seen_levels levels) bytes (Ok n)) is stepped)

-- the value that ended the text has such keys
pub whole_allows : (mode : Keys) (before : List OpenLevel) (value : TypedValue) → OpenKeysAllow mode before
    → (first : TypedValue) × HasUniqueKeys first × Ended before first [] value → KeysAllow mode value
whole_allows mode before value allow gave = (ended_allows mode before gave.0 [] value gave.2 allow (unique_allows mode gave.0 gave.1)).1

-- ---- errors

pub key_placed : (mode : Keys) (bytes : List ℕ) (why : KeyStop) (error : ReadError) → IsUtf8 bytes → TellsKey bytes why error
    → KeyStopsAt mode bytes why → IsPlacedBy mode bytes error
key_placed mode bytes (key.Other reason) error utf8 tells stops = stops_placed mode bytes reason error utf8 tells stops
key_placed mode bytes (key.Repeats left) error utf8 tells stops =
    subst (IsPlacedBy mode bytes) (sym tells.2)
    (stops.0, record { utf8 = utf8; left = left; position_is = tells.1; holds = (stops.1.0, stops.1.1, stops.1.2.0) })
