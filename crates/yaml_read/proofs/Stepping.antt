-- From a node's tag on, and after a value, up to the next node.
use Rattle.yaml_read.proofs.Common.{ℕ, ◌+◌, ◌*◌, ◌<◌, ◌≤◌, suc, None, List, [], ◌++◌, refl, ◌≡◌, ap, subst, sym, ◌∙◌, inl, inr, arith, append_assoc}
use Rattle.yaml_read.proofs.Common.{length, length-append, codes, encode_utf8_all, Text, TypedValue, list_value, map_value, no_values, no_value_pairs}
use Rattle.yaml_read.proofs.Common.{most_nested, in_quotes, line_at, value_text, Result, Ok, Err, IfErr, IfOk, ℤ, ◌^◌, Bor, signed_decimal, mag, IsUtf8}
use Rattle.yaml_read.proofs.Common.{IfOk-weaker, line_then, node, nothing, truth, OpenKeysAllow, tag_word, IsOpen, BreaksAt, IsHere, IsHereOrMemory, StopsIn}
use Rattle.yaml_read.proofs.Common.{OpenLevel, items_open, pairs_open, column_in, HasUniqueKeys, NextMoved, begins_list, begins_map, level_opened, value_given}
use Rattle.yaml_read.proofs.Common.{EntryLacks, IsEmptyLevel, NextShorter, NodeStepped, closed_value, empty_list_level, empty_map_level, no_bracket, no_lead}
use Rattle.yaml_read.proofs.Common.{no_memory, no_room, CanBeReadAt, IsScalarValue, IsTruth, IsMemory, past_word, seen_value, Value, Keys, Stop, Kind, Next}
use Rattle.yaml_read.specs.Stepped.{BracketLacks, Entered, ScalarRead, ValueSettled, no_line}
use Rattle.yaml_read.proofs.BreakingNodes.{list_line_breaks, map_line_breaks, no_integer, no_list, no_map, no_tag_there, node_stops, opens_deep, tag_passed}
use Rattle.yaml_read.proofs.HeadsRead.{empty_list, empty_map, null_read, truth_read}
use Rattle.yaml_read.{specs.Heads.IsScalarKind, specs.Settled.NextTook, specs.declared.levels.Next.TheVariants.Done}
use Rattle.yaml_read.{specs.declared.levels.Next.TheVariants.Node}
use Rattle.yaml_value.proofs.SeenLevels.{seen_null}
use Rattle.yaml_read.proofs.{Breaking.line_lacks, Entries.lead_breaks, Opening.list_in, Opening.map_in, Opening.value_in, UniqueSoFar.scalar_unique}
use Rattle.yaml_read.proofs.{UniqueSoFar.unique_allows, Words.no_word}
use Rattle.yaml_value.specs.declared.value.Value as declared
use Rattle.yaml_read.specs.declared.heads.Kind.TheVariants as kind

-- less is left after something that begins no sooner
pub next_less : {A : Type 0} (text rest : List ℕ) (next : Next A) → length rest ≤ length text → NextShorter rest next → NextShorter text next
next_less text rest (Done value) less is = tt
next_less text rest (Node after) less is = omega (arith, less, is)

-- less is left after a word that isn't empty
behind_tag_less : (k : Kind) (text behind : List ℕ) → text ≡ tag_word k ++ behind → length behind < length text
behind_tag_less k text behind h1 = grind (arith, length)

-- ---- values on their line

-- a value that repeats no key was given
next_moved : {A : Type 0} (before after : List OpenLevel) (first : TypedValue) (next : Next A) → HasUniqueKeys first → NextTook before first after next
    → NextMoved before after next
next_moved before after first (Done value) unique took = (first, unique, took)
next_moved before after first (Node rest) unique took = value_given first unique took

-- a value was read whole
value_steps : {A : Type 0} (before after : List OpenLevel) (text rest : List ℕ) (value : TypedValue) (result : Result (Next A) Stop)
    → HasUniqueKeys value → text ≡ encode_utf8_all (value_text (column_in before) value) ++ rest → CanBeReadAt (length before) value
    → length rest < length text → ValueSettled before after value rest result → NodeStepped before after text result
value_steps before after text rest value result unique is readable less settled =
    record {
      read = λ whole opened. settled.read whole (value_in whole before value text rest opened is readable);
      stops = λ mode whole opened allow.
          settled.stops mode whole (value_in whole before value text rest opened is readable) allow (unique_allows mode value unique);
      shorter = IfOk-weaker result _ _ (λ next is. next_less text rest next (omega (arith, less)) is) settled.shorter;
      moved = IfOk-weaker result _ _ (λ next took. next_moved before after value next unique took) settled.took;
    }

pub scalar_steps : {A : Type 0} (before after : List OpenLevel) (k : Kind) (text behind rest : List ℕ) (value : TypedValue) (result : Result (Next A) Stop)
    → text ≡ tag_word k ++ behind → IsScalarValue (tag_word k ++ behind) value rest → length rest < length behind
    → ValueSettled before after value rest result → NodeStepped before after text result
scalar_steps before after k text behind rest value result tagged found less settled =
    value_steps before after text rest value result (scalar_unique value found.readable) (tagged ∙ found.text (column_in before)) (found.readable (length before))
    (omega (arith, less, behind_tag_less k text behind tagged)) settled

-- reading stops at a node
node_stopped : (A : Type 0) (before after : List OpenLevel) (text : List ℕ) (error : Stop)
    → ((mode : Keys) (whole : List ℕ) → IsOpen whole before text → OpenKeysAllow mode before → StopsIn mode whole error)
    → NodeStepped {A = A} before after text (Err error)
node_stopped A before after text error stops = record { read = λ whole opened. tt; stops = stops; shorter = tt; moved = tt }

-- its words break off
node_broken : (A : Type 0) (before after : List OpenLevel) (text : List ℕ) (error : Stop) → BreaksAt (node (length before)) text error
    → NodeStepped {A = A} before after text (Err error)
node_broken A before after text error breaks = node_stopped A _ _ _ _ (λ mode whole opened allow. node_stops mode _ _ _ error opened allow breaks)

pub no_scalar_steps : (A : Type 0) (before after : List OpenLevel) (k : Kind) (text behind : List ℕ) (error : Stop) → text ≡ tag_word k ++ behind
    → ScalarRead {A = A} k behind (Err error) → NodeStepped {A = A} before after text (Err error)
no_scalar_steps A before after k text behind error tagged lacks =
    node_broken A before after text error (tag_passed (length before) k k text behind error refl tagged (lacks.breaks (length before)))

pub no_tag_steps : (A : Type 0) (before after : List OpenLevel) (text : List ℕ) (error : Stop)
    → ((k : Kind) → past_word (tag_word k) text ≡ None) × IsHere text error → NodeStepped {A = A} before after text (Err error)
no_tag_steps A before after text error lacks = node_broken A before after text error (no_tag_there (length before) text error lacks.0 lacks.1)

-- ---- scalars

pub null_found : (A : Type 0) (bytes : List ℕ) (rest : Bor (List ℕ)) → bytes ≡ codes "\"null\"" ++ rest.now
    → ScalarRead {A = A} kind.Null bytes (Ok (declared.Null, rest))
null_found A bytes rest is =
    record {
      sound = subst (λ value. IsScalarValue (tag_word kind.Null ++ bytes) value rest.now) (sym (seen_null A)) (null_read _ _ _ refl is);
      breaks = λ depth. tt;
      shorter = omega (arith, ap length is);
    }

pub truth_scalar : {A : Type 0} (bytes : List ℕ) (result : Result (Value A × Bor (List ℕ)) Stop)
    → IfOk result (λ found. IsTruth bytes (seen_value found.0) found.1.now) → IfErr result (BreaksAt truth bytes)
    → IfOk result (λ found. length found.1.now < length bytes) → ScalarRead kind.Bool bytes result
truth_scalar bytes result sound breaks shorter =
    record {
      sound = IfOk-weaker result _ _ (λ found is. truth_read (tag_word kind.Bool ++ bytes) bytes found.1.now (seen_value found.0) refl is) sound;
      breaks = λ depth. breaks;
      shorter = shorter;
    }

pub no_integer_scalar : (A : Type 0) (bytes : List ℕ) (error : Stop) → IsUtf8 bytes → IsHereOrMemory bytes error
    → ((n : ℤ) (rest : Text) → mag n < 2 ^ 63 → bytes ≡ encode_utf8_all (in_quotes (signed_decimal n) ++ rest) → IsMemory error)
    → ScalarRead {A = A} kind.Int bytes (Err error)
no_integer_scalar A bytes error utf8 place reads = record { sound = tt; breaks = λ depth. no_integer bytes error utf8 place reads; shorter = tt }

pub of_kind : {A : Type 0} {bytes : List ℕ} {result : Result (Value A × Bor (List ℕ)) Stop} (k j : Kind) → j ≡ k → ScalarRead k bytes result
    → ScalarRead j bytes result
of_kind {A} {bytes} {result} k j is read = subst (λ (k : Kind). ScalarRead k bytes result) (sym is) read

-- the kinds that are left
pub scalar_kind : (k : Kind) → (k ≡ kind.List → ⊥) → (k ≡ kind.Map → ⊥) → IsScalarKind k
scalar_kind kind.List list map = list refl
scalar_kind kind.Map list map = map refl
scalar_kind _ list map = tt

pub text_kind : (k : Kind) → IsScalarKind k → (k ≡ kind.Null → ⊥) → (k ≡ kind.Bool → ⊥) → (k ≡ kind.Int → ⊥) → k ≡ kind.Text
text_kind k h1 h2 h3 h4 = grind arith

-- ---- lists and maps

-- an empty one
pub closed_steps : {A : Type 0} (before after : List OpenLevel) (level : OpenLevel) (k : Kind) (bracket end lead text behind inside rest : List ℕ)
    (value : TypedValue) (result : Result (Next A) Stop) → IsEmptyLevel level k bracket end lead → text ≡ tag_word k ++ behind
    → (behind ≡ bracket ++ inside) × (length before < most_nested) → inside ≡ end ++ rest → value ≡ closed_value level
    → ValueSettled before after value rest result → NodeStepped before after text result
closed_steps before after _ _ _ _ _ text behind inside rest value result empty_list_level tagged bracket is same settled =
    value_steps before after text rest (list_value no_values) result tt (empty_list (column_in before) text behind inside rest tagged bracket.0 is)
    (bracket.1, tt) (omega (arith, ap length tagged, ap length bracket.0, ap length is))
    (subst (λ value. ValueSettled before after value rest result) same settled)
closed_steps before after _ _ _ _ _ text behind inside rest value result empty_map_level tagged bracket is same settled =
    value_steps before after text rest (map_value no_value_pairs) result tt (empty_map (column_in before) text behind inside rest tagged bracket.0 is)
    (bracket.1, tt) (omega (arith, ap length tagged, ap length bracket.0, ap length is))
    (subst (λ value. ValueSettled before after value rest result) same settled)

-- one that can't begin
pub unopened_steps : (A : Type 0) (before after : List OpenLevel) (level : OpenLevel) (k : Kind) (bracket end lead text behind : List ℕ) (error : Stop)
    → IsEmptyLevel level k bracket end lead → text ≡ tag_word k ++ behind → BracketLacks (length before) bracket text behind error
    → NodeStepped {A = A} before after text (Err error)
unopened_steps A before after _ _ _ _ _ text behind error empty_list_level tagged (no_bracket none place) =
    node_broken A before after text error (no_list (length before) text behind error tagged none place)
unopened_steps A before after _ _ _ _ _ text behind error empty_map_level tagged (no_bracket none place) =
    node_broken A before after text error (no_map (length before) text behind error tagged none place)
unopened_steps A before after _ _ _ _ _ text behind error empty_list_level tagged (no_room inside is many place) =
    node_stopped A before after text error (λ mode whole opened allow.
    opens_deep mode whole before text inside error opened allow many (inl (tagged ∙ ap (λ t. codes "!!seq " ++ t) is)) place)
unopened_steps A before after _ _ _ _ _ text behind error empty_map_level tagged (no_room inside is many place) =
    node_stopped A before after text error (λ mode whole opened allow.
    opens_deep mode whole before text inside error opened allow many (inr (tagged ∙ ap (λ t. codes "!!map " ++ t) is)) place)

twice : (n : ℕ) → n * 2 + 2 ≡ suc n * 2
twice n = omega arith

list_breaks : (depth : ℕ) (inside : List ℕ) (error : Stop) → EntryLacks (suc depth) [] inside error → BreaksAt (line_then (suc depth) nothing) inside error
list_breaks depth inside error (no_memory is) = subst (BreaksAt (line_then (suc depth) nothing) inside) (sym is) tt
list_breaks depth inside error (no_line none lacks) = line_lacks (suc depth) inside nothing error [] lacks tt
list_breaks depth inside error (no_lead line is none place) = absurd (no_word [] line line none refl)

-- one in which a node follows
pub opened_steps : {A : Type 0} (before after : List OpenLevel) (level : OpenLevel) (k : Kind) (bracket end lead text behind inside : List ℕ)
    (result : Result (Next A) Stop) → IsEmptyLevel level k bracket end lead → text ≡ tag_word k ++ behind
    → (behind ≡ bracket ++ inside) × (length before < most_nested) → past_word end inside ≡ None → Entered level lead before after inside result
    → NodeStepped before after text result
opened_steps before after _ _ _ _ _ text behind inside (Ok (Done value)) level tagged bracket none entered = absurd entered
opened_steps before after _ _ _ _ _ text behind inside (Ok (Node rest)) empty_list_level tagged bracket none entered =
    let there = tagged ∙ ap (λ t. codes "!!seq " ++ t) bracket.0 in
    let line = ap line_at (sym (twice (length before))) in
    let word = entered.1 ∙ ap (λ w. w ++ rest.now) line in
    record {
      read = λ whole opened.
          subst (λ (inner : List OpenLevel). IsOpen whole inner rest.now) (sym entered.0)
          (list_in whole before text rest.now opened bracket.1 (there ∙ ap (λ t. codes "!!seq [" ++ t) word));
      stops = λ mode whole opened allow. tt;
      shorter = omega (arith, ap length there, ap length entered.1, length-append (line_at (suc (length before) * 2)) rest.now);
      moved = level_opened (items_open no_values) begins_list entered.0;
    }
opened_steps before after _ _ _ _ _ text behind inside (Ok (Node rest)) empty_map_level tagged bracket none entered =
    let there = tagged ∙ ap (λ t. codes "!!map " ++ t) bracket.0 in
    let line = ap (λ n. line_at n ++ codes "? ") (sym (twice (length before))) in
    let word = entered.1 ∙ sym (append_assoc (line_at (suc (length before) * 2)) (codes "? ") rest.now) ∙ ap (λ w. w ++ rest.now) line in
    record {
      read = λ whole opened.
          subst (λ (inner : List OpenLevel). IsOpen whole inner rest.now) (sym entered.0)
          (map_in whole before text rest.now opened bracket.1 (there ∙ ap (λ t. codes "!!map {" ++ t) word));
      stops = λ mode whole opened allow. tt;
      shorter = omega (arith, ap length there, ap length entered.1, length-append (line_at (suc (length before) * 2)) (codes "? " ++ rest.now));
      moved = level_opened (pairs_open no_value_pairs) begins_map entered.0;
    }
opened_steps {A} before after _ _ _ _ _ text behind inside (Err error) empty_list_level tagged bracket none entered =
    node_broken A _ _ _ _ (list_line_breaks (length before) text inside error bracket.1 (tagged ∙ ap (λ t. codes "!!seq " ++ t) bracket.0, none)
    (list_breaks _ _ _ entered))
opened_steps {A} before after _ _ _ _ _ text behind inside (Err error) empty_map_level tagged bracket none entered =
    node_broken A _ _ _ _
    (map_line_breaks (length before) text inside error bracket.1 (tagged ∙ ap (λ t. codes "!!map " ++ t) bracket.0, none) (lead_breaks _ _ _ _ entered))
