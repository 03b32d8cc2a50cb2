-- An event is refused exactly if no accepted list continues with it.
use Rattle.yaml_base.proofs.Common.{ℕ, ◌+◌, ◌<◌, ◌≤◌, count_by, is_none, option_and_then, Option, None, Some, nat_lt, length, Bool, cond, false, not, true}
use Rattle.yaml_base.proofs.Common.{◌&&◌, List, [], ◌++◌, ◌∷◌, refl, ◌≡◌, lt-ltb, ltb-true, append-nil, append_assoc, ap, sym, ◌∙◌, arith, list_all-append}
use Rattle.yaml_base.proofs.Common.{sum_by-append, list_all, option_or, Event, stream_end, document_end, sequence_end, mapping_end, Level, at_item, at_key}
use Rattle.yaml_base.proofs.Common.{at_value, Partial, before_stream, and_from, and_parts, within_document, after_stream, push}
use Rattle.yaml_base.proofs.Common.{pushed, partial_of, empty_scalar, outer_missing, levels_missing, missing, missing_after, completion, some_if}
use Rattle.yaml_base.proofs.Common.{name_or_tag_fault, content_fault, expected, place_fault, most_open, begins_collection, ends_collection, open_levels}
use Rattle.yaml_base.{proofs.NoFaults.neither, proofs.NoFaults.is_none_none, proofs.OpenCounts.open_count-levels, proofs.Pushes.partial_of_events}
use Rattle.yaml_base.{proofs.Trees.stream_pushed, specs.Pieces.innermost_missing, specs.Refusal.IsAcceptedPrefix, specs.Refusal.RefusedExactly}
use Rattle.yaml_base.{specs.declared.errors.yaml_error_t.yaml_error_t, specs.declared.errors.yaml_error_t.TheVariants.TooDeep}
use Rattle.yaml_base.proofs.Common.{depth_fault, refusal_at, refusal, is_sound, open_count, nat_tests}
use Rattle.yaml_base.proofs.Completions.{pushed-append, stream_completed, completion_pushed, prefix_is_partial}
use Rattle.std.specs.Prelude.{flat_map}

-- no prefix leaves too many collections open
abbrev IsShallow : List Event → Type 0
IsShallow events = (prefix rest : List Event) → prefix ++ rest ≡ events → open_count prefix ≤ most_open

-- a list is a partial tree's, sound and shallow
pub record Stands (canonical : Bool) (events : List Event) : Type 0 where
  pub partial : Partial
  pub is_partial : partial_of events ≡ Some partial
  pub sound : list_all (is_sound canonical) events ≡ true
  pub shallow : IsShallow events

-- A list that begins an accepted list has a tree, and its events are sound and shallow (`Stands`).
pub stands_from_begins : (canonical : Bool) (events : List Event) → IsAcceptedPrefix canonical events → Stands canonical events
stands_from_begins canonical events given =
    let rest = given.rest in
    let whole : partial_of (events ++ rest) ≡ Some (after_stream given.accepted.stream) = ap partial_of (sym given.accepted.is_stream)
    ∙ stream_pushed given.accepted.stream in
    let begun = prefix_is_partial events rest (after_stream given.accepted.stream) whole in
    record {
      partial = begun.0;
      is_partial = begun.1;
      sound =
          (and_parts (list_all (is_sound canonical) events) (list_all (is_sound canonical) rest)
          (sym (list_all-append (is_sound canonical) events rest) ∙ given.accepted.sound)).0;
      shallow = (λ prefix more is. given.accepted.shallow prefix (more ++ rest) (sym (append_assoc prefix more rest) ∙ ap (λ events. events ++ rest) is));
    }

-- Missing events are sound and begin no collection.
record Easy (canonical : Bool) (events : List Event) : Type 0 where
  sound : list_all (is_sound canonical) events ≡ true
  none : count_by begins_collection events ≡ 0

easy_both : (canonical : Bool) (a b : List Event) → Easy canonical a → Easy canonical b → Easy canonical (a ++ b)
easy_both canonical a b h k = grind (arith, list_all-append, and_from, sum_by-append)

outer_easy : (canonical : Bool) (outer : List Level) → Easy canonical (flat_map outer_missing outer)
outer_easy canonical [] = record { sound = refl; none = refl }
outer_easy canonical (at_item c items ∷ outer) = easy_both canonical (sequence_end ∷ []) (flat_map outer_missing outer) (record { sound = refl; none = refl })
    (outer_easy canonical outer)
outer_easy canonical (at_key c pairs ∷ outer) = easy_both canonical (empty_scalar ∷ mapping_end ∷ []) (flat_map outer_missing outer)
    (record { sound = grind (arith, nat_tests); none = refl }) (outer_easy canonical outer)
outer_easy canonical (at_value c pairs key ∷ outer) = easy_both canonical (mapping_end ∷ []) (flat_map outer_missing outer)
    (record { sound = refl; none = refl }) (outer_easy canonical outer)

innermost_easy : (canonical : Bool) (level : Level) → Easy canonical (innermost_missing level)
innermost_easy canonical level = record { sound = grind (arith, nat_tests); none = grind (arith, nat_tests) }

levels_easy : (canonical : Bool) (levels : List Level) → Easy canonical (levels_missing levels)
levels_easy true [] = record { sound = refl; none = refl }
levels_easy false [] = record { sound = refl; none = refl }
levels_easy canonical (level ∷ outer) = easy_both canonical (innermost_missing level) (flat_map outer_missing outer) (innermost_easy canonical level)
    (outer_easy canonical outer)

missing_easy : (canonical : Bool) (p : Partial) → Easy canonical (missing p)
missing_easy canonical (within_document e d s levels) = easy_both canonical (levels_missing levels) (document_end true ∷ stream_end ∷ [])
    (levels_easy canonical levels) (record { sound = refl; none = refl })
missing_easy canonical _ = record { sound = refl; none = refl }

abbrev starts : List Event → ℕ
starts events = count_by begins_collection events

abbrev stops : List Event → ℕ
stops events = count_by ends_collection events

starts-append : (a b : List Event) → starts (a ++ b) ≡ starts a + starts b
starts-append a b = sum_by-append (λ x. cond (begins_collection x) 1 0) a b

stops-append : (a b : List Event) → stops (a ++ b) ≡ stops a + stops b
stops-append a b = sum_by-append (λ x. cond (ends_collection x) 1 0) a b

-- a prefix of two lists in a row lies in the first, or has all of it and a prefix of the second
data Cut (a r b c : List Event) : Type 0 where
  within : (x : List Event) → a ++ x ≡ b → Cut a r b c
  past : (x : List Event) → a ≡ b ++ x → x ++ r ≡ c → Cut a r b c

cut_more : (y z : Event) (a r b c : List Event) → y ≡ z → Cut a r b c → Cut (y ∷ a) r (z ∷ b) c
cut_more y z a r b c same (within x is) = within x (ap (λ w. w ∷ (a ++ x)) same ∙ ap (λ events. z ∷ events) is)
cut_more y z a r b c same (past x is rest) = past x (ap (λ w. w ∷ a) same ∙ ap (λ events. z ∷ events) is) rest

cut_at : (a r b c : List Event) → a ++ r ≡ b ++ c → Cut a r b c
cut_at [] r b c same = within b refl
cut_at (y ∷ a) r [] c same = past (y ∷ a) refl same
cut_at (y ∷ a) r (z ∷ b) c same =
    let first : y ≡ z = cc in
    let others : a ++ r ≡ b ++ c = cc in
    cut_more y z a r b c first (cut_at a r b c others)

-- More events with few enough starts keep a list shallow.
shallow_cut : (events more : List Event) (prefix rest : List Event) → IsShallow events → open_count events + starts more ≤ most_open
    → Cut prefix rest events more
    → open_count prefix ≤ most_open
shallow_cut events more prefix rest shallow few (within x is) = shallow prefix x is
shallow_cut events more prefix rest shallow few (past x is others) = grind (arith, starts-append, stops-append)

shallow_more : (events more : List Event) → IsShallow events → open_count events + starts more ≤ most_open → IsShallow (events ++ more)
shallow_more events more shallow few prefix rest is =
    shallow_cut events more prefix rest shallow few (cut_at prefix rest events more is)

-- Such a list begins an accepted list: its completion.
pub begins_from_stands : (canonical : Bool) (events : List Event) → Stands canonical events → IsAcceptedPrefix canonical events
begins_from_stands canonical events stands =
    let p = stands.partial in
    let easy = missing_easy canonical p in
    let same : completion events ≡ events ++ missing p = ap (λ o. events ++ missing_after o) stands.is_partial in
    let all : open_count events ≤ most_open = stands.shallow events [] (append-nil events) in
    let bound : (m : ℕ) → open_count events ≤ m → open_count events + starts (missing p) ≤ m = (λ m h. omega (arith, easy.none)) in
    record {
      rest = missing p;
      accepted =
          record {
            stream = stream_completed p;
            is_stream = partial_of_events (completion events) (after_stream (stream_completed p)) (completion_pushed events p stands.is_partial) ∙ same;
            sound = list_all-append (is_sound canonical) events (missing p)
                ∙ and_from (list_all (is_sound canonical) events) (list_all (is_sound canonical) (missing p)) stands.sound easy.sound;
            shallow = shallow_more events (missing p) stands.shallow (bound most_open all);
          };
    }

or_none : (a b : Option yaml_error_t) → a ≡ None → b ≡ None → option_or a b ≡ None
or_none a b h k = ap (λ x. option_or x b) h ∙ k

no_fault : (wrong : Bool) (fault : yaml_error_t) → some_if wrong fault ≡ None → wrong ≡ false
no_fault wrong fault h = grind (arith, nat_tests)

is_some_value : (o : Option Partial) → is_none o ≡ false → (q : Partial) × (o ≡ Some q)
is_some_value None h = cc
is_some_value (Some q) h = (q, refl)

has_room : (begins room : Bool) → begins && not room ≡ false → begins ≡ true → room ≡ true
has_room begins room h h2 = grind (arith, nat_tests)

room_if : (begins room : Bool) → (begins ≡ true → room ≡ true) → begins && not room ≡ false
room_if begins room h = grind (arith, nat_tests)

pub pushed_next : (before : List Event) (event : Event) (p : Partial) → partial_of before ≡ Some p
    → partial_of (before ++ event ∷ []) ≡ option_and_then (λ next. Some next) (push p event)
pushed_next before event p given =
    pushed-append before (event ∷ []) before_stream ∙ ap (λ o. option_and_then (λ q. pushed q (event ∷ [])) o) given

refusal_here : (canonical : Bool) (before : List Event) (event : Event) (p : Partial) → partial_of before ≡ Some p
    → refusal canonical before event ≡ refusal_at canonical p event
refusal_here canonical before event p given = ap (λ o. option_and_then (λ q. refusal_at canonical q event) o) given

starts_one : (event : Event) (begins : Bool) → begins_collection event ≡ begins → starts (event ∷ []) ≡ cond begins 1 0
starts_one event true is = ap (λ x. 0 + cond x 1 0) is
starts_one event false is = ap (λ x. 0 + cond x 1 0) is

few_starts : (before : List Event) (event : Event) (m n : ℕ) (begins : Bool) → begins_collection event ≡ begins → open_count before ≡ n → open_count before ≤ m
    → (begins ≡ true → n < m) → open_count before + starts (event ∷ []) ≤ m
few_starts before event m n true is count h room = let k : n < m = room refl in omega (arith, starts_one event true is)
few_starts before event m n false is count h room = omega (arith, starts_one event false is)

next_stands : (canonical : Bool) (before : List Event) (event : Event) → (given : Stands canonical before) → refusal_at canonical given.partial event ≡ None
    → Stands canonical (before ++ event ∷ [])
next_stands canonical before event given accepted =
    let p = given.partial in
    let names = name_or_tag_fault canonical event in
    let content = content_fault canonical event in
    let wrong_depth = begins_collection event && not (nat_lt (length (open_levels p)) most_open) in
    let rest = option_or (place_fault p event) (option_or content (depth_fault p event)) in
    let names_none : names ≡ None = (neither names rest accepted).0 in
    let rest_none : rest ≡ None = (neither names rest accepted).1 in
    let place_none : place_fault p event ≡ None = (neither _ _ rest_none).0 in
    let last_none : option_or content (depth_fault p event) ≡ None = (neither _ _ rest_none).1 in
    let content_none : content ≡ None = (neither content _ last_none).0 in
    let depth_none : depth_fault p event ≡ None = (neither content _ last_none).1 in
    let sound_event : is_sound canonical event ≡ true = ap is_none (or_none names content names_none content_none) in
    let pushes : (q : Partial) × (push p event ≡ Some q) = is_some_value _ (no_fault _ _ place_none) in
    let room : begins_collection event ≡ true → length (open_levels p) < most_open =
    (λ begins. ltb-true _ _ (has_room _ _ (no_fault _ TooDeep depth_none) begins)) in
    let all : open_count before ≤ most_open = given.shallow before [] (append-nil before) in
    record {
      partial = pushes.0;
      is_partial = pushed_next before event p given.is_partial ∙ ap (λ o. option_and_then (λ next. Some next) o) pushes.1;
      sound = list_all-append (is_sound canonical) before (event ∷ [])
          ∙ and_from (list_all (is_sound canonical) before) (list_all (is_sound canonical) (event ∷ [])) given.sound
          (and_from (is_sound canonical event) true sound_event refl);
      shallow = shallow_more before (event ∷ []) given.shallow
          (few_starts before event most_open (length (open_levels p)) (begins_collection event) refl (open_count-levels before p given.is_partial) all room);
    }

begins_no_end : (event : Event) → begins_collection event ≡ true → stops (event ∷ []) ≡ 0
begins_no_end event h = grind (arith, nat_tests)

some_pushed : (o : Option Partial) (q : Partial) → option_and_then (λ next. Some next) o ≡ Some q → is_none o ≡ false
some_pushed o q h = grind (arith, nat_tests)

room_left : (before : List Event) (event : Event) (m n : ℕ) → 0 < m → open_count before ≡ n → open_count (before ++ event ∷ []) ≤ m
    → begins_collection event ≡ true → n < m
room_left before event m n positive count h begins =
    omega (arith, starts-append before (event ∷ []), stops-append before (event ∷ []), starts_one event true begins, begins_no_end event begins)

not_refused : (canonical : Bool) (before : List Event) (event : Event) → (given : Stands canonical before) → Stands canonical (before ++ event ∷ [])
    → refusal_at canonical given.partial event ≡ None
not_refused canonical before event given next =
    let p = given.partial in
    let names = name_or_tag_fault canonical event in
    let content = content_fault canonical event in
    let room = nat_lt (length (open_levels p)) most_open in
    let sounds : list_all (is_sound canonical) before
    && list_all (is_sound canonical) (event ∷ []) ≡ true = sym (list_all-append (is_sound canonical) before (event ∷ [])) ∙ next.sound in
    let sound_event : is_sound canonical event
    ≡ true = (and_parts _ true (and_parts _ _ sounds).1).0 in
    let own_none : option_or names content ≡ None = is_none_none _ sound_event in
    let stands_at : is_none (push p event)
    ≡ false = some_pushed _ _ (sym (pushed_next before event p given.is_partial) ∙ next.is_partial) in
    let all : open_count (before ++ event ∷ []) ≤ most_open = next.shallow (before ++ event ∷ []) [] (append-nil (before ++ event ∷ [])) in
    let deep : begins_collection event && not room ≡ false =
    room_if _ room
    (λ begins. lt-ltb _ _ (room_left before event _ _ (omega arith) (open_count-levels before p given.is_partial) all begins)) in
    or_none names _ (neither names content own_none).0 (or_none _ _ (ap (λ b. some_if b (expected p)) stands_at)
    (or_none content _ (neither names content own_none).1 (ap (λ b. some_if b TooDeep) deep)))

pub refused_exactly : RefusedExactly
refused_exactly canonical before event begun =
    let given = stands_from_begins canonical before begun in
    let here = refusal_here canonical before event given.partial given.is_partial in (
      (λ none. begins_from_stands canonical (before ++ event ∷ []) (next_stands canonical before event given (sym here ∙ none))),
      (λ more. here ∙ not_refused canonical before event given (stands_from_begins canonical (before ++ event ∷ []) more)),
    )
