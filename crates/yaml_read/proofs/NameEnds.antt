-- Where names end: no name goes on after a name, an event and a run that were read.
use Rattle.yaml_read.proofs.Common.{ℕ, ◌+◌, ◌<◌, [], ◌∷◌, ◌++◌, ◌≡◌, ◌∙◌, true, false, cond, not, None, Some, Option, List, refl, ap, subst, sym, arith}
use Rattle.yaml_read.proofs.Common.{false≢true, and_parts, append-nil, codes, length, length-append, list_all, Text, is_alpha, alias_fault, Event, Held}
use Rattle.yaml_read.proofs.Common.{in_quotes, prefix_len, Pending, BeginsNode, IsOver, closing_text, ends_in_name, ends_name, item_awaited, key_awaited}
use Rattle.yaml_read.proofs.Common.{opening_text, trail_text, value_awaited, outside, can_end, trail_behind_opening, Await, HasHeldText, mapping_opened}
use Rattle.yaml_read.proofs.Common.{sequence_opened, value_quoted}
use Rattle.yaml_read.proofs.NameTexts.{name_letters}

-- ---- the last character

last_of : (front : Text) (c : ℕ) (back : Text) → ends_in_name (front ++ c ∷ back) ≡ ends_in_name (c ∷ back)
last_of (a ∷ b ∷ front) c back = last_of (b ∷ front) c back
last_of _ c back = refl

-- it isn't of a name
other_last : (text front : Text) (c : ℕ) (bytes : List ℕ) → is_alpha c ≡ false → text ≡ front ++ c ∷ [] → IsOver text bytes
other_last text front c bytes plain is = record { ends = λ named. absurd (false≢true (sym (ap ends_in_name is ∙ last_of front c [] ∙ plain) ∙ named)) }

pub nothing_over : (bytes : List ℕ) → IsOver [] bytes
nothing_over bytes = record { ends = λ named. absurd (false≢true named) }

-- a text before it doesn't matter
pub longer_over : (front back : Text) (bytes : List ℕ) → 0 < length back → IsOver back bytes → IsOver (front ++ back) bytes
longer_over front [] bytes some over = absurd (omega (arith, some))
longer_over front (c ∷ back) bytes some over = record { ends = λ named. over.ends (sym (last_of front c back) ∙ named) }

-- ---- names

-- a name's last character is of a name
letters_last : (c : ℕ) (name : Text) → list_all is_alpha (c ∷ name) ≡ true → ends_in_name (c ∷ name) ≡ true
letters_last c [] letters = (and_parts (is_alpha c) true letters).0
letters_last c (b ∷ name) letters = letters_last b name (and_parts (is_alpha c) (list_all is_alpha (b ∷ name)) letters).1

pub alias_ends : (name : Text) → alias_fault name ≡ None → ends_in_name (codes "*" ++ name) ≡ true
alias_ends [] named = cc
alias_ends (c ∷ name) named = letters_last c name (name_letters (c ∷ name) named)

-- what follows as many characters as a name may have begins with none
pub name_ends : (name behind : List ℕ) → list_all is_alpha name ≡ true → length name ≡ prefix_len is_alpha (name ++ behind) → ends_name behind ≡ true
name_ends [] [] letters run = refl
name_ends [] (b ∷ behind) letters run = grind (arith, is_alpha, cond, prefix_len, not, true, false)
name_ends (c ∷ name) behind letters run =
    let both = and_parts (is_alpha c) (list_all is_alpha name) letters in
    let more : length (c ∷ name) ≡ 1 + prefix_len is_alpha (name ++ behind) = run ∙ ap (λ b. cond b (1 + prefix_len is_alpha (name ++ behind)) 0) both.0 in
    name_ends name behind both.1 (omega (arith, more))

-- ---- events

-- the text after a tag ends with no name
pub held_over : (held : Held) (written front : Text) (bytes : List ℕ) → HasHeldText held written → IsOver (front ++ written) bytes
held_over _ _ front bytes (value_quoted value scalars) = longer_over front _ _ (omega arith) (other_last _ (0x22 ∷ _) 0x22 _ refl refl)
held_over _ _ front bytes sequence_opened = other_last _ front 0x5B _ refl refl
held_over _ _ front bytes mapping_opened = other_last _ front 0x7B _ refl refl

some_behind : (front back : List ℕ) → 0 < length back → 0 < length (front ++ back)
some_behind front back some = omega (arith, some, length-append front back)

pub opening_some : (event : Event) → BeginsNode event → 0 < length (opening_text event)
opening_some event h1 = grind (arith, some_behind, in_quotes, codes)

-- after a comma, or without one
same_over : (text : Text) (middle rest : List ℕ) → middle ≡ rest → IsOver text middle → IsOver (text ++ []) rest
same_over text middle rest is over = subst (λ (t : Text). IsOver t rest) (sym (append-nil text)) (subst (IsOver text) is over)

comma_over : (text : Text) (rest : List ℕ) → IsOver (text ++ codes ",") rest
comma_over text rest = other_last (text ++ codes ",") text 0x2C rest refl refl

trail_over : (levels : List Pending) (text : Text) (middle rest : List ℕ) → middle ≡ trail_text levels ++ rest → IsOver text middle
    → IsOver (text ++ trail_text levels) rest
trail_over (item_awaited empty ∷ outer) text middle rest is over = comma_over text rest
trail_over (value_awaited ∷ outer) text middle rest is over = comma_over text rest
trail_over _ text middle rest is over = same_over text middle rest is over

pub behind_over : (levels : List Pending) (opened : Option Await) (text : Text) (middle rest : List ℕ)
    → middle ≡ trail_behind_opening levels opened ++ rest → IsOver text middle → IsOver (text ++ trail_behind_opening levels opened) rest
behind_over levels None text middle rest is over = trail_over levels text middle rest is over
behind_over levels (Some awaited) text middle rest is over = same_over text middle rest is over

-- a bracket is no name
bracket_over : (levels : List Pending) (bytes : List ℕ) → can_end levels ≡ true → IsOver (closing_text levels) bytes
bracket_over (item_awaited empty ∷ outer) bytes can = other_last (closing_text (item_awaited empty ∷ outer)) _ 0x5D bytes refl refl
bracket_over (key_awaited empty ∷ outer) bytes can = other_last (closing_text (key_awaited empty ∷ outer)) _ 0x7D bytes refl refl
bracket_over _ bytes can = absurd (false≢true can)

pub end_over : (levels : List Pending) (middle rest : List ℕ) → can_end levels ≡ true → middle ≡ trail_text (outside levels) ++ rest
    → IsOver (closing_text levels ++ trail_text (outside levels)) rest
end_over levels middle rest can is = trail_over (outside levels) (closing_text levels) middle rest is (bracket_over levels middle can)
