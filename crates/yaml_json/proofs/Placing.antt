-- The place at which the writing is stopped, by the reason.
use Rattle.yaml_json.proofs.Common.{◌≡◌, ℕ, ◌≤◌, Bool, true, false, List, [], ◌∷◌, ◌++◌, drop, refl, sym, subst, ap, ◌∙◌, arith, inl, inr, append_assoc}
use Rattle.yaml_json.proofs.Common.{append-nil, IsPrefix, WriterState, NoneGoesOn, IsAny, AreFrom, TextStopsWriting, NoStringNext, Json, HasUniqueKeys, lex}
use Rattle.yaml_json.proofs.Common.{tokens, Token, key, Stop, At, PastString, PastValue, json_tokens}
use Rattle.yaml_json.proofs.Spelling.{head_same}
use Rattle.yaml_json.proofs.Faults.{StandsHere, at_token, none_again, none_here, past_string, past_value, some_append, stands_here}
use Rattle.yaml_json.specs.{Begins.BeginsAllowed, Offsets.IsOffset, Offsets.IsPast, Offsets.StopsAtLexeme, Places.CannotStandAt, Places.IsWithinDepth}
use Rattle.yaml_json.specs.{Refused.TokensBreakAt, Refused.NamesTwiceAt, Refused.OpensTooDeepAt, Walk.CouldStandOther, Walk.GoesOn, Walk.NoStringStands}
use Rattle.json.specs.{Lex.between, Tree.depth as nesting}
use Rattle.yaml_json.specs.declared.values.Stop.TheVariants as stops

no_value : (left taken : List Token) → NoneGoesOn taken left → (json : Json) → taken ++ left ≡ json_tokens json → ⊥
no_value [] taken none json e = none json (sym e ∙ append-nil taken)
no_value (x ∷ u) taken none json e = none (json, some_append taken x u json e)

module _ (depth : ℕ) (unique in_flow : Bool) (text : List ℕ) (before : List Token) (was now : WriterState) (last at : ℕ) (from : AreFrom text before last) where
  reader_here : (taken left : List Token) → before ≡ left → taken ++ left ≡ tokens text → BeginsAllowed depth unique taken → StandsHere text taken left last
  reader_here taken left were parts begins =
      stands_here text taken left last (subst (λ (l : List Token). AreFrom text l last) were from) parts begins.json begins.begins

  -- at the token itself, which no allowed value goes on with
  at_itself : (allowed : Json → Type 0) (taken left : List Token) → before ≡ left → taken ++ left ≡ tokens text → BeginsAllowed depth unique taken
      → (goes : GoesOn depth unique taken) → allowed goes.begins.json → NoStringNext left
      → ((json : Json) → allowed json → taken ++ left ≡ json_tokens json → ⊥)
      → ((x : Token) (u : List Token) → left ≡ x ∷ u → (json : Json) → allowed json → IsPrefix (taken ++ x ∷ []) (json_tokens json) → ⊥)
      → CannotStandAt allowed text last
  at_itself allowed taken left were parts begins goes is other ends stands =
      let here = reader_here taken left were parts begins in
      at_token allowed text taken left last here goes.begins.json is goes.token goes.is_beginner goes.begins.begins
      (none_here allowed text taken left last here (lex between (drop last text)) refl other ends stands)

  past_other : (taken left : List Token) → before ≡ left → taken ++ left ≡ tokens text → TokensBreakAt depth unique taken left → CouldStandOther taken left
      → IsPast text last at → CannotStandAt IsAny text at
  past_other taken left were parts breaks (s, (after, inl (is, some))) past =
      past_string text taken left last at (reader_here taken left were parts breaks.begins) past true s after is breaks.breaks some
  past_other taken left were parts breaks (s, (after, inr (is, some))) past =
      past_string text taken left last at (reader_here taken left were parts breaks.begins) past false s after is breaks.breaks some

  past_whole : (taken left front : List Token) (t : Token) → taken ≡ front ++ t ∷ [] → before ≡ t ∷ left → taken ++ left ≡ tokens text → (json : Json)
      → json_tokens json ≡ taken → (left ≡ [] → ⊥) → IsPast text last at → CannotStandAt IsAny text at
  past_whole taken left front t is were parts json whole some past =
      let here = stands_here text front (t ∷ left) last (subst (λ (l : List Token). AreFrom text l last) were from)
      (sym (append_assoc front (t ∷ []) left) ∙ ap (λ (l : List Token). l ++ left) (sym is) ∙ parts) json
      (record { rest = t ∷ []; parts = sym (whole ∙ is) }) in
      past_value text front t left last at here past json (whole ∙ is) some

  too_deep : (taken left : List Token) → before ≡ left → taken ++ left ≡ tokens text → OpensTooDeepAt depth unique taken left
      → GoesOn depth unique taken → NoStringNext left → CannotStandAt (IsWithinDepth depth) text last
  too_deep taken left were parts deep goes other =
      at_itself (IsWithinDepth depth) taken left were parts deep.begins goes goes.begins.allowed.nested other
      (λ json fits e. never json fits (some_append taken deep.next deep.after json (ap (λ (l : List Token). taken ++ l) (sym deep.first) ∙ e)))
      (λ x u is json fits begins. never json fits
      (subst (λ (y : Token). IsPrefix (taken ++ y ∷ []) (json_tokens json)) (head_same x deep.next u deep.after (sym is ∙ deep.first)) begins)) where
        never : (json : Json) → nesting json ≤ depth → IsPrefix (taken ++ deep.next ∷ []) (json_tokens json) → ⊥
        never json fits begins = let less = deep.deeper json begins in omega (arith, less, fits)

  again : (taken left : List Token) → before ≡ left → taken ++ left ≡ tokens text → NamesTwiceAt depth unique taken left
      → GoesOn depth unique taken → NoStringStands taken left → CannotStandAt HasUniqueKeys text last
  again taken left were parts twice goes no_string =
      let here = reader_here taken (key twice.name ∷ twice.after) (were ∙ twice.first)
      (ap (λ (l : List Token). taken ++ l) (sym twice.first) ∙ parts) twice.begins in
      at_token _ _ _ _ _ here goes.begins.json (goes.begins.allowed.names twice.wanted) _ goes.is_beginner goes.begins.begins
      (none_again _ _ _ _ _ here twice.twice (no_string twice.name twice.after twice.first) (lex between (drop last text)) refl)

  pub stops_at_lexeme : (stop : Stop) → TextStopsWriting depth unique in_flow (tokens text) before was stop now → IsOffset text last stop at
      → StopsAtLexeme depth text at stop
  stops_at_lexeme (stops.NotJson At) so is =
      subst (CannotStandAt IsAny text) (sym is) (at_itself IsAny so.taken so.left so.were so.parts so.why.begins so.place.0 tt so.place.1
      (λ json allow e. no_value so.left so.taken so.why.breaks json e)
      (λ x u left_is json allow begins. subst (NoneGoesOn so.taken) left_is so.why.breaks (json, begins)))
  stops_at_lexeme (stops.NotJson PastString) so is = past_other so.taken so.left so.were so.parts so.why so.place is
  stops_at_lexeme (stops.NotJson PastValue) so is =
      past_whole so.taken so.left so.were.0 so.were.1.0 so.were.1.1.0 so.were.1.1.1 so.parts so.place.0.0 so.place.0.1 so.place.1 is
  stops_at_lexeme stops.TooDeep so is =
      subst (CannotStandAt (IsWithinDepth depth) text) (sym is) (too_deep so.taken so.left so.were so.parts so.why so.place.0 so.place.1)
  stops_at_lexeme stops.NameAgain so is =
      subst (CannotStandAt HasUniqueKeys text) (sym is) (again so.taken so.left so.were so.parts so.why so.place.0 so.place.1)
  stops_at_lexeme _ so is = tt
