-- Texts with their values, and the events of these.
use Rattle.std.{proofs.lemmas.List.Elements.All-head, proofs.lemmas.List.Elements.All-tail, specs.List.All}
use Rattle.std.proofs.Common.{ℕ, Option, Some, List, [], ◌∷◌, ◌++◌, map, Bool, ◌≡◌, refl, ap, sym, ◌∙◌, append-nil, append_assoc, unwrap_or}
use Rattle.yaml_base.proofs.Common.{Event}
use Rattle.json.specs.{Json.Json, Json.value, Lex.tokens, Token.Token}
use Rattle.yaml_writer.specs.WasGiven.{between}
use Rattle.yaml_json.specs.{Failing.events_with_separators, JsonEvents.json_events, Wrote.AreJson, Wrote.parts_events}
use Rattle.yaml_json.specs.Refused.{HasNamesOnce, HaveNamesOnce}

-- ---- texts and their values

pub first_same : (text next : List ℕ) (texts later : List (List ℕ)) → text ∷ texts ≡ next ∷ later → text ≡ next
first_same text next texts later is = cc

others_same : (text next : List ℕ) (texts later : List (List ℕ)) → text ∷ texts ≡ next ∷ later → texts ≡ later
others_same text next texts later is = cc

value_same : (a b : Json) → ◌≡◌ {A = Option (Json × List Token)} (Some (a, [])) (Some (b, [])) → a ≡ b
value_same a b is = ap (λ (o : Option (Json × List Token)). (unwrap_or o (a, [])).0) is

-- The first of some texts have the same values wherever they are.
pub same_parts : (depth : ℕ) (parts : List (List ℕ × Json)) (texts : List (List ℕ)) (whole : List (List ℕ × Json)) → AreJson depth parts → AreJson depth whole
    → map (λ part. part.0) parts ++ texts ≡ map (λ part. part.0) whole
    → (rest : List (List ℕ × Json)) × (parts ++ rest ≡ whole) × (map (λ part. part.0) rest ≡ texts) × AreJson depth rest
same_parts depth [] texts whole each all is = (whole, refl, sym is, all)
same_parts depth (part ∷ parts) texts [] each all is = absurd (cc)
same_parts depth (part ∷ parts) texts (one ∷ whole) each all is =
    let name : part.0 ≡ one.0 = first_same part.0 one.0 (map (λ p. p.0) parts ++ texts) (map (λ p. p.0) whole) is in
    let later = others_same part.0 one.0 (map (λ p. p.0) parts ++ texts) (map (λ p. p.0) whole) is in
    let json : part.1 ≡ one.1 = value_same part.1 one.1 (sym each.0 ∙ ap (λ (t : List ℕ). value depth (tokens t)) name ∙ all.0) in
    let same : part ≡ one = ap (λ (t : List ℕ). (t, part.1)) name ∙ ap (λ (j : Json). (one.0, j)) json in
    let (rest, are, others, good) = same_parts depth parts texts whole each.1 all.1 later in
    (rest, ap (λ (p : List ℕ × Json). p ∷ (parts ++ rest)) same ∙ ap (λ (ps : List (List ℕ × Json)). one ∷ ps) are, others, good)

pub names_once : (unique : Bool) (before : List (List ℕ)) (next : List ℕ) (later : List (List ℕ)) → HaveNamesOnce unique (before ++ next ∷ later)
    → HasNamesOnce unique next
names_once unique [] next later names = names.0
names_once unique (text ∷ before) next later names = names_once unique before next later names.1

-- What holds of each of some holds of one of them.
pub all_at : {X : Type 0} (P : X → Type 0) (front : List X) (one : X) (later : List X) → All P (front ++ one ∷ later) → P one
all_at P [] one later all = All-head P one later all
all_at P (first ∷ front) one later all = all_at P front one later (All-tail P first (front ++ one ∷ later) all)

-- ---- their events

module _ (canonical in_flow : Bool) where
  pub parts_begin : (before : List (List ℕ × Json)) (next : List ℕ × Json) (later : List (List ℕ × Json))
      → events_with_separators canonical in_flow before ++ parts_events canonical in_flow (next ∷ later)
      ≡ parts_events canonical in_flow (before ++ next ∷ later)
  parts_begin [] next later = refl
  parts_begin (part ∷ []) next later =
      let rest = parts_events canonical in_flow (next ∷ later) in
      ap (λ (events : List Event). events ++ rest) (append-nil (json_events canonical in_flow part.1 ++ between))
      ∙ append_assoc (json_events canonical in_flow part.1) between rest
  parts_begin (part ∷ second ∷ before) next later =
      let rest = parts_events canonical in_flow (next ∷ later) in
      let some = events_with_separators canonical in_flow (second ∷ before) in
      append_assoc (json_events canonical in_flow part.1 ++ between) some rest ∙ append_assoc (json_events canonical in_flow part.1) between (some ++ rest)
      ∙ ap (λ (events : List Event). json_events canonical in_flow part.1 ++ (between ++ events)) (parts_begin (second ∷ before) next later)

  pub next_begins : (next : List ℕ × Json) (later : List (List ℕ × Json))
      → (more : List Event) × (json_events canonical in_flow next.1 ++ more ≡ parts_events canonical in_flow (next ∷ later))
  next_begins next [] = ([], append-nil (json_events canonical in_flow next.1))
  next_begins next (second ∷ later) = (between ++ parts_events canonical in_flow (second ∷ later), refl)

  -- and a document after them
  pub with_between : (first : List ℕ × Json) (rest : List (List ℕ × Json))
      → parts_events canonical in_flow (first ∷ rest) ++ between ≡ events_with_separators canonical in_flow (first ∷ rest)
  with_between first [] = sym (append-nil (json_events canonical in_flow first.1 ++ between))
  with_between first (second ∷ rest) =
      let json = json_events canonical in_flow first.1 in
      let later = parts_events canonical in_flow (second ∷ rest) in
      append_assoc json (between ++ later) between ∙ ap (λ (events : List Event). json ++ (between ++ events)) (with_between second rest)
      ∙ sym (append_assoc json between (events_with_separators canonical in_flow (second ∷ rest)))

pub regroup : (a b t l m z : List Event) → (a ++ (b ++ t)) ++ (l ++ (m ++ z)) ≡ ((a ++ b) ++ ((t ++ l) ++ m)) ++ z
regroup a b t l m z = simp append_assoc
