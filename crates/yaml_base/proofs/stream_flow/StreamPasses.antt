-- Indicators and white space in flow, which take the reader of flow collections on whatever follows them.
use Rattle.yaml_base.proofs.Common.{nat_tests}
use Rattle.yaml_base.proofs.Common.{or_from, or_parts}
use Rattle.yaml_base.proofs.Common.{arith, suc, zero, ℕ, ◌==◌, Option, codes, replicate, Bool, false, true, ◌||◌, List, [], ◌++◌, ◌∷◌, refl, ◌≡◌, eqb-true}
use Rattle.yaml_base.proofs.Common.{true≢false, append_assoc, ◌∙◌, and_parts, and_from, false≢true, list_all-append, list_all, Text, line_feed, space, Cursor}
use Rattle.yaml_base.proofs.Common.{render_then, new_line, space_if, indicator, flow_break, Effective, OpenFlow, at_once, after_white, entry_awaited}
use Rattle.yaml_base.proofs.Common.{node_awaited, comma_awaited, colon_awaited, FlowReading, within, flow_step, Rules, symbol, blank, line_end, free}
use Rattle.yaml_base.proofs.stream_flow.{StreamTakes.steps, StreamTakes.TakesBytes, StreamWhites.line_feed_class, StreamSays.class_fixed}
use Rattle.yaml_base.proofs.Common.{is_flow_indicator, class_of, flow_tokens, or_cases, inl, inr, subst, sym}

-- a text takes the reader from a reading to another, before anything
pub record Passes (rules : Rules) (from : FlowReading) (text : Text) (to : FlowReading) : Type 0 where
  pub passes : (rest : Text) → steps rules from (flow_tokens rules.breaks12 free (text ++ rest)) ≡ steps rules to (flow_tokens rules.breaks12 free rest)

-- no text
pub passes_nothing : (rules : Rules) (from : FlowReading) → Passes rules from [] from
passes_nothing rules from = record { passes = λ rest. refl }

-- one such text after another
pub passes_both : {rules : Rules} {from through to : FlowReading} {a b : Text} → Passes rules from a through → Passes rules through b to
    → Passes rules from (a ++ b) to
passes_both one two = grind (arith, append_assoc)

-- and then one that takes it on before a text that ends a word
pub passes_then : {rules : Rules} {from through to : FlowReading} {a b : Text} → Passes rules from a through → TakesBytes rules through b to
    → TakesBytes rules from (a ++ b) to
passes_then one two = grind (arith, append_assoc)

-- equal texts take the reader to equal places
pub takes_text : {rules : Rules} {from to : FlowReading} {a b : Text} → a ≡ b → TakesBytes rules from b to → TakesBytes rules from a to
takes_text e one = grind (arith)

-- One character

passes_indicator : (rules : Rules) (from to : FlowReading) (c : ℕ) → class_of rules.breaks12 c ≡ is_flow_indicator → flow_step rules from (symbol c) ≡ to
    → Passes rules from (c ∷ []) to
passes_indicator rules from to c e step = grind (arith)

passes_space : (rules : Rules) (from to : FlowReading) → flow_step rules from blank ≡ to → Passes rules from (space ∷ []) to
passes_space rules from to step = grind (arith, class_fixed)

passes_line_feed : (rules : Rules) (from to : FlowReading) → flow_step rules from line_end ≡ to → Passes rules from (line_feed ∷ []) to
passes_line_feed rules from to step = grind (arith, line_feed_class)

-- a comma after an entry
pub passes_comma : (rules : Rules) (levels : List OpenFlow) → Passes rules (within levels comma_awaited) (0x2C ∷ []) (within levels entry_awaited)
passes_comma rules levels = passes_indicator rules (within levels comma_awaited) (within levels entry_awaited) 0x2C (class_fixed rules.breaks12 0x2C refl) refl

-- a `:` at once
pub passes_colon : (rules : Rules) (levels : List OpenFlow)
    → Passes rules (within levels (colon_awaited at_once)) (0x3A ∷ []) (within levels (node_awaited false))
passes_colon rules levels = passes_indicator rules (within levels (colon_awaited at_once)) (within levels (node_awaited false)) 0x3A
    (class_fixed rules.breaks12 0x3A refl) refl

-- a `:` after something white
pub passes_late_colon : (rules : Rules) (levels : List OpenFlow)
    → Passes rules (within levels (colon_awaited (after_white true))) (0x3A ∷ []) (within levels (node_awaited false))
passes_late_colon rules levels = grind (arith, nat_tests, passes_indicator, class_fixed)

-- a `?` if a key may come
pub passes_question : (rules : Rules) (levels : List OpenFlow) (to : FlowReading) → flow_step rules (within levels entry_awaited) (symbol 0x3F) ≡ to
    → Passes rules (within levels entry_awaited) (0x3F ∷ []) to
passes_question rules levels to step = passes_indicator rules (within levels entry_awaited) to 0x3F (class_fixed rules.breaks12 0x3F refl) step

-- the space between `?` or `:` and a node
pub passes_node_space : (rules : Rules) (levels : List OpenFlow)
    → Passes rules (within levels (node_awaited false)) (space ∷ []) (within levels (node_awaited true))
passes_node_space rules levels = passes_space rules (within levels (node_awaited false)) (within levels (node_awaited true)) refl

-- White space

-- a text of spaces and LF
abbrev pub is_white_text : Text → Bool
is_white_text text = list_all (λ c. c == space || c == line_feed) text

-- a fact about a space and about a line feed holds for a character that is either
pub white_either : (P : ℕ → Type 0) (c : ℕ) → P space → P line_feed → (c == space || c == line_feed) ≡ true → P c
white_either P c a b h =
    elim (or_cases (c == space) (c == line_feed) h) [ inl e ↦ subst P (sym (eqb-true c space e)) a | inr e ↦ subst P (sym (eqb-true c line_feed e)) b ]

-- so either passes if both do
white_passes_one : (rules : Rules) (from to : FlowReading) (c : ℕ) → flow_step rules from blank ≡ to → flow_step rules from line_end ≡ to
    → (c == space || c == line_feed) ≡ true → Passes rules from (c ∷ []) to
white_passes_one rules from to c one two h =
    white_either (λ d. Passes rules from (d ∷ []) to) c (passes_space rules from to one) (passes_line_feed rules from to two) h

-- if a space and an LF have the same effect, they have it in any order
white_passes : (rules : Rules) (reading : FlowReading) (text : Text) → flow_step rules reading blank ≡ reading → flow_step rules reading line_end ≡ reading
    → is_white_text text ≡ true → Passes rules reading text reading
white_passes rules reading [] one two h = passes_nothing rules reading
white_passes rules reading (c ∷ text) one two h =
    grind (arith, and_parts, and_from, or_parts, or_from, passes_both, white_passes_one, white_passes rules reading text one two)

-- white space before an entry
pub passes_entry_white : (rules : Rules) (levels : List OpenFlow) (text : Text) → is_white_text text ≡ true
    → Passes rules (within levels entry_awaited) text (within levels entry_awaited)
passes_entry_white rules levels text h = white_passes rules (within levels entry_awaited) text refl refl h

-- white space before the `:` after a key with `?`
pub passes_colon_white : (rules : Rules) (levels : List OpenFlow) (c : ℕ) (text : Text) → is_white_text (c ∷ text) ≡ true
    → Passes rules (within levels (colon_awaited (after_white false))) (c ∷ text) (within levels (colon_awaited (after_white true)))
passes_colon_white rules levels c text h =
    let parts = and_parts (c == space || c == line_feed) (is_white_text text) h in
    let from = within levels (colon_awaited (after_white false)) in
    let to = within levels (colon_awaited (after_white true)) in
    passes_both (white_passes_one rules from to c refl refl parts.0) (white_passes rules to text refl refl parts.1)

-- The text that the layout puts between

spaces_white : (n : ℕ) → is_white_text (replicate n space) ≡ true
spaces_white zero = refl
spaces_white (suc n) = spaces_white n

-- a new line is white space
pub new_line_white : (at : ℕ) (cursor : Cursor) → is_white_text (new_line at cursor).text ≡ true
new_line_white at cursor = grind (arith, spaces_white)

-- so is a new line that the layout puts into a long line in flow
pub flow_break_white : (s : Effective) (column : Option ℕ) (cursor : Cursor) → is_white_text (flow_break s column cursor).text ≡ true
flow_break_white s column cursor = grind (arith, new_line_white)

-- and the space before a word
pub space_white : (cursor : Cursor) → is_white_text (space_if true cursor) ≡ true
space_white cursor = grind (arith)

-- two white texts
pub white_both : (a b : Text) → is_white_text a ≡ true → is_white_text b ≡ true → is_white_text (a ++ b) ≡ true
white_both a b h k = list_all-append (λ c. c == space || c == line_feed) a b ∙ and_from (is_white_text a) (is_white_text b) h k

-- a text has this one as its first character and white space after it
pub record WhiteThen (text : Text) (c : ℕ) : Type 0 where
  pub first : ℕ
  pub more : Text
  pub whole : text ≡ (first ∷ more) ++ (c ∷ [])
  pub white : is_white_text (first ∷ more) ≡ true

-- after a node the `:` of a long key comes after white space
pub late_colon : (s : Effective) (column : Option ℕ) (cursor : Cursor) → cursor.whitespace ≡ false → cursor.indention ≡ false
    → WhiteThen (render_then (flow_break s column cursor) (indicator (codes ":") true false false)).text 0x3A
late_colon s column cursor white indention = grind (arith, spaces_white, false≢true, true≢false)
