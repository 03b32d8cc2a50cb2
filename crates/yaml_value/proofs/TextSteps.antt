-- The text that a walk over a value has left to write, and what each step writes of it.
use Rattle.yaml_value.proofs.Common.{ℕ, ◌+◌, Some, codes, length, take, Bool, false, true, ◌&&◌, List, [], ◌++◌, ◌∷◌, refl, ◌≡◌, append_assoc, ap, subst, sym, ◌∙◌}
use Rattle.yaml_value.proofs.Common.{arith, Text, TypedValue, list_value, map_value, TypedValues, no_values}
use Rattle.yaml_value.proofs.Common.{values_and, TypedPairs, no_value_pairs, value_pairs_and, value_node, value_nodes, value_pairs, list_all}
use Rattle.yaml_value.proofs.Common.{OnOk, Result}
use Rattle.yaml_base.proofs.Common.{append-nil, length-append, Option, and-true, and-false, nat_lt, list_all-append, replicate, suc, zero}
use Rattle.yaml_base.proofs.Common.{space, line_feed, utf8, ◌-◌}
use Rattle.std.proofs.{lemmas.List.replicate_more, lemmas.Str.encodes-IsAscii, Math.Seq.take-append_seam}
use Rattle.yaml_base.proofs.{AsciiWords.ascii_of, Decoding.text_bytes-utf8}
use Rattle.yaml_base.specs.Encoding.{text_bytes}
use Rattle.yaml_base.specs.graphs.DumpedText.{dumped_text, node_text, nodes_text, node_pairs_text}
use Rattle.yaml_base.specs.graphs.DumpedText.{in_quotes, line_at}
use Rattle.std.proofs.lemmas.Result.{on_ok_weaker}
use Rattle.std.specs.Prelude.{IfOk}
use Rattle.yaml_pen.proofs.Adding.{text_bytes-append}
use Rattle.yaml_value.specs.Walk.{Left, Next, item_next, key_next, next_after, items_in, values_in, entered, stepped}
use Rattle.yaml_value.specs.WalkTexts.{opening_text, opens, comma_text, entry_mark, lead_text, closing_text, end_text, indented, outdented, step_bytes, line_if}
use Rattle.yaml_value.specs.WalkTexts.{line_after, step_opens, IsOfProgram, StepIsOfProgram, HoldsOfProgram}
use Rattle.yaml_value.proofs.WalkLemmas.{LeftOfProgram, holds_entered, holds_by}

-- ---- the entries of one bracket

-- the entries that are left, and the end
abbrev pub rest_text : (column : ℕ) → Next → (opened : Bool) → List TypedValue → Text
rest_text column next opened [] = end_text (line_at column) next opened
rest_text column next opened (value ∷ values) =
    lead_text (line_at (column + 2)) next opened ++ (node_text (column + 2) (value_node value) ++ rest_text column (next_after next) false values)

-- the same after the comma of the entry before
abbrev body_text : (column : ℕ) → Next → List TypedValue → Text
body_text column next [] = line_at column ++ closing_text next
body_text column next (value ∷ values) =
    lead_text (line_at (column + 2)) next true ++ (node_text (column + 2) (value_node value) ++ rest_text column (next_after next) false values)

comma_item : (column : ℕ) (values : List TypedValue) → rest_text column item_next false values ≡ codes "," ++ body_text column item_next values
comma_item column values = grind arith

comma_pair : (column : ℕ) (values : List TypedValue) → rest_text column key_next false values ≡ codes "," ++ body_text column key_next values
comma_pair column values = grind arith

-- no comma precedes the first of some entries
filled : (column : ℕ) (next : Next) (before : List TypedValue) (value : TypedValue) (after : List TypedValue)
    → rest_text column next true (before ++ value ∷ after) ≡ body_text column next (before ++ value ∷ after)
filled column next [] value after = refl
filled column next (first ∷ before) value after = refl

regroup_item : (a line node body : Text) → a ++ ((line ++ []) ++ (node ++ (codes "," ++ body))) ≡ (a ++ (line ++ (node ++ codes ","))) ++ body
regroup_item a line node body = simp (append_assoc, append-nil)

regroup_pair : (a line key value body : Text)
    → a ++ ((line ++ codes "? ") ++ (key ++ ((line ++ codes ": ") ++ (value ++ (codes "," ++ body)))))
    ≡ (a ++ (line ++ (codes "? " ++ (key ++ (line ++ (codes ": " ++ (value ++ codes ","))))))) ++ body
regroup_pair a line key value body = simp append_assoc

items_body : (items : TypedValues) (column : ℕ) (tail : List TypedValue)
    → body_text column item_next (items_in items ++ tail) ≡ nodes_text (column + 2) (value_nodes items) ++ body_text column item_next tail
items_body no_values column tail = refl
items_body (values_and items item) column tail =
    let nodes = nodes_text (column + 2) (value_nodes items) in
    let line = line_at (column + 2) in
    let node = node_text (column + 2) (value_node item) in
    ap (body_text column item_next) (append_assoc (items_in items) (item ∷ []) tail)
    ∙ items_body items column (item ∷ tail)
    ∙ ap (λ t. nodes ++ ((line ++ []) ++ (node ++ t))) (comma_item column tail)
    ∙ regroup_item nodes line node (body_text column item_next tail)

pairs_body : (pairs : TypedPairs) (column : ℕ) (tail : List TypedValue)
    → body_text column key_next (values_in pairs ++ tail) ≡ node_pairs_text (column + 2) (value_pairs pairs) ++ body_text column key_next tail
pairs_body no_value_pairs column tail = refl
pairs_body (value_pairs_and pairs key value) column tail =
    let nodes = node_pairs_text (column + 2) (value_pairs pairs) in
    let line = line_at (column + 2) in
    let first = node_text (column + 2) (value_node key) in
    let second = node_text (column + 2) (value_node value) in
    ap (body_text column key_next) (append_assoc (values_in pairs) (key ∷ value ∷ []) tail)
    ∙ pairs_body pairs column (key ∷ value ∷ tail)
    ∙ ap (λ t. nodes ++ ((line ++ codes "? ") ++ (first ++ ((line ++ codes ": ") ++ (second ++ t))))) (comma_pair column tail)
    ∙ regroup_pair nodes line first second (body_text column key_next tail)

-- a list and a map: their beginning, and what is left then
list_text : (items : TypedValues) (column : ℕ)
    → codes "!!seq [" ++ rest_text column item_next true (items_in items) ≡ node_text column (value_node (list_value items))
list_text no_values column = refl
list_text (values_and items item) column =
    ap (λ t. codes "!!seq [" ++ t)
    (filled column item_next (items_in items) item []
    ∙ ap (body_text column item_next) (sym (append-nil (items_in items ++ item ∷ [])))
    ∙ items_body (values_and items item) column [])

map_text : (pairs : TypedPairs) (column : ℕ)
    → codes "!!map {" ++ rest_text column key_next true (values_in pairs) ≡ node_text column (value_node (map_value pairs))
map_text no_value_pairs column = refl
map_text (value_pairs_and pairs key value) column =
    ap (λ t. codes "!!map {" ++ t)
    (filled column key_next (values_in pairs) key (value ∷ [])
    ∙ ap (body_text column key_next) (sym (append-nil (values_in pairs ++ key ∷ value ∷ [])))
    ∙ pairs_body (value_pairs_and pairs key value) column [])

-- ---- the brackets that are open

abbrev is_none : List Left → Bool
is_none [] = true
is_none (left ∷ inner) = false

-- the text of what is left, that of the innermost bracket first; nothing may be in that yet
abbrev pub left_text : (opened : Bool) → (column : ℕ) → List Left → Text
left_text opened column [] = []
left_text opened column (left ∷ inner) = left_text opened (column + 2) inner ++ rest_text column left.next (opened && is_none inner) left.values

-- the column of entries that are in no other bracket than these
abbrev pub column_in : ℕ → List Left → ℕ
column_in column [] = column
column_in column (left ∷ inner) = column_in (column + 2) inner

column_in-append : (column : ℕ) (outer inner : List Left) → column_in column (outer ++ inner) ≡ column_in (column_in column outer) inner
column_in-append column [] inner = refl
column_in-append column (left ∷ outer) inner = column_in-append (column + 2) outer inner

some_inside : (outer : List Left) (left : Left) (inner : List Left) → is_none (outer ++ left ∷ inner) ≡ false
some_inside [] left inner = refl
some_inside (first ∷ outer) left inner = refl

regroup_levels : (a b c d : Text) → (a ++ (b ++ c)) ++ d ≡ a ++ (b ++ (c ++ d))
regroup_levels a b c d = simp append_assoc

left_text-append : (opened : Bool) (column : ℕ) (outer : List Left) (left : Left) (inner : List Left)
    → left_text opened column (outer ++ left ∷ inner)
    ≡ left_text opened (column_in column outer + 2) inner
    ++ (rest_text (column_in column outer) left.next (opened && is_none inner) left.values ++ left_text false column outer)
left_text-append opened column [] left inner =
    ap (λ t. left_text opened (column + 2) inner ++ t) (sym (append-nil (rest_text column left.next (opened && is_none inner) left.values)))
left_text-append opened column (first ∷ outer) left inner =
    ap (λ t. t ++ rest_text column first.next (opened && is_none (outer ++ left ∷ inner)) first.values)
    (left_text-append opened (column + 2) outer left inner)
    ∙ ap
    (λ b. (left_text opened (column_in (column + 2) outer + 2) inner
    ++ (rest_text (column_in (column + 2) outer) left.next (opened && is_none inner) left.values ++ left_text false (column + 2) outer))
    ++ rest_text column first.next b first.values)
    (ap (λ b. opened && b) (some_inside outer left inner) ∙ and-false opened)
    ∙ regroup_levels (left_text opened (column_in (column + 2) outer + 2) inner)
    (rest_text (column_in (column + 2) outer) left.next (opened && is_none inner) left.values) (left_text false (column + 2) outer)
    (rest_text column first.next false first.values)

-- a value: its beginning, and what it leaves
opening_then : (value : TypedValue) (column : ℕ)
    → opening_text value ++ left_text (opens value) column (entered value) ≡ node_text column (value_node value)
opening_then (list_value items) column = list_text items column
opening_then (map_value pairs) column = map_text pairs column
opening_then value column = append-nil (opening_text value)

not_in : (value : TypedValue) → (opens value && is_none (entered value)) ≡ false
not_in value = grind arith

-- ---- bytes

abbrev is_low : ℕ → Bool
is_low b = nat_lt b 128

-- ASCII is its bytes
pub low_bytes : (text : Text) → list_all is_low text ≡ true → text ≡ text_bytes utf8 text
low_bytes text low = sym (text_bytes-utf8 text ∙ encodes-IsAscii text (ascii_of text low))

spaces_low : (count : ℕ) → list_all is_low (replicate count space) ≡ true
spaces_low zero = refl
spaces_low (suc count) = spaces_low count

line_low : (column : ℕ) → list_all is_low (line_at column) ≡ true
line_low column = spaces_low column

comma_low : (next : Next) (opened : Bool) → list_all is_low (comma_text next opened) ≡ true
comma_low next opened = grind arith

mark_low : (next : Next) → list_all is_low (entry_mark next) ≡ true
mark_low next = grind arith

closing_low : (next : Next) → list_all is_low (closing_text next) ≡ true
closing_low next = grind arith

lead_low : (column : ℕ) (next : Next) (opened : Bool) → list_all is_low (lead_text (line_at column) next opened) ≡ true
lead_low column next opened = grind (arith, list_all-append, comma_low, line_low, mark_low)

end_low : (column : ℕ) (next : Next) (opened : Bool) → list_all is_low (end_text (line_at column) next opened) ≡ true
end_low column next opened = grind (arith, list_all-append, line_low, closing_low)

-- ---- the line of an entry

indented_is : (column : ℕ) → indented (line_at column) ≡ line_at (column + 2)
indented_is column =
    ap (λ t. line_feed ∷ t)
    (sym (append_assoc (replicate column space) (space ∷ []) (space ∷ []))
    ∙ ap (λ t. t ++ space ∷ []) (replicate_more column space)
    ∙ replicate_more (column + 1) space
    ∙ ap (λ n. replicate n space) (omega arith))

outdented_is : (column : ℕ) → outdented (line_at (column + 2)) ≡ line_at column
outdented_is column =
    let two = space ∷ space ∷ [] in
    let cut : length (line_at column ++ two) - 2 ≡ length (line_at column) = omega (arith, length-append (line_at column) two) in
    ap outdented (sym (indented_is column))
    ∙ ap (λ n. take n (line_at column ++ two)) cut
    ∙ take-append_seam (line_at column) two

line_entered : (value : TypedValue) (column : ℕ) → line_if (opens value) (line_at column) ≡ line_at (column_in column (entered value))
line_entered value column = grind (arith, indented_is)

-- ---- steps

-- the text of a step, and what is left after it
abbrev step_goal : (column : ℕ) → List Left → Next → Bool → List TypedValue → Option TypedValue × List Left → Type 0
step_goal column outer next opened values made =
    step_bytes (line_at (column + 2)) next opened made.0 ++ text_bytes utf8 (left_text (step_opens made.0) 0 made.1)
    ≡ text_bytes utf8 (left_text opened 0 (outer ++ record { values = values; next = next } ∷ []))

regroup_step : (lead opening inner rest outer node : Text) → opening ++ inner ≡ node
    → lead ++ (opening ++ (inner ++ (rest ++ outer))) ≡ (lead ++ (node ++ rest)) ++ outer
regroup_step lead opening inner rest outer node is =
    ap (λ t. lead ++ t) (sym (append_assoc opening inner (rest ++ outer)) ∙ ap (λ t. t ++ (rest ++ outer)) is ∙ sym (append_assoc node rest outer))
    ∙ sym (append_assoc lead (node ++ rest) outer)

step_text : (outer : List Left) (values : List TypedValue) (next : Next) (opened : Bool)
    → step_goal (column_in 0 outer) outer next opened values (stepped outer (record { values = values; next = next }))
step_text outer [] next opened =
    let column = column_in 0 outer in
    ap (λ line. end_text line next opened ++ text_bytes utf8 (left_text false 0 outer)) (outdented_is column)
    ∙ ap (λ t. t ++ text_bytes utf8 (left_text false 0 outer)) (low_bytes (end_text (line_at column) next opened) (end_low column next opened))
    ∙ sym (text_bytes-append utf8 (end_text (line_at column) next opened) (left_text false 0 outer))
    ∙ ap (λ b. text_bytes utf8 (end_text (line_at column) next b ++ left_text false 0 outer)) (sym (and-true opened))
    ∙ ap (text_bytes utf8) (sym (left_text-append opened 0 outer (record { values = []; next = next }) []))
step_text outer (value ∷ values) next opened =
    let column = column_in 0 outer in
    let lead = lead_text (line_at (column + 2)) next opened in
    let rest = rest_text column (next_after next) false values in
    let inner = left_text (opens value) (column + 2) (entered value) in
    let out = left_text false 0 outer in
    let after = left_text (opens value) 0 (outer ++ record { values = values; next = next_after next } ∷ entered value) in
    let after_is : after ≡ inner ++ (rest ++ out) =
    left_text-append (opens value) 0 outer (record { values = values; next = next_after next }) (entered value)
    ∙ ap (λ b. inner ++ (rest_text column (next_after next) b values ++ out)) (not_in value) in
    ap (λ t. (t ++ text_bytes utf8 (opening_text value)) ++ text_bytes utf8 after) (low_bytes lead (lead_low (column + 2) next opened))
    ∙ append_assoc (text_bytes utf8 lead) (text_bytes utf8 (opening_text value)) (text_bytes utf8 after)
    ∙ ap (λ t. text_bytes utf8 lead ++ t) (sym (text_bytes-append utf8 (opening_text value) after))
    ∙ sym (text_bytes-append utf8 lead (opening_text value ++ after))
    ∙ ap (λ t. text_bytes utf8 (lead ++ (opening_text value ++ t))) after_is
    ∙ ap (text_bytes utf8) (regroup_step lead (opening_text value) inner rest out (node_text (column + 2) (value_node value)) (opening_then value (column + 2)))
    ∙ ap (λ b. text_bytes utf8 (rest_text column next b (value ∷ values) ++ out)) (sym (and-true opened))
    ∙ ap (text_bytes utf8) (sym (left_text-append opened 0 outer (record { values = value ∷ values; next = next }) []))

step_line : (outer : List Left) (values : List TypedValue) (next : Next)
    → line_after (line_at (column_in 0 outer + 2)) (stepped outer (record { values = values; next = next })).0
    ≡ line_at (column_in 0 (stepped outer (record { values = values; next = next })).1)
step_line outer [] next = outdented_is (column_in 0 outer)
step_line outer (value ∷ values) next =
    line_entered value (column_in 0 outer + 2)
    ∙ ap line_at (sym (column_in-append 0 outer (record { values = values; next = next_after next } ∷ entered value)))

-- some of a value is written after the bytes before, and the walk has this left
pub record Writes (before : List ℕ) (value : TypedValue) (bytes line : List ℕ) (opened : Bool) (levels : List Left) : Type 0 where
  pub text : bytes ++ text_bytes utf8 (left_text opened 0 levels) ≡ before ++ text_bytes utf8 (node_text 0 (value_node value))
  pub line_is : line ≡ line_at (column_in 0 levels)
  pub holds : LeftOfProgram levels → HoldsOfProgram value

-- a value was just entered
pub writes_first : (before bytes line : List ℕ) (value : TypedValue) (opened : Bool) (levels : List Left) → levels ≡ entered value
    → bytes ≡ before ++ text_bytes utf8 (opening_text value) → line ≡ line_if (opens value) (line_at 0) → opened ≡ opens value → IsOfProgram value
    → Writes before value bytes line opened levels
writes_first before bytes line value opened levels is written indents opens_it own = record {
  text =
      ap (λ levels. bytes ++ text_bytes utf8 (left_text opened 0 levels)) is
      ∙ ap (λ b. bytes ++ text_bytes utf8 (left_text b 0 (entered value))) opens_it
      ∙ ap (λ t. t ++ text_bytes utf8 (left_text (opens value) 0 (entered value))) written
      ∙ append_assoc before (text_bytes utf8 (opening_text value)) (text_bytes utf8 (left_text (opens value) 0 (entered value)))
      ∙ ap (λ t. before ++ t) (sym (text_bytes-append utf8 (opening_text value) (left_text (opens value) 0 (entered value)))
      ∙ ap (text_bytes utf8) (opening_then value 0));
  line_is = indents ∙ line_entered value 0 ∙ ap (λ levels. line_at (column_in 0 levels)) (sym is);
  holds = λ left. holds_entered value own (subst LeftOfProgram is left);
}

-- after a step
pub writes_more : (before bytes more line moved : List ℕ) (value : TypedValue) (opened next_opened : Bool) (levels outer : List Left) (left : Left)
    (next : Option TypedValue) (after : List Left)
    → levels ≡ outer ++ left ∷ [] → (next, after) ≡ stepped outer left → more ≡ bytes ++ step_bytes line left.next opened next
    → moved ≡ line_after line next → next_opened ≡ step_opens next → StepIsOfProgram next
    → Writes before value bytes line opened levels → Writes before value more moved next_opened after
writes_more before bytes more line moved value opened next_opened levels outer left next after is so written moves opens_it own writes =
    let line_is : line ≡ line_at (column_in 0 outer + 2) =
    writes.line_is ∙ ap (λ levels. line_at (column_in 0 levels)) is ∙ ap line_at (column_in-append 0 outer (left ∷ [])) in
    record {
      text =
          ap (λ b. more ++ text_bytes utf8 (left_text b 0 after)) opens_it
          ∙ ap (λ t. t ++ text_bytes utf8 (left_text (step_opens next) 0 after)) written
          ∙ append_assoc bytes (step_bytes line left.next opened next) (text_bytes utf8 (left_text (step_opens next) 0 after))
          ∙ ap (λ t. bytes ++ t)
          (ap (λ line. step_bytes line left.next opened next ++ text_bytes utf8 (left_text (step_opens next) 0 after)) line_is
          ∙ ap (λ (made : Option TypedValue × List Left). step_bytes (line_at (column_in 0 outer + 2)) left.next opened made.0
          ++ text_bytes utf8 (left_text (step_opens made.0) 0 made.1)) so
          ∙ step_text outer left.values left.next opened)
          ∙ ap (λ levels. bytes ++ text_bytes utf8 (left_text opened 0 levels)) (sym is)
          ∙ writes.text;
      line_is =
          moves ∙ ap (λ line. line_after line next) line_is
          ∙ ap (λ (made : Option TypedValue × List Left). line_after (line_at (column_in 0 outer + 2)) made.0) so
          ∙ step_line outer left.values left.next
          ∙ ap (λ (made : Option TypedValue × List Left). line_at (column_in 0 made.1)) (sym so);
      holds = λ inside. writes.holds (subst LeftOfProgram (sym is)
          (subst (λ (made : Option TypedValue × List Left). StepIsOfProgram made.0 → LeftOfProgram made.1 → LeftOfProgram (outer ++ left ∷ [])) (sym so)
          (holds_by outer left.values left.next) own inside));
    }

-- all is written
pub writes_all : (before bytes line : List ℕ) (value : TypedValue) (opened : Bool) (levels : List Left) → levels ≡ []
    → Writes before value bytes line opened levels
    → (bytes ≡ before ++ text_bytes utf8 (node_text 0 (value_node value))) × HoldsOfProgram value
writes_all before bytes line value opened levels none writes = (
  sym (append-nil bytes) ∙ ap (λ levels. bytes ++ text_bytes utf8 (left_text opened 0 levels)) (sym none) ∙ writes.text,
  writes.holds (subst LeftOfProgram (sym none) tt),
)

-- ---- parts that are written

always : {T E P : Type 0} (answer : Result T E) → P → OnOk answer P
always answer is = grind arith

-- a flag that is told is another that is equal
pub told_weaker : {E : Type 0} (answer : Result Bool E) (a b : Bool) → a ≡ b → IfOk answer (λ told. told ≡ a) → IfOk answer (λ told. told ≡ b)
told_weaker answer a b same is = grind arith

-- a scalar after its tag
pub scalar_written : {T E : Type 0} (answer : Result T E) (old new : List ℕ) (tag found text : Text) → list_all is_low tag ≡ true → found ≡ text
    → OnOk answer (new ≡ old ++ (tag ++ text_bytes utf8 (in_quotes found)))
    → OnOk answer (new ≡ old ++ text_bytes utf8 (tag ++ in_quotes text))
scalar_written answer old new tag found text low same =
    on_ok_weaker answer
    (λ is. is ∙ ap (λ t. old ++ (tag ++ text_bytes utf8 (in_quotes t))) same
    ∙ ap (λ t. old ++ (t ++ text_bytes utf8 (in_quotes text))) (low_bytes tag low)
    ∙ ap (λ t. old ++ t) (sym (text_bytes-append utf8 tag (in_quotes text))))

-- a value in a bracket
pub value_written : {T E : Type 0} (answer : Result T E) (old first new line : List ℕ) (next : Next) (opened : Bool) (entered : Option TypedValue)
    (value : TypedValue) → entered ≡ Some value → first ≡ old ++ lead_text line next opened → new ≡ first ++ text_bytes utf8 (opening_text value)
    → OnOk answer (new ≡ old ++ step_bytes line next opened entered)
value_written answer old first new line next opened entered value is lead opening =
    always answer
    (opening ∙ ap (λ t. t ++ text_bytes utf8 (opening_text value)) lead
    ∙ append_assoc old (lead_text line next opened) (text_bytes utf8 (opening_text value))
    ∙ ap (λ entered. old ++ step_bytes line next opened entered) (sym is))

-- a document
pub document_written : (none first second last : List ℕ) (value : TypedValue) → none ≡ [] → first ≡ none ++ codes "---\n"
    → second ≡ first ++ text_bytes utf8 (node_text 0 (value_node value)) → last ≡ second ++ codes "\n"
    → last ≡ text_bytes utf8 (dumped_text (value_node value))
document_written none first second last value empty one two three =
    let node = node_text 0 (value_node value) in
    three ∙ ap (λ t. t ++ codes "\n") (two ∙ ap (λ t. t ++ text_bytes utf8 node) (one ∙ ap (λ t. t ++ codes "---\n") empty))
    ∙ append_assoc (codes "---\n") (text_bytes utf8 node) (codes "\n")
    ∙ ap (λ t. t ++ (text_bytes utf8 node ++ codes "\n")) (low_bytes (codes "---\n") refl)
    ∙ ap (λ t. text_bytes utf8 (codes "---\n") ++ (text_bytes utf8 node ++ t)) (low_bytes (codes "\n") refl)
    ∙ ap (λ t. text_bytes utf8 (codes "---\n") ++ t) (sym (text_bytes-append utf8 node (line_feed ∷ [])))
    ∙ sym (text_bytes-append utf8 (codes "---\n") (node ++ line_feed ∷ []))
