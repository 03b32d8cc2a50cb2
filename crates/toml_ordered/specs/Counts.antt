-- The number of values in a value, itself among them.
use Rattle.std.specs.Prelude.{◌≡◌, ℕ, suc, ◌+◌, ◌≤◌, ◌<◌, List, [], MatchOption, MatchResult, Option, Result, String, sum_by, sum}
use Rattle.std.specs.declared.alloc.Global.{Global}
use Rattle.toml_ordered.specs.declared.tree.Node.{Node, fold-Node}
use Rattle.toml_ordered.specs.declared.tree.Node.TheOpen.{Node-F, Table-F}
use Rattle.toml_ordered.specs.declared.tree.Table.{Table}

-- One level of a table, which itself isn't counted, and of a value, given the counts of the values inside.
abbrev pub count_keys : Table-F ℕ ℕ → ℕ
count_keys t = sum_by (λ e. e.1) t.keys.items

abbrev pub count_level : Node-F ℕ ℕ → ℕ
count_level (Node-F.Text s) = 1
count_level (Node-F.Integer z) = 1
count_level (Node-F.Decimal s) = 1
count_level (Node-F.Infinity negative) = 1
count_level Node-F.NotANumber = 1
count_level (Node-F.Boolean b) = 1
count_level (Node-F.Datetime d) = 1
count_level (Node-F.Array v) = suc (sum v.items)
count_level (Node-F.Table origin keys) = suc keys
count_level (Node-F.Tables done last) = suc (sum done.items + last)

abbrev pub node_count : Node → ℕ
node_count = fold-Node ℕ ℕ count_level count_keys

abbrev pub member_count : String Global × Node × ℕ → ℕ
member_count m = node_count m.1

abbrev pub table_count : Table → ℕ
table_count t = sum_by member_count t.keys.items

-- of an array of tables, the last of which is apart
abbrev pub tables_count : List Node → Table → ℕ
tables_count done last = suc (sum_by node_count done + table_count last)

-- The last of some values, or of the values of some keys, is taken out, and another put into its place.
abbrev pub IsExchanged : {E X : Type 0} (counts : E → ℕ) (count : X → ℕ) (old new : List E) → X → Result X X → Type 0
IsExchanged counts count old new other result = MatchResult result
    (λ inner. (sum_by counts new + count inner ≡ sum_by counts old + count other) × (count inner ≤ sum_by counts old))
    (λ back. (old ≡ []) × (new ≡ []) × (back ≡ other))

-- The last of them is taken out.
abbrev pub IsPopped : {E X : Type 0} (counts : E → ℕ) (count : X → ℕ) (old new : List E) → Option X → Type 0
IsPopped counts count old new result = MatchOption result ((old ≡ []) × (new ≡ [])) (λ inner. sum_by counts new + count inner ≡ sum_by counts old)

-- Of so many values, one inside is taken out, and another put into its place; if there is none inside, there is one in all.
abbrev pub IsEntered : {X : Type 0} (count : X → ℕ) (old new : ℕ) → X → Result X X → Type 0
IsEntered count old new other result = MatchResult result
    (λ inner. (new + count inner ≡ old + count other) × (count inner < old))
    (λ back. (back ≡ other) × (old ≡ 1) × (new ≡ 1))

-- Of so many values, one inside is taken out.
abbrev pub IsLeft : {X : Type 0} (count : X → ℕ) (old new : ℕ) → Option X → Type 0
IsLeft count old new result = MatchOption result ((old ≡ 1) × (new ≡ 1)) (λ inner. new + count inner ≡ old)
