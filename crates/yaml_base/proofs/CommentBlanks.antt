-- A blank line after a text adds nothing to it, unless it is a block scalar that keeps its final breaks.
use Rattle.yaml_base.proofs.Common.{zero, suc, append-nil}
use Rattle.yaml_base.proofs.Common.{ℕ, Bool, false, true, Option, Some, None, List, [], ◌∷◌, ◌++◌, ◌≡◌, ◌==◌, ◌&&◌, ◌||◌, refl, ap, sym, ◌∙◌, append_assoc}
use Rattle.yaml_base.proofs.Common.{subst, eqb-true, if◌then◌else◌, Text, line_feed, Line, is_space_or_break, text_of_lines, Rules, Properties, Tree}
use Rattle.yaml_base.proofs.stream_lines.StreamLineLaws.{is_closed}
use Rattle.yaml_base.proofs.stream_lines.StreamClosed.{closed_behind}
use Rattle.yaml_base.proofs.CommentBreaks.{closed_rest, first_chomping, if_more, more, scalar_more, symbol_of}
use Rattle.yaml_base.specs.CommentReading.{BlankLinesAddNothing, blank, blanks, is_keep, keeps_breaks}
use Rattle.yaml_base.specs.Characters.{is_between}
use Rattle.yaml_base.specs.reading.ReadBlock.{after_digit, chomping_first}
use Rattle.yaml_base.specs.streams.StreamFlow.{flow_read}
use Rattle.yaml_base.specs.streams.StreamScalars.{word_after}
use Rattle.yaml_base.specs.streams.StreamLines.{all_deeper, belongs_to_entry}
use Rattle.yaml_base.specs.streams.StreamNodes.{block_text, flow_text, kind_of_text, prepend_to_trimmed, text_by_kind, text_read, trimmed, word_text}

-- Texts that aren't block scalars

is_white : (breaks12 : Bool) → is_space_or_break breaks12 line_feed ≡ true
is_white true = refl
is_white false = refl

trimmed_more : (breaks12 : Bool) (text : Text) → trimmed breaks12 (text ++ more) ≡ trimmed breaks12 text
trimmed_more breaks12 [] = ap (λ b. prepend_to_trimmed b line_feed []) (is_white breaks12)
trimmed_more breaks12 (c ∷ rest) = ap (prepend_to_trimmed (is_space_or_break breaks12 c) c) (trimmed_more breaks12 rest)

deeper_more : (column : Option ℕ) (lines : List Line) → all_deeper column (lines ++ blank ∷ []) ≡ all_deeper column lines
deeper_more None lines = refl
deeper_more (Some column) [] = refl
deeper_more (Some column) (line ∷ rest) = ap (λ b. belongs_to_entry true column line.text && b) (deeper_more (Some column) rest)

text_more : (lines : List Line) → text_of_lines (lines ++ blank ∷ []) ≡ text_of_lines lines ++ more
text_more [] = refl
text_more (line ∷ rest) =
    ap (λ t. line.text ++ (line.ending ++ t)) (text_more rest)
    ∙ ap (λ t. line.text ++ t) (sym (append_assoc line.ending (text_of_lines rest) more))
    ∙ sym (append_assoc line.text (line.ending ++ text_of_lines rest) more)

-- Texts

flow_kept : (rules : Rules) (column : Option ℕ) (properties : Properties) (text : Text) (tree : Tree)
    → text_by_kind flow_text rules column properties text ≡ Some tree → text_by_kind flow_text rules column properties (text ++ more) ≡ Some tree
flow_kept rules column properties text tree is = ap (flow_read rules properties) (trimmed_more rules.breaks12 text) ∙ is

word_kept : (rules : Rules) (column : Option ℕ) (properties : Properties) (text : Text) (tree : Tree)
    → text_by_kind word_text rules column properties text ≡ Some tree → text_by_kind word_text rules column properties (text ++ more) ≡ Some tree
word_kept rules column properties text tree is = ap (word_after rules false column properties) (trimmed_more rules.breaks12 text) ∙ is

block_kept : (folds : Bool) (rules : Rules) (column : Option ℕ) (properties : Properties) (c : ℕ) (text : Text) (tree : Tree) → c ≡ symbol_of folds
    → is_closed rules.breaks12 (c ∷ text) ≡ true → keeps_breaks (c ∷ text) ≡ false
    → text_by_kind block_text rules column properties (c ∷ text) ≡ Some tree
    → text_by_kind block_text rules column properties (c ∷ (text ++ more)) ≡ Some tree
block_kept true rules column properties c text tree same =
    subst (λ c. is_closed rules.breaks12 (c ∷ text) ≡ true → keeps_breaks (c ∷ text) ≡ false
    → text_by_kind block_text rules column properties (c ∷ text) ≡ Some tree
    → text_by_kind block_text rules column properties (c ∷ (text ++ more)) ≡ Some tree) (sym same)
    (λ ends drops is. scalar_more true rules column properties text tree (closed_rest rules.breaks12 0x3E text ends) drops is)
block_kept false rules column properties c text tree same =
    subst (λ c. is_closed rules.breaks12 (c ∷ text) ≡ true → keeps_breaks (c ∷ text) ≡ false
    → text_by_kind block_text rules column properties (c ∷ text) ≡ Some tree
    → text_by_kind block_text rules column properties (c ∷ (text ++ more)) ≡ Some tree) (sym same)
    (λ ends drops is. scalar_more false rules column properties text tree (closed_rest rules.breaks12 0x7C text ends) drops is)

kind_kept : (rules : Rules) (column : Option ℕ) (properties : Properties) (c : ℕ) (text : Text) (tree : Tree)
    → is_closed rules.breaks12 (c ∷ text) ≡ true → keeps_breaks (c ∷ text) ≡ false
    → text_by_kind (kind_of_text (c ∷ [])) rules column properties (c ∷ text) ≡ Some tree
    → text_by_kind (kind_of_text (c ∷ [])) rules column properties (c ∷ (text ++ more)) ≡ Some tree
kind_kept rules column properties c text tree ends drops is = by (c == 0x7C) (c == 0x3E) refl refl (c == 0x5B || c == 0x7B) is
  where
    by : (a b : Bool) → (c == 0x7C) ≡ a → (c == 0x3E) ≡ b → (d : Bool)
        → text_by_kind (if a || b then block_text else (if d then flow_text else word_text)) rules column properties (c ∷ text) ≡ Some tree
        → text_by_kind (if a || b then block_text else (if d then flow_text else word_text)) rules column properties (c ∷ (text ++ more)) ≡ Some tree
    by true b one other d is = block_kept false rules column properties c text tree (eqb-true c 0x7C one) ends drops is
    by false true one other d is = block_kept true rules column properties c text tree (eqb-true c 0x3E other) ends drops is
    by false false one other true is = flow_kept rules column properties (c ∷ text) tree is
    by false false one other false is = word_kept rules column properties (c ∷ text) tree is

text_kept : (rules : Rules) (column : Option ℕ) (properties : Properties) (text after : Text) (tree : Tree)
    → is_closed rules.breaks12 (text ++ after) ≡ true → keeps_breaks (text ++ after) ≡ false
    → text_by_kind (kind_of_text text) rules column properties (text ++ after) ≡ Some tree
    → text_by_kind (kind_of_text text) rules column properties ((text ++ after) ++ more) ≡ Some tree
text_kept rules column properties [] after tree ends drops is = word_kept rules column properties after tree is
text_kept rules column properties (c ∷ text) after tree ends drops is = kind_kept rules column properties c (text ++ after) tree ends drops is

-- the whole text with a blank line after it
whole_more : (text ending : Text) (rest : List Line)
    → text ++ (ending ++ text_of_lines (rest ++ blank ∷ [])) ≡ (text ++ (ending ++ text_of_lines rest)) ++ more
whole_more text ending rest =
    ap (λ t. text ++ (ending ++ t)) (text_more rest) ∙ ap (λ t. text ++ t) (sym (append_assoc ending (text_of_lines rest) more))
    ∙ sym (append_assoc text (ending ++ text_of_lines rest) more)

blank_kept : (rules : Rules) (column : Option ℕ) (properties : Properties) (text ending : Text) (rest : List Line) (tree : Tree)
    → is_closed rules.breaks12 (text ++ (ending ++ text_of_lines rest)) ≡ true → keeps_breaks (text ++ (ending ++ text_of_lines rest)) ≡ false
    → text_read rules column properties text ending rest ≡ Some tree
    → text_read rules column properties text ending (rest ++ blank ∷ []) ≡ Some tree
blank_kept rules column properties text ending rest tree ends drops read =
    ap (λ b. if b then text_by_kind (kind_of_text text) rules column properties (text ++ (ending ++ text_of_lines (rest ++ blank ∷ []))) else None)
    (deeper_more column rest)
    ∙ ap (λ t. if all_deeper column rest then text_by_kind (kind_of_text text) rules column properties t else None) (whole_more text ending rest)
    ∙ by (all_deeper column rest) read
  where
    by : (x : Bool)
        → (if x then text_by_kind (kind_of_text text) rules column properties (text ++ (ending ++ text_of_lines rest)) else None) ≡ Some tree
        → (if x then text_by_kind (kind_of_text text) rules column properties ((text ++ (ending ++ text_of_lines rest)) ++ more) else None) ≡ Some tree
    by true read = text_kept rules column properties text (ending ++ text_of_lines rest) tree ends drops read
    by false read = cc

pub blank_lines_add_nothing : BlankLinesAddNothing
blank_lines_add_nothing rules column properties text ending front last rest tree is ends drops read =
    blank_kept rules column properties text ending rest tree
    (ap (is_closed rules.breaks12) (sym is) ∙ closed_behind rules.breaks12 front last [] ends) drops read

-- Any number of them

-- one break more at a text's end
closed_more : (breaks12 : Bool) (text : Text) → is_closed breaks12 (text ++ more) ≡ true
closed_more breaks12 text = closed_behind breaks12 text line_feed [] refl

keeps_more : (text : Text) → keeps_breaks (text ++ more) ≡ keeps_breaks text
keeps_more [] = refl
keeps_more (c ∷ rest) =
    ap (λ chomping. (c == 0x7C || c == 0x3E) && is_keep chomping) (ap chomping_first (digit_more rest) ∙ first_chomping (after_digit rest))
  where
    digit_more : (text : Text) → after_digit (text ++ more) ≡ after_digit text ++ more
    digit_more [] = refl
    digit_more (c ∷ rest) = if_more (is_between 49 57 c) rest (c ∷ rest)

-- any number of blank lines add nothing
pub blanks_kept : (count : ℕ) (rules : Rules) (column : Option ℕ) (properties : Properties) (text ending : Text) (rest : List Line) (tree : Tree)
    → is_closed rules.breaks12 (text ++ (ending ++ text_of_lines rest)) ≡ true → keeps_breaks (text ++ (ending ++ text_of_lines rest)) ≡ false
    → text_read rules column properties text ending rest ≡ Some tree
    → text_read rules column properties text ending (rest ++ blanks count) ≡ Some tree
blanks_kept zero rules column properties text ending rest tree ends drops read =
    ap (text_read rules column properties text ending) (append-nil rest) ∙ read
blanks_kept (suc count) rules column properties text ending rest tree ends drops read =
    let whole = whole_more text ending rest in
    let before = text ++ (ending ++ text_of_lines rest) in
    ap (text_read rules column properties text ending) (sym (append_assoc rest (blank ∷ []) (blanks count)))
    ∙ blanks_kept count rules column properties text ending (rest ++ blank ∷ []) tree
    (ap (is_closed rules.breaks12) whole ∙ closed_more rules.breaks12 before) (ap keeps_breaks whole ∙ keeps_more before ∙ drops)
    (blank_kept rules column properties text ending rest tree ends drops read)
