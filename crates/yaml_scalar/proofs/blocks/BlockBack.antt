-- The text of a literal or folded scalar reads back.
use Rattle.yaml_scalar.proofs.Common.{ℕ, ◌≤◌, Option, Ok, pos, ℤ, ◌≤ℤ◌, true, ◌≡◌, arith, ints, Text, read_block, Charset, allows_block, allows_literal}
use Rattle.yaml_scalar.proofs.Common.{Encloses, folded_body, render_folded, literal_body, render_literal, Page, natural, Wrote, ReadsBack, Cursor, Rendered}
use Rattle.yaml_scalar.proofs.Common.{Result, Err, nat_tests}
use Rattle.std.proofs.{Common.IsErrAnd, Common.IsErr, lemmas.Result.err_from_is_err_and}
use Rattle.yaml_base.specs.declared.errors.yaml_error_t.{yaml_error_t}
use Rattle.yaml_scalar.specs.BlockCode.{without_open_ended}
use Rattle.yaml_scalar.proofs.{LinesReadBack.two_or_more, LinesReadBack.body_back, blocks.BlockLines.literal-kept, blocks.BlockLines.folded-kept}

-- the exit of a `?` gives the error of the call that failed, also if an answer holds the open-ended state
pub block_exit : {render : Cursor → Rendered} {before after : Page} {error : yaml_error_t} (answer : Result ℤ yaml_error_t)
    → IsErr answer × IsErrAnd answer (λ returned. returned ≡ error) → Wrote render before after (Err error)
    → Wrote render before after (without_open_ended answer)
block_exit {render} {before} {after} {error} answer is wrote = grind (arith, nat_tests, err_from_is_err_and, without_open_ended)

-- the conditions on the two indents, as whole numbers
pub record Indents (indent best_indent : ℕ) : Type 0 where
  pub least : 2 ≤ best_indent
  pub most : best_indent ≤ 9
  pub within : best_indent ≤ indent

at-most : (n : ℤ) → n ≤ℤ pos 9 → natural n ≤ 9
at-most n h = grind (arith, nat_tests, ints)

below : (m n : ℤ) → pos 2 ≤ℤ m → m ≤ℤ n → natural m ≤ natural n
below m n h k = grind (arith, nat_tests, ints)

pub indents : (indent best_indent : ℤ) → pos 2 ≤ℤ best_indent → best_indent ≤ℤ pos 9 → best_indent ≤ℤ indent → Indents (natural indent) (natural best_indent)
indents indent best_indent least most within = grind (arith, two_or_more, at-most, below)

module _ (charset : Charset) (value : Text) (allowed : allows_literal charset value ≡ true) (indent best_indent : ℕ) (are : Indents indent best_indent)
    (column : Option ℕ) (enclosing : Encloses indent best_indent column) where
  pub literal_back : {before after : Page} → Wrote (render_literal indent best_indent value) before after (Ok tt)
      → ReadsBack (read_block charset.breaks12 column) value before.text after.text
  literal_back wrote =
      body_back (read_block charset.breaks12 column) value true (literal_body indent best_indent value)
      (λ cursor setting. (literal-kept charset value allowed indent best_indent are.least are.most are.within cursor column enclosing setting).reads)
      (λ cursor setting. (literal-kept charset value allowed indent best_indent are.least are.most are.within cursor column enclosing setting).indented) wrote

module _ (charset : Charset) (value : Text) (allowed : allows_block charset value ≡ true) (indent best_indent : ℕ) (are : Indents indent best_indent)
    (column : Option ℕ) (enclosing : Encloses indent best_indent column) where
  pub folded_back : (limit : Option ℕ) {before after : Page} → Wrote (render_folded limit indent best_indent value) before after (Ok tt)
      → ReadsBack (read_block charset.breaks12 column) value before.text after.text
  folded_back limit wrote =
      body_back (read_block charset.breaks12 column) value true (folded_body limit indent best_indent value)
      (λ cursor setting. (folded-kept charset value allowed indent best_indent are.least are.most are.within cursor limit column enclosing setting).reads)
      (λ cursor setting. (folded-kept charset value allowed indent best_indent are.least are.most are.within cursor limit column enclosing setting).indented)
      wrote
