-- The calls of a block scalar's writer make up its layout.
use Rattle.yaml_scalar.proofs.Common.{arith, ℕ, Option, Bool, false, true, [], ◌++◌, ◌∷◌, ◌≡◌, append_assoc, false≢true, Text, Cursor}
use Rattle.yaml_scalar.proofs.Common.{Rendered, render_then, render_text, space_if, indicator, is_empty, render_hints, render_folded, render_literal, Page}
use Rattle.yaml_scalar.proofs.Common.{lines_from, separated_header, header_end, nat_tests}
use Rattle.yaml_base.specs.scalars.BlockHeader.{render_header}
use Rattle.yaml_pen.proofs.StillToWrite.{StillToWrite}
use Rattle.yaml_scalar.{proofs.blocks.BlockSteps.literal-lines-from, proofs.blocks.FoldedSteps.folded-lines-from}
use Rattle.yaml_scalar.{specs.declared.block_lines.Place.Place, specs.declared.block_lines.Place.TheVariants.LineStart}
use Rattle.yaml_scalar.specs.BlockSteps.{block_indicator_of, render_block}

-- one after another, in either grouping
then-assoc : (a : Rendered) (f g : Cursor → Rendered) → render_then (render_then a f) g ≡ render_then a (λ k. render_then (f k) g)
then-assoc a f g = grind (arith, append_assoc)

-- an indicator's separating space is text before it
indicator-lead : (symbol column : ℕ) (whitespace indention : Bool)
    → (let cursor : Cursor = record { column = column; whitespace = whitespace; indention = indention } in
    indicator (symbol ∷ []) true false false cursor ≡ render_then (render_text (space_if true cursor) cursor) (indicator (symbol ∷ []) false false false))
indicator-lead symbol column whitespace indention = grind (arith, nat_tests)

pub header-steps : (folded : Bool) (best_indent : ℕ) (value : Text) (cursor : Cursor)
    → render_then (render_then (indicator (block_indicator_of folded ∷ []) true false false cursor) (render_hints best_indent value)) header_end
    ≡ separated_header folded best_indent value cursor
header-steps folded best_indent value cursor = grind (arith, indicator-lead, then-assoc)

-- a text of which some lines are left to be written, from a place on
abbrev pub LinesLeft : (folded : Bool) (limit : Option ℕ) (indent : ℕ) (all left : Text) (place : Place) (before now : Page) → Type 0
LinesLeft folded limit indent all left place before now =
    StillToWrite (lines_from folded limit indent place left) (lines_from folded limit indent LineStart all) before now

-- after a header a line begins
header_then : (symbol best_indent : ℕ) (value : Text) → Rendered → Cursor → Rendered
header_then symbol best_indent value lines cursor =
    let header = render_header symbol best_indent value cursor in record { text = header.text ++ lines.text; cursor = lines.cursor }

-- all of a scalar that isn't empty is its style's layout
pub block-literal : (limit : Option ℕ) (indent best_indent c : ℕ) (rest : Text) (cursor : Cursor)
    → render_block false limit indent best_indent (c ∷ rest) cursor ≡ render_literal indent best_indent (c ∷ rest) cursor
unfolding header_then
block-literal limit indent best_indent c rest cursor = grind (arith, render_text, space_if, then-assoc, lines_from, render_then, literal-lines-from)

pub block-folded : (limit : Option ℕ) (indent best_indent c : ℕ) (rest : Text) (cursor : Cursor)
    → render_block true limit indent best_indent (c ∷ rest) cursor ≡ render_folded limit indent best_indent (c ∷ rest) cursor
unfolding header_then
block-folded limit indent best_indent c rest cursor = grind (arith, render_text, space_if, then-assoc, lines_from, render_then, folded-lines-from)

pub some-literal : (limit : Option ℕ) (indent best_indent : ℕ) (value : Text) (cursor : Cursor) → is_empty value ≡ false
    → render_block false limit indent best_indent value cursor ≡ render_literal indent best_indent value cursor
some-literal limit indent best_indent value cursor e = grind (arith, nat_tests, false≢true, block-literal)

pub some-folded : (limit : Option ℕ) (indent best_indent : ℕ) (value : Text) (cursor : Cursor) → is_empty value ≡ false
    → render_block true limit indent best_indent value cursor ≡ render_folded limit indent best_indent value cursor
some-folded limit indent best_indent value cursor e = grind (arith, nat_tests, false≢true, block-folded)
