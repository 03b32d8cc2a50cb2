-- When the texts of a writer are plain.
use Rattle.yaml_base.proofs.Common.{if◌then◌else◌, Bool, false, not, true, ◌&&◌, ◌||◌, refl, ◌≡◌, ap, sym, ◌∙◌, list_any, Text, is_break, ScalarStyle}
use Rattle.yaml_base.proofs.Common.{any_style, plain, single_quoted, double_quoted, literal, folded, Allowances, requested_style, fitting_style, fits_plain}
use Rattle.yaml_base.{proofs.SurelyTexts.surely_text, specs.values.SurelyText.is_surely_text}
use Rattle.yaml_writer.specs.{PlainTexts.PlainTextsAreTexts, Writing.style_asked}

-- neither quotes nor a block style are plain
quoted_apart : (single : Bool) → (if single then single_quoted else double_quoted) ≡ plain → ⊥
quoted_apart true is = cc
quoted_apart false is = cc

block_apart : (fits : Bool) → (if fits then literal else double_quoted) ≡ plain → ⊥
block_apart true is = cc
block_apart false is = cc

folded_apart : (fits : Bool) → (if fits then folded else double_quoted) ≡ plain → ⊥
folded_apart true is = cc
folded_apart false is = cc

-- the style of a text that holds a break or none, and is surely one or isn't
abbrev style_by : (broken sure : Bool) → ScalarStyle → ScalarStyle
style_by broken sure any_style = if broken then literal else (if sure then any_style else single_quoted)
style_by broken sure plain = if sure then plain else single_quoted
style_by broken sure style = style

by_text : (asked : ScalarStyle) (text : Text) → style_asked asked text ≡ style_by (list_any is_break text) (is_surely_text text) asked
by_text any_style text = refl
by_text _ text = refl

-- plain is chosen only for a text that is surely one
plain_sure : (asked : ScalarStyle) (allowed : Allowances) (plain_fits block_fits double broken sure : Bool)
    → fitting_style allowed plain_fits block_fits (requested_style double (style_by broken sure asked)) ≡ plain → sure ≡ true
plain_sure asked allowed plain_fits block_fits true broken sure is = cc
plain_sure any_style allowed plain_fits block_fits false true sure is = absurd (block_apart block_fits is)
plain_sure any_style allowed plain_fits block_fits false false true is = refl
plain_sure plain allowed plain_fits block_fits false broken true is = refl
plain_sure double_quoted allowed plain_fits block_fits false broken sure is = cc
plain_sure literal allowed plain_fits block_fits false broken sure is = absurd (block_apart block_fits is)
plain_sure folded allowed plain_fits block_fits false broken sure is = absurd (folded_apart block_fits is)
plain_sure _ allowed plain_fits block_fits false _ _ is = absurd (quoted_apart allowed.single_quoted_allowed is)

pub plain_texts : PlainTextsAreTexts
plain_texts asked text allowed empty tag_written plain_implicit quoted_implicit flow simple_key canonical is =
    let plain_fits = fits_plain allowed empty tag_written plain_implicit flow simple_key in
    let block_fits = allowed.block_allowed && not flow && not simple_key in
    let double = canonical || (simple_key && allowed.multiline) in
    surely_text text
    (plain_sure asked allowed plain_fits block_fits double (list_any is_break text) (is_surely_text text)
    (ap (λ (style : ScalarStyle). fitting_style allowed plain_fits block_fits (requested_style double style)) (sym (by_text asked text)) ∙ is))
