-- The styles that a value allows, with or without single quotes, and with or without literal blanks.
use Rattle.yaml_emitter.proofs.Common.{if◌then◌else◌, Bool, false, not, ◌&&◌, ◌||◌, ◌≡◌, subst, sym, ap, ◌∙◌, Scalar, allowed_by_quotes, allowed_by_blanks}
use Rattle.yaml_emitter.proofs.Common.{allowed_under, allowances, Allowances, Charset, charset_of, Effective}
use Rattle.yaml_base.proofs.Common.{allows_literal, is_literal, or_parts}
use Rattle.yaml_scalar.specs.ScalarData.{ChooseAlike}

-- the settings change nothing in the styles that a scalar's value allows
abbrev pub KeepsStyles : Effective → Scalar → Type 0
KeepsStyles s content = (s.double_quotes || (is_literal content.style && s.literal_blanks)) ≡ false

-- with single quotes and without literal blanks all stays
pub alike_under : (s : Effective) (found : Allowances) (content : Scalar) → KeepsStyles s content
    → ChooseAlike found (allowances (charset_of s) content.value) → ChooseAlike found (allowed_under s content)
alike_under s found content keeps alike =
    let off = or_parts s.double_quotes (is_literal content.style && s.literal_blanks) keeps in
    subst (λ (double : Bool). ChooseAlike found (allowed_by_quotes double
    (allowed_by_blanks (is_literal content.style && s.literal_blanks) (charset_of s) content.value))) (sym off.0)
    (subst (λ (blanks : Bool). ChooseAlike found (allowed_by_quotes false (allowed_by_blanks blanks (charset_of s) content.value))) (sym off.1) alike)

-- the allowances that were found, with other single quotes and block styles
abbrev pub found_with : (single_quoted block : Bool) → Allowances → Allowances
found_with single_quoted block found = record found { single_quoted_allowed = single_quoted; block_allowed = block }

-- they are exactly those of a scalar's value
pub exact_under : (s : Effective) (found : Allowances) (content : Scalar) (single_quoted block : Bool) → found ≡ allowances (charset_of s) content.value
    → single_quoted ≡ (not s.double_quotes && found.single_quoted_allowed)
    → block ≡ (if is_literal content.style && s.literal_blanks then allows_literal (charset_of s) content.value else found.block_allowed)
    → found_with single_quoted block found ≡ allowed_under s content
exact_under s found content single_quoted block is quotes blocks =
    let charset : Charset = charset_of s in
    ap (λ (x : Bool). found_with x block found) quotes
    ∙ ap (λ (x : Bool). found_with (not s.double_quotes && found.single_quoted_allowed) x found) blocks
    ∙ ap (λ (a : Allowances). found_with (not s.double_quotes && a.single_quoted_allowed)
    (if is_literal content.style && s.literal_blanks then allows_literal charset content.value else a.block_allowed) a) is
