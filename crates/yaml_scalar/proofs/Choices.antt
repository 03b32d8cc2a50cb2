-- The style of a value that only double quotes can write doesn't depend on its breaks.
use Rattle.yaml_scalar.proofs.Common.{arith, if◌then◌else◌, Bool, false, not, true, ◌&&◌, ◌||◌, refl, ◌≡◌, ap, sym, ◌∙◌, and_parts, Text, Charset}
use Rattle.yaml_scalar.proofs.Common.{Allowances, allowances, ChosenStyle, chosen, BarredStyles, barred_in, allowed_by, nat_tests}
use Rattle.yaml_base.proofs.Common.{ScalarStyle, double_quoted, is_plain, quoted_style, fitting_style}
use Rattle.std.proofs.Math.Bool.{or-false}
use Rattle.yaml_scalar.{specs.Barred.all_styles, specs.ScalarData.ChooseAlike}

-- a value allows the styles that its characters don't bar
pub allowed_whole : (charset : Charset) (value : Text) → allowances charset value ≡ allowed_by (barred_in charset value) value
allowed_whole charset value = grind (arith, nat_tests)

-- if nothing else fits, double quotes do
none_fits : (allowed : Allowances) (plain_fits block_fits : Bool) (asked : ScalarStyle) → plain_fits ≡ false → allowed.single_quoted_allowed ≡ false
    → block_fits ≡ false → fitting_style allowed plain_fits block_fits asked ≡ double_quoted
none_fits allowed plain_fits block_fits asked p s b = grind (arith, nat_tests, quoted_style)

neither_plain : (flow one other a b : Bool) → one ≡ false → other ≡ false → ((if flow then one else other) && a && b) ≡ false
neither_plain flow one other a b e f = grind (arith, nat_tests)

nothing_allowed : (allowed : Allowances) → allowed.flow_plain_allowed ≡ false → allowed.block_plain_allowed ≡ false
    → allowed.single_quoted_allowed ≡ false → allowed.block_allowed ≡ false
    → (asked : ScalarStyle) (empty tag_written plain_implicit quoted_implicit flow simple_key canonical : Bool)
    → chosen allowed asked empty tag_written plain_implicit quoted_implicit flow simple_key canonical
    ≡ record { style = double_quoted; bare = not tag_written && not quoted_implicit && not (is_plain double_quoted) }
nothing_allowed allowed f p s b asked empty tag_written plain_implicit quoted_implicit flow simple_key canonical =
    grind (arith, none_fits, neither_plain)

not_plain : (a b x : Bool) → x ≡ true → (a && not (b || x)) ≡ false
not_plain a b x e = grind (arith, nat_tests, not)

not_either : (a x : Bool) → x ≡ true → not (a || x) ≡ false
not_either a x e = grind (arith, nat_tests, not)

barred_double : (found : BarredStyles) (value : Text) → all_styles found ≡ true
    → (asked : ScalarStyle) (empty tag_written plain_implicit quoted_implicit flow simple_key canonical : Bool)
    → chosen (allowed_by found value) asked empty tag_written plain_implicit quoted_implicit flow simple_key canonical
    ≡ record { style = double_quoted; bare = not tag_written && not quoted_implicit && not (is_plain double_quoted) }
barred_double found value all = grind (arith, and_parts, nothing_allowed, not_plain, not_either)

-- so later breaks don't matter if any do
pub alike : (found : BarredStyles) (more : Bool) (value : Text) → (all_styles found ≡ false → more ≡ false)
    → ChooseAlike (allowed_by found value) (allowed_by (record found { multiline = found.multiline || more }) value)
alike found more value none asked empty tag_written plain_implicit quoted_implicit flow simple_key canonical = go (all_styles found) refl
  where
    choice : Bool → ChosenStyle
    choice multiline =
        chosen (allowed_by (record found { multiline = multiline }) value) asked empty tag_written plain_implicit quoted_implicit flow simple_key canonical

    go : (all : Bool) → all_styles found ≡ all → choice found.multiline ≡ choice (found.multiline || more)
    go true is =
        barred_double (record found { multiline = found.multiline }) value is asked empty tag_written plain_implicit quoted_implicit flow simple_key canonical
        ∙ sym (barred_double (record found { multiline = found.multiline || more }) value is
        asked empty tag_written plain_implicit quoted_implicit flow simple_key canonical)
    go false is = ap choice (sym (ap (λ b. found.multiline || b) (none is) ∙ or-false found.multiline))
