-- If plain is chosen, it is chosen whichever quotes are asked for in its place.
use Rattle.yaml_base.proofs.Common.{if◌then◌else◌, Bool, false, true, ◌≡◌, ap, false≢true, ScalarStyle, plain, single_quoted, double_quoted, allowed_by_quotes}
use Rattle.yaml_base.proofs.Common.{Allowances, is_plain, chosen, arith, nat_tests}

-- quotes aren't plain
quotes_apart : (single : Bool) → (if single then single_quoted else double_quoted) ≡ plain → ⊥
quotes_apart true is = false≢true (ap is_plain is)
quotes_apart false is = false≢true (ap is_plain is)

pub plain_under : (double_quotes : Bool) (allowed : Allowances) (asked : ScalarStyle)
    (empty tag_written plain_implicit quoted_implicit flow simple_key canonical : Bool)
    → (chosen allowed asked empty tag_written plain_implicit quoted_implicit flow simple_key canonical).style ≡ plain
    → (chosen (allowed_by_quotes double_quotes allowed) asked empty tag_written plain_implicit quoted_implicit flow simple_key canonical).style ≡ plain
plain_under double_quotes allowed asked empty tag_written plain_implicit quoted_implicit flow simple_key canonical is = grind (arith, nat_tests, quotes_apart)

-- so by the test
is_plain_style : (style : ScalarStyle) → is_plain style ≡ true → style ≡ plain
is_plain_style style h = grind (arith, nat_tests, false≢true)

pub still_plain : (double_quotes : Bool) (allowed : Allowances) (asked : ScalarStyle)
    (empty tag_written plain_implicit quoted_implicit flow simple_key canonical : Bool)
    → is_plain (chosen allowed asked empty tag_written plain_implicit quoted_implicit flow simple_key canonical).style ≡ true
    → is_plain (chosen (allowed_by_quotes double_quotes allowed) asked empty tag_written plain_implicit quoted_implicit flow simple_key canonical).style ≡ true
still_plain double_quotes allowed asked empty tag_written plain_implicit quoted_implicit flow simple_key canonical is =
    grind (arith, nat_tests, plain_under, is_plain_style)
