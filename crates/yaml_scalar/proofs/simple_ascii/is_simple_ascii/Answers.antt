use Rattle.yaml_scalar.proofs.Common.{◌-◌, ◌==◌, slice_index, chars, nat_le, length, Bool, false, not, true, ◌&&◌, ◌≡◌, ap, sym, ◌∙◌, list_all, most_short}
use Rattle.yaml_scalar.proofs.Common.{has_simple_ascii_ends, is_simple_ascii_character}
use Rattle.yaml_scalar.proofs.SimpleAsciiTexts.{simple_ascii_characters, simple_ascii, simple_ascii_ends}
use Rattle.yaml_scalar.proofs.simple_ascii.is_simple_ascii.Goals as goal

pub returns-then-ends-clause-value : goal.returns-then-ends-clause-value
returns-then-ends-clause-value c =
    let text = c.args.text.now in
    let bytes = c.as_bytes-bytes.result.now in
    let ends : true ≡ has_simple_ascii_ends text = sym c.if-ends.true
    ∙ ap (λ (b : Bool). b && not (slice_index bytes (length bytes - 1) == 32)) c.is_ordinary.ensures
    ∙ simple_ascii_ends bytes ∙ ap has_simple_ascii_ends c.as_bytes-bytes.ensures.value in
    c.is_short_run.ensures.value
    ∙ ap (λ b. nat_le (length text) most_short && b) (simple_ascii_characters c.utf8.text)
    ∙ ap (λ b. b && nat_le (length text) most_short && list_all is_simple_ascii_character (chars text)) ends

pub returns-then-ends-clause-simple_ascii : goal.returns-then-ends-clause-simple_ascii
returns-then-ends-clause-simple_ascii c is =
    let bytes = c.as_bytes-bytes.result.now in
    let ends : true ≡ has_simple_ascii_ends c.args.text.now = sym c.if-ends.true
    ∙ ap (λ (b : Bool). b && not (slice_index bytes (length bytes - 1) == 32)) c.is_ordinary.ensures
    ∙ simple_ascii_ends bytes ∙ ap has_simple_ascii_ends c.as_bytes-bytes.ensures.value in
    simple_ascii (sym ends) (c.is_short_run.ensures.run is)

pub returns-else-ends-clause-value : goal.returns-else-ends-clause-value
returns-else-ends-clause-value c =
    let text = c.args.text.now in
    let bytes = c.as_bytes-bytes.result.now in
    let ends : false ≡ has_simple_ascii_ends text = sym c.if-ends.false
    ∙ ap (λ (b : Bool). b && not (slice_index bytes (length bytes - 1) == 32)) c.is_ordinary.ensures
    ∙ simple_ascii_ends bytes ∙ ap has_simple_ascii_ends c.as_bytes-bytes.ensures.value in
    c.if-ends.false ∙ ap (λ b. b && nat_le (length text) most_short && list_all is_simple_ascii_character (chars text)) ends
