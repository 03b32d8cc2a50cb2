use Rattle.yaml_json.proofs.Common.{◌≡◌, ◌||◌, true, false, get_or, length, sym, ap, ◌∙◌, arith, is_operator, is_space, drop_all}
use Rattle.yaml_json.proofs.PassingLexemes.{delimiter_small, word_begins, word_cut, word_ends, word_on}
use Rattle.std.proofs.lemmas.Str.{IsCharBoundary-before_ascii}
use Rattle.yaml_json.proofs.places.after_word.Goals as goal

pub bytes-preserved : goal.bytes-preserved
bytes-preserved c =
    let d = c.args.text.now in
    let at = c.bytes.at in
    let same = c.as_bytes-bytes.ensures.value in
    let inner : (is_operator (get_or d at 0) || is_space (get_or d at 0)) ≡ false =
    ap (λ t. is_operator (get_or t at 0) || is_space (get_or t at 0)) (sym same) ∙ sym c.is_delimiter.ensures ∙ c.if-is_delimiter.false in
    word_on d c.args.from at (omega (arith, ap length same)) inner c.bytes.invariant

pub returns-then-is_delimiter : goal.returns-then-is_delimiter
returns-then-is_delimiter c =
    let d = c.args.text.now in
    let at = c.bytes.at in
    let same = c.as_bytes-bytes.ensures.value in
    let ends : (is_operator (get_or d at 0) || is_space (get_or d at 0)) ≡ true =
    ap (λ t. is_operator (get_or t at 0) || is_space (get_or t at 0)) (sym same) ∙ sym c.is_delimiter.ensures ∙ c.if-is_delimiter.true in
    let done = word_ends d c.range_from.result.now c.args.from at (omega (arith, ap length same)) ends c.range_from.ensures.value c.bytes.invariant in
    record { same = done.0; over = done.1 }

pub returns : goal.returns
returns c =
    let d = c.args.text.now in
    let at = c.bytes.at in
    let same = c.as_bytes-bytes.ensures.value in
    let done = word_cut d c.range_from-2.result.now c.args.from at (omega (arith, ap length same))
    (c.range_from-2.ensures.value ∙ drop_all (length c.as_bytes-bytes.result.now) d (omega (arith, ap length same))) c.bytes.invariant in
    record { same = done.0; over = done.1 }
