use Rattle.yaml_writer.proofs.Common.{ℕ, ◌==◌, Bool, if◌then◌else◌, [], ◌∷◌, ◌++◌, ◌≡◌, ◌∙◌, ap, chars, encode_utf8_all, nil_from_length, string_bytes, sym}
use Rattle.yaml_writer.proofs.Common.{Text}
use Rattle.std.proofs.lemmas.Bool.{eqb-true, false_from_ne_true}
use Rattle.std.proofs.lemmas.Str.{IsUtf8-past_char, chars-nil, chars_past_char}
use Rattle.std.specs.Str.Iter.{chars_rest}
use Rattle.yaml_writer.proofs.HeadingLemmas.{last_commented, next_commented}
use Rattle.yaml_writer.specs.Headings.{comment_lines, commented, spot_after}
use Rattle.yaml_writer.specs.declared.headings.LineSpot.{LineSpot}
use Rattle.yaml_writer.specs.declared.headings.LineSpot.TheVariants.{Start, Within}
use Rattle.yaml_writer.proofs.headings.comment_lines.Goals as goal

pub loop-character-preserved-then-character-eq10 : goal.loop-character-preserved-then-character-eq10
loop-character-preserved-then-character-eq10 g c =
    let l = c.loop-character in
    let rest = chars (chars_rest c.next.new.self) in
    let bytes = string_bytes c.push_commented.new.lines in
    let step = chars_past_char _ (chars_rest c.next.new.self) c.in-Some.character l.invariant.1 c.in-Some.ensures.steps.0 in
    let stood : string_bytes l.lines ++ encode_utf8_all (commented l.spot (c.in-Some.character ∷ rest))
    ≡ encode_utf8_all (comment_lines (chars c.args.text.now)) =
    ap (λ (t : Text). string_bytes l.lines ++ encode_utf8_all (commented l.spot t)) (sym step) ∙ l.invariant.0 in (
      ap (λ (spot : LineSpot). bytes ++ encode_utf8_all (commented spot rest)) (sym (ap (λ (c : ℕ). spot_after c) c.if-character-eq10.true))
          ∙ next_commented (string_bytes l.lines) bytes l.spot c.in-Some.character rest (encode_utf8_all (comment_lines (chars c.args.text.now)))
          c.in_ok-push_commented.ensures stood,
      IsUtf8-past_char _ _ c.in-Some.character l.invariant.1 c.in-Some.ensures.steps.0,
    )

pub loop-character-preserved : goal.loop-character-preserved
loop-character-preserved g c =
    let l = c.loop-character in
    let rest = chars (chars_rest c.next.new.self) in
    let bytes = string_bytes c.push_commented.new.lines in
    let step = chars_past_char _ (chars_rest c.next.new.self) c.in-Some.character l.invariant.1 c.in-Some.ensures.steps.0 in
    let stood : string_bytes l.lines ++ encode_utf8_all (commented l.spot (c.in-Some.character ∷ rest))
    ≡ encode_utf8_all (comment_lines (chars c.args.text.now)) =
    ap (λ (t : Text). string_bytes l.lines ++ encode_utf8_all (commented l.spot t)) (sym step) ∙ l.invariant.0 in (
      ap (λ (spot : LineSpot). bytes ++ encode_utf8_all (commented spot rest)) (sym (ap (λ (feed : Bool). if feed then Start else Within)
          (false_from_ne_true (c.in-Some.character == 10) (λ is. c.if-character-eq10.false (eqb-true c.in-Some.character 10 is)))))
          ∙ next_commented (string_bytes l.lines) bytes l.spot c.in-Some.character rest (encode_utf8_all (comment_lines (chars c.args.text.now)))
          c.in_ok-push_commented.ensures stood,
      IsUtf8-past_char _ _ c.in-Some.character l.invariant.1 c.in-Some.ensures.steps.0,
    )

pub returns : goal.returns
returns g c =
    let l = c.loop-character in
    let none : chars (chars_rest l.characters) ≡ [] = ap chars (nil_from_length _ c.in_default.ensures.steps.0.0) ∙ chars-nil in
    last_commented (string_bytes l.lines) (string_bytes c.push_end.new.lines) l.spot (encode_utf8_all (comment_lines (chars c.args.text.now)))
    c.in_ok-push_end.ensures
    (ap (λ (t : Text). string_bytes l.lines ++ encode_utf8_all (commented l.spot t)) (sym none) ∙ l.invariant.0)
