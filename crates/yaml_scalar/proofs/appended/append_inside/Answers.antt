use Rattle.yaml_scalar.proofs.Common.{◌≡◌, ◌++◌, ℕ, List, ap, subst, sym, ◌∙◌, chars, IsUtf8, chars_past_char, encode_utf8, chars_rest}
use Rattle.yaml_scalar.proofs.AppendedTexts.{character_then, none_left}
use Rattle.yaml_scalar.proofs.Shorter.{shorter_left}
use Rattle.yaml_scalar.specs.EscapeBytes.{inside_bytes}
use Rattle.yaml_scalar.proofs.appended.append_inside.Goals as goal

pub loop-c-init : goal.loop-c-init
loop-c-init g c =
    let same = sym c.chars-chars.ensures.rest in
    record {
      is_text = subst IsUtf8 same c.in_ok-rest.ensures.is_text;
      written = ap (λ (l : List ℕ). c.append_run.new.bytes.items ++ inside_bytes (chars l)) (sym same) ∙ c.in_ok-rest.ensures.appended;
    }

pub loop-c-preserved : goal.loop-c-preserved
loop-c-preserved g c =
    let so_far = c.loop-c.invariant in
    let rest : List ℕ = c.as_str.result.now in
    let split : chars_rest c.loop-c.chars ≡ encode_utf8 c.in-Some.c ++ rest =
    c.in-Some.ensures.steps.0 ∙ ap (λ l. encode_utf8 c.in-Some.c ++ l) (sym c.as_str.ensures) in
    let same = c.chars-chars-in-Some.ensures.rest in
    record {
      is_text = subst IsUtf8 (sym same) c.in_ok-rest-2.ensures.is_text;
      written = ap (λ (l : List ℕ). c.append_run-in-Some.new.bytes.items ++ inside_bytes (chars l)) same
          ∙ character_then _ c.loop-c.bytes.items c.append_character.new.bytes.items c.append_run-in-Some.new.bytes.items _ c.in-Some.c
          (chars (chars_rest c.loop-c.chars)) (chars rest) (chars_past_char (chars_rest c.loop-c.chars) rest c.in-Some.c so_far.is_text split)
          c.in_ok-append_character.ensures c.in_ok-rest-2.ensures.appended so_far.written;
    }

pub loop-c-smaller : goal.loop-c-smaller
loop-c-smaller g c =
    shorter_left _ _ c.as_str.result.now _ _ c.in-Some.c c.in-Some.ensures.steps.0 c.as_str.ensures c.in_ok-rest-2.ensures.shorter
    c.chars-chars-in-Some.ensures.rest

pub returns : goal.returns
returns g c =
    none_left c.loop-c.bytes.items (chars_rest c.loop-c.chars) _ c.in_default.ensures.steps.0.0 c.loop-c.invariant.written
