use Rattle.yaml_read.proofs.Common.{◌/◌, ◌%◌, ◌++◌, ap, ◌∙◌, arith, encode_utf8_all, hex_digits}
use Rattle.yaml_read.proofs.{Firsts.four_text, CharactersRead.four_read}
use Rattle.yaml_read.proofs.quoted.read_four_digits.Goals as goal

pub returns-in-None : goal.returns-in-None
returns-in-None c = λ n rest few is. c.in-None.ensures (n / 256) (hex_digits 2 (n % 256) ++ rest) (omega arith) (is ∙ ap encode_utf8_all (four_text n rest))

pub returns-in-None-read_two_digits : goal.returns-in-None-read_two_digits
returns-in-None-read_two_digits c =
    λ n rest few is.
    let upper = c.in-Some.ensures.only (n / 256) (hex_digits 2 (n % 256) ++ rest) (omega arith) (is ∙ ap encode_utf8_all (four_text n rest)) in
    c.in-None-read_two_digits.ensures (n % 256) rest (omega arith) upper.1

pub returns-in-Some-read_two_digits : goal.returns-in-Some-read_two_digits
returns-in-Some-read_two_digits c =
    record {
      below = omega (arith, c.in-Some.ensures.below, c.in-Some-read_two_digits.ensures.below);
      parts =
          four_read c.args.text.now c.in-Some.behind.now c.in-Some-read_two_digits.rest.now c.in-Some.upper c.in-Some-read_two_digits.lower
          c.in-Some-read_two_digits.ensures.below c.in-Some.ensures.parts c.in-Some-read_two_digits.ensures.parts;
      only = λ n rest few is.
          let upper = c.in-Some.ensures.only (n / 256) (hex_digits 2 (n % 256) ++ rest) (omega arith) (is ∙ ap encode_utf8_all (four_text n rest)) in
          let lower = c.in-Some-read_two_digits.ensures.only (n % 256) rest (omega arith) upper.1 in
          (omega (arith, upper.0, lower.0, few), lower.1);
    }
