use Rattle.yaml_read.proofs.Common.{◌/◌, ◌%◌, ◌∷◌, arith, hex_digit}
use Rattle.yaml_read.proofs.CharactersRead.{two_read}
use Rattle.yaml_read.proofs.quoted.read_two_digits.Goals as goal

pub returns-in-None : goal.returns-in-None
returns-in-None c = λ n rest few is. c.in-None.ensures (n / 16 % 16) (hex_digit (n % 16) ∷ rest) (omega arith) is

pub returns-in-Some-read_digit : goal.returns-in-Some-read_digit
returns-in-Some-read_digit c =
    record {
      below = omega (arith, c.in-Some.ensures.below, c.in-Some-read_digit.ensures.below);
      parts =
          two_read c.args.text.now c.in-Some.behind.now c.in-Some-read_digit.rest.now c.in-Some.upper c.in-Some-read_digit.lower c.in-Some.ensures.below
          c.in-Some-read_digit.ensures.below c.in-Some.ensures.parts c.in-Some-read_digit.ensures.parts;
      only = λ n rest few is.
          let upper = c.in-Some.ensures.only (n / 16 % 16) (hex_digit (n % 16) ∷ rest) (omega arith) is in
          let lower = c.in-Some-read_digit.ensures.only (n % 16) rest (omega arith) upper.1 in
          (omega (arith, upper.0, lower.0, few), lower.1);
    }
