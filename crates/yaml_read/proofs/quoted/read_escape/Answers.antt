use Rattle.yaml_read.proofs.Common.{◌<◌, ◌∙◌, Some, ap, arith, refl, sym, true, true≢false, IfSome_then, none-some, same_Some, needs_escape, hex_digits}
use Rattle.yaml_read.proofs.FirstCharacters.{four_digits_follow, letter_follows, read_on, two_digits_follow}
use Rattle.yaml_read.proofs.CharactersRead.{letter_read, letter_scalar, long_read, number_reads, number_sound, short_read}
use Rattle.yaml_read.proofs.DigitsRead.{digits_reads, digits_sound}
use Rattle.yaml_read.proofs.quoted.read_escape.Goals as goal

pub returns-then-letter-eq120 : goal.returns-then-letter-eq120
returns-then-letter-eq120 c =
    record {
      reads =
          λ d rest scalar needs is.
          let two = two_digits_follow d rest _ _ c.in-Some.rest.now scalar needs is c.in-Some.ensures.cut c.if-letter-eq120.true in
          number_reads 0 d rest _ _ (digits_reads 256 (hex_digits 2) _ _ c.read_two_digits.ensures d rest two.0 two.2)
          c.read_number.ensures scalar needs two.1 (omega arith);
      sound =
          let sound = digits_sound 256 (hex_digits 2) c.in-Some.rest.now c.read_two_digits.result c.read_two_digits.ensures in
          IfSome_then c.read_number.result (number_sound 2 0 c.in-Some.rest.now (λ n. n < 256) _ _ sound.0 sound.1 c.read_number.ensures)
          (λ found is. short_read _ _ _ _ _ is.0 is.2 c.in-Some.ensures.cut c.if-letter-eq120.true);
    }

pub returns-then-letter-eq117 : goal.returns-then-letter-eq117
returns-then-letter-eq117 c =
    record {
      reads =
          λ d rest scalar needs is.
          let four = four_digits_follow d rest _ _ c.in-Some.rest.now scalar needs is c.in-Some.ensures.cut c.if-letter-eq117.true in
          number_reads 256 d rest _ _ (digits_reads 65536 (hex_digits 4) _ _ c.read_four_digits.ensures d rest four.1 four.3)
          c.read_number-then-letter-eq117.ensures scalar needs four.2 four.0;
      sound =
          let sound = digits_sound 65536 (hex_digits 4) c.in-Some.rest.now c.read_four_digits.result c.read_four_digits.ensures in
          IfSome_then c.read_number-then-letter-eq117.result (number_sound 4 256 c.in-Some.rest.now (λ n. n < 65536) _ _ sound.0 sound.1
          c.read_number-then-letter-eq117.ensures) (λ found is. long_read _ _ _ _ _ is.0 is.1 is.2 c.in-Some.ensures.cut c.if-letter-eq117.true);
    }

pub returns-then-needs_escape : goal.returns-then-needs_escape
returns-then-needs_escape c =
    let letter = c.in-Some.letter in
    let means = sym c.in-Some-unescape_letter.ensures in
    record {
      reads =
          λ d rest scalar needs is.
          let follows = letter_follows d rest letter _ c.in-Some.rest.now scalar needs is c.in-Some.ensures.cut
          c.if-letter-eq120.false c.if-letter-eq117.false in
          read_on (Some (c.in-Some-unescape_letter.c, c.in-Some.rest)) d rest _ follows.1
          (same_Some c.in-Some-unescape_letter.c d (c.in-Some-unescape_letter.ensures ∙ follows.0), refl);
      sound = letter_read _ _ letter _ (letter_scalar letter _ means) means (sym c.needs_escape.ensures ∙ c.if-needs_escape.true) c.in-Some.ensures.cut;
    }

pub returns-else-needs_escape : goal.returns-else-needs_escape
returns-else-needs_escape c =
    record {
      reads =
          λ d rest scalar needs is.
          let follows = letter_follows d rest c.in-Some.letter c.args.text.now c.in-Some.rest.now scalar needs is c.in-Some.ensures.cut
          c.if-letter-eq120.false c.if-letter-eq117.false in
          let same = same_Some c.in-Some-unescape_letter.c d (c.in-Some-unescape_letter.ensures ∙ follows.0) in
          true≢false (sym needs ∙ ap (needs_escape true) (sym same) ∙ sym c.needs_escape.ensures ∙ c.if-needs_escape.false);
      sound = tt;
    }

pub returns-in-None-unescape_letter : goal.returns-in-None-unescape_letter
returns-in-None-unescape_letter c =
    record {
      reads =
          λ d rest scalar needs is.
          let follows = letter_follows d rest c.in-Some.letter c.args.text.now c.in-Some.rest.now scalar needs is c.in-Some.ensures.cut
          c.if-letter-eq120.false c.if-letter-eq117.false in
          absurd (none-some d (c.in-None-unescape_letter.ensures ∙ follows.0));
      sound = tt;
    }
