use Rattle.yaml_read.proofs.Common.{ap, sym, ◌∙◌, ◌++◌, none-some, same_Some, append-nil, encode_utf8, hex_digit, digit_meaning}
use Rattle.yaml_read.proofs.{Escapes.digit_reads, Firsts.first_is, CharactersRead.digit_is, DigitsRead.digit_small}
use Rattle.yaml_read.proofs.quoted.read_digit.Goals as goal

pub returns-in-None-digit_of : goal.returns-in-None-digit_of
returns-in-None-digit_of c =
    λ d rest few is.
    let first = first_is c.args.text.now c.in-Some.rest.now c.in-Some.c (hex_digit d) rest c.in-Some.ensures.cut is in
    none-some d (c.in-None-digit_of.ensures ∙ ap digit_meaning first.0 ∙ digit_reads d few)

pub returns-in-Some-digit_of : goal.returns-in-Some-digit_of
returns-in-Some-digit_of c =
    record {
      below = digit_small c.in-Some.c _ (sym c.in-Some-digit_of.ensures);
      parts =
          c.in-Some.ensures.cut ∙ ap (λ d. encode_utf8 d ++ c.in-Some.rest.now) (digit_is c.in-Some.c _ (sym c.in-Some-digit_of.ensures))
          ∙ ap (λ t. t ++ c.in-Some.rest.now) (sym (append-nil (encode_utf8 (hex_digit c.in-Some-digit_of.digit))));
      only = λ d rest few is.
          let first = first_is _ c.in-Some.rest.now c.in-Some.c (hex_digit d) rest c.in-Some.ensures.cut is in
          (same_Some c.in-Some-digit_of.digit d (c.in-Some-digit_of.ensures ∙ ap digit_meaning first.0 ∙ digit_reads d few), first.1);
    }
