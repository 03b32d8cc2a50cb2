use Rattle.yaml_read.proofs.Common.{Some, false, ◌++◌, ap, sym, ◌∙◌, true≢false, chars, encode_utf8_all, percent_escaped, tag_text, NoEscaped, NoTag}
use Rattle.yaml_read.proofs.Common.{is_spelled_by}
use Rattle.yaml_read.proofs.TagTexts.{end_ascii, end_ends, is_spelled, suffix_scalars, tag_sound, word_at}
use Rattle.yaml_read.proofs.{Encoded.word_encoded, NodeTexts.absent_then, NodeTexts.none_read, Turns.cut_is, Words.no_word}
use Rattle.yaml_read.proofs.tags.read_spelled.Goals as goal

pub returns : goal.returns
returns g c =
    λ whole opens.
    let prefix = c.args.prefix.now in
    let end = c.args.end.now in
    let text = c.args.text.now in
    absent_then (NoEscaped text) (NoTag whole) c.in-Err.stop (λ none tag rest sound scalars is.
    let at = word_at tag (tag_text (Some tag) false) rest whole prefix end text opens (is_spelled tag sound) is in
    none at.word (end ++ rest) (suffix_scalars prefix tag at.word at.is scalars) (end_ends whole prefix end text rest opens) at.text) c.in-Err.ensures

pub returns-in-Ok : goal.returns-in-Ok
returns-in-Ok g c =
    λ whole opens.
    let prefix = c.args.prefix.now in
    let end = c.args.end.now in
    none_read (NoTag whole) c.in-Err-after.stop (λ _ tag rest sound scalars is.
    let at = word_at _ _ _ _ _ _ _ opens (is_spelled _ sound) is in
    let read = c.in-Ok.ensures.only at.word (end ++ rest) (suffix_scalars prefix tag at.word at.is scalars) (end_ends _ _ _ _ rest opens) at.text in
    no_word end c.in-Ok.behind.now (encode_utf8_all rest) c.in-Err-after.ensures.cut (read.1 ∙ word_encoded end rest (end_ascii _ _ _ _ opens)))

pub returns-then-is_spelled_by : goal.returns-then-is_spelled_by
returns-then-is_spelled_by g c =
    λ whole opens.
    let prefix = c.args.prefix.now in
    let end = c.args.end.now in
    let found = tag_sound _ c.in-Ok.ensures.word _ _ _ _ c.in-Ok-after.rest.now opens c.in-Ok.ensures.is
    (sym (ap (λ t. is_spelled_by prefix (chars t)) c.as_str.ensures.value) ∙ sym c.is_spelled_by.ensures ∙ c.if-is_spelled_by.true)
    (c.in-Ok.ensures.parts ∙ ap (λ t. percent_escaped c.in-Ok.ensures.word ++ t) c.in-Ok-after.ensures.cut) in
    record {
      sound = found.0;
      parts = found.1;
      only = λ tag rest sound scalars is.
          let at = word_at _ _ _ _ _ _ _ opens (is_spelled _ sound) is in
          let read = c.in-Ok.ensures.only at.word (end ++ rest) (suffix_scalars prefix tag at.word at.is scalars)
          (end_ends _ _ _ _ rest opens) at.text in (
            read.0 ∙ at.is,
            cut_is end _ c.in-Ok-after.rest.now (encode_utf8_all rest) c.in-Ok-after.ensures.cut
                (read.1 ∙ word_encoded end rest (end_ascii _ _ _ _ opens)),
          );
    }

pub returns-in-Ok-after : goal.returns-in-Ok-after
returns-in-Ok-after g c =
    λ whole opens.
    let prefix = c.args.prefix.now in
    let end = c.args.end.now in
    none_read (NoTag whole) c.refused_at.result (λ _ tag rest sound scalars is.
    let at = word_at _ _ _ _ _ _ _ opens (is_spelled _ sound) is in
    let read = c.in-Ok.ensures.only at.word (end ++ rest) (suffix_scalars prefix tag at.word at.is scalars) (end_ends _ _ _ _ rest opens) at.text in
    true≢false (sym at.spelled ∙ ap (is_spelled_by prefix) (sym (read.0 ∙ at.is))
    ∙ sym (ap (λ t. is_spelled_by prefix (chars t)) c.as_str.ensures.value) ∙ sym c.is_spelled_by.ensures ∙ c.if-is_spelled_by.false))
