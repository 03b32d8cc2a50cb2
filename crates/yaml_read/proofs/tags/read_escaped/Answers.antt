use Rattle.yaml_read.proofs.Common.{arith, rules, sym, true≢false, NoEscaped}
use Rattle.yaml_read.proofs.TagPrefixes.{word_more, word_seen, word_sound, word_utf8, word_whole}
use Rattle.yaml_read.proofs.{NodeTexts.none_read, TagBytes.byte_shorter}
use Rattle.yaml_read.proofs.tags.read_escaped.Goals as goal

pub bytes-preserved : goal.bytes-preserved
bytes-preserved g c = (
  search rules,
  omega (arith, c.bytes.invariant.1, byte_shorter c.bytes.rest.now c.in-Some.next.now c.in-Some.byte c.in-Some.ensures.0),
  word_more c.args.prefix.now c.args.text.now c.bytes.bytes.items c.push.new.self.items c.bytes.rest.now c.in-Some.next.now c.in-Some.byte
      c.bytes.invariant.2 c.in-Ok-push.ensures.items c.in-Some.ensures.0 c.in-Some.ensures.1,
)

pub returns-in-Ok-from_utf8 : goal.returns-in-Ok-from_utf8
returns-in-Ok-from_utf8 g c =
    let found = word_sound c.in-Ok-from_utf8.value _ _ _ _ c.requires c.in-Ok-from_utf8.ensures.ok c.bytes.invariant.2 in
    record {
      word = found.0;
      is = found.1;
      parts = found.2;
      only = λ word rest scalars ends is.
          let all = word_whole _ _ _ _ word rest c.bytes.invariant.2 c.in-None.ensures scalars ends is in
          (word_seen c.in-Ok-from_utf8.value _ c.args.prefix.now word c.requires scalars c.in-Ok-from_utf8.ensures.ok all.0, all.1);
    }

pub returns-in-Err-from_utf8 : goal.returns-in-Err-from_utf8
returns-in-Err-from_utf8 g c =
    none_read (NoEscaped c.args.text.now) c.refused_at.result (λ _ word rest scalars ends is.
    let all = word_whole _ _ _ _ word rest c.bytes.invariant.2 c.in-None.ensures scalars ends is in
    true≢false (sym (c.in-Err-from_utf8.ensures.succeeds (word_utf8 c.args.prefix.now _ word c.requires scalars all.0))))
