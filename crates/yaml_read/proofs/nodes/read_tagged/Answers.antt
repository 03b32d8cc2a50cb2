use Rattle.yaml_read.proofs.Common.{◌++◌, [], ap, codes, refl, string_bytes, sym, ◌∙◌, IsUtf8-string_bytes, scalars-chars, any_layout, seen_text}
use Rattle.yaml_read.proofs.Common.{mapping_held, sequence_held, mapping_opened, sequence_opened}
use Rattle.yaml_read.proofs.NodeTexts.{at_brace, at_bracket, at_quote, held_read, none_read, tagged_read}
use Rattle.yaml_read.{specs.Beginnings.NoTagged, proofs.HeadsRead.word_bytes, proofs.Words.memory_only}
use Rattle.yaml_read.proofs.nodes.read_tagged.Goals as goal

pub returns-in-Some : goal.returns-in-Some
returns-in-Some g c =
    tagged_read c.in-Ok.tag _ _ c.in-Ok.behind.now _ _ (c.in-Ok.ensures.sound, c.in-Ok.ensures.parts) c.in-Ok.ensures.only
    (record {
      held = sequence_held [] any_layout;
      written = codes "[";
      has = sequence_opened;
      is = c.sequence_start.ensures;
      parts = c.in-Some.ensures.cut ∙ ap (λ w. w ++ c.in-Some.rest.now) (sym (word_bytes (codes "[") refl));
      only = λ other written after has is. at_bracket _ _ after _ c.in-Some.rest.now has is c.in-Some.ensures.cut;
    })

pub returns-in-Some-past : goal.returns-in-Some-past
returns-in-Some-past g c =
    tagged_read c.in-Ok.tag _ _ c.in-Ok.behind.now _ _ (c.in-Ok.ensures.sound, c.in-Ok.ensures.parts) c.in-Ok.ensures.only
    (record {
      held = mapping_held [] any_layout;
      written = codes "{";
      has = mapping_opened;
      is = c.mapping_start.ensures;
      parts = c.in-Some-past.ensures.cut ∙ ap (λ w. w ++ c.in-Some-past.rest.now) (sym (word_bytes (codes "{") refl));
      only = λ other written after has is. at_brace _ _ after _ c.in-Some-past.rest.now has is c.in-Some-past.ensures.cut;
    })

pub returns-in-Ok-read_quoted : goal.returns-in-Ok-read_quoted
returns-in-Ok-read_quoted g c =
    tagged_read c.in-Ok.tag _ _ _ _ _ (c.in-Ok.ensures.sound, c.in-Ok.ensures.parts) c.in-Ok.ensures.only (held_read _ _ _ _ _
    c.in-None.ensures.cut c.in-None-past.ensures.cut
    (record {
      value = seen_text c.in-Ok-read_quoted.value;
      scalars = scalars-chars (string_bytes c.in-Ok-read_quoted.value) (IsUtf8-string_bytes c.in-Ok-read_quoted.value);
      is = c.scalar.ensures;
      parts = c.in-Ok-read_quoted.ensures.sound;
      only = c.in-Ok-read_quoted.ensures.reads;
    }))

pub returns-in-Err-read_quoted : goal.returns-in-Err-read_quoted
returns-in-Err-read_quoted g c =
    none_read (NoTagged c.args.text.now) c.in-Err-read_quoted.stop (λ other tag held written rest sound scalars has is.
    let read = c.in-Ok.ensures.only tag (written ++ rest) sound scalars is in
    let at = at_quote held written rest c.in-Ok.behind.now has read.1 c.in-None.ensures.cut c.in-None-past.ensures.cut in
    other (memory_only c.in-Err-read_quoted.stop (c.in-Err-read_quoted.ensures.reads at.value rest at.scalars at.stands)))
