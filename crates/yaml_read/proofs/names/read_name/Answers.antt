use Rattle.yaml_read.proofs.Common.{ap, sym, ◌∙◌, prefix_len, is_alpha, NoName}
use Rattle.yaml_read.proofs.NameTexts.{copied_name, name_boundary, name_cut, name_found, name_sound, name_there}
use Rattle.yaml_read.proofs.{NameEnds.name_ends, NodeTexts.none_read}
use Rattle.yaml_read.proofs.names.read_name.Goals as goal

pub split_at-requires : goal.split_at-requires
split_at-requires g c = name_boundary c.args.text.now c.name_length.result c.utf8.text c.name_length.ensures

pub returns-then-is_empty : goal.returns-then-is_empty
returns-then-is_empty g c =
    let text = c.args.text.now in
    let cut = name_cut _ _ _ _ c.name_length.ensures c.split_at.ensures.front c.split_at.ensures.back c.split_at.ensures.front_len in
    none_read (NoName text) c.refused_at.result (λ _ name rest named ends is.
    name_there _ _ _ name rest cut named ends is (sym c.is_empty.ensures ∙ c.if-is_empty.true))

pub returns-in-Ok : goal.returns-in-Ok
returns-in-Ok g c =
    let cut = name_cut _ _ _ _ c.name_length.ensures c.split_at.ensures.front c.split_at.ensures.back c.split_at.ensures.front_len in
    let sound = name_sound c.in-Ok.name _ _ _ cut c.in-Ok.ensures.ok (sym c.is_empty.ensures ∙ c.if-is_empty.false) in
    record {
      named = sound.0;
      parts = sound.1;
      only = λ name rest named ends is.
          let found = name_found _ _ _ name rest cut named ends is in
          (copied_name c.in-Ok.name _ _ _ cut c.in-Ok.ensures.ok ∙ found.0, found.1);
      ends = name_ends c.split_at.result.0.now c.split_at.result.1.now cut.letters (cut.run ∙ ap (prefix_len is_alpha) cut.parts);
    }
