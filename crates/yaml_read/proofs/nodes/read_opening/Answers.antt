use Rattle.yaml_read.proofs.Common.{◌++◌, ◌∷◌, ℕ, List, ap, codes, refl, subst, sym, ◌∙◌, space, Event, alias, seen_event, seen_text, IsOpeningRead}
use Rattle.yaml_read.proofs.Common.{NoName, NoOpening, ReadOr, is_alias, opening_text, ends_in_name}
use Rattle.yaml_read.proofs.NodeTexts.{absent_then, alias_read, at_alias, behind_mark, behind_none, behind_space, no_space, none_read, opening_of, opening_read}
use Rattle.yaml_read.proofs.NodeTexts.{read_or_then}
use Rattle.yaml_read.proofs.{NameEnds.alias_ends, NameTexts.anchor_sound}
use Rattle.yaml_read.proofs.nodes.read_opening.Goals as goal

pub returns-in-Ok : goal.returns-in-Ok
returns-in-Ok g c =
    subst (λ (t : List ℕ). IsOpeningRead t (alias (seen_text c.in-Ok.name)) c.in-Ok.rest.now) (sym c.in-Some.ensures.cut)
    (record {
      begins = is_alias (seen_text c.in-Ok.name) c.in-Ok.ensures.named;
      parts = alias_read (seen_text c.in-Ok.name) _ c.in-Ok.rest.now c.in-Ok.ensures.parts;
      only = λ other after begins ends is.
          let at = at_alias _ _ _ _ _ (opening_of _ begins) is refl in
          let read = c.in-Ok.ensures.only at.name after at.named ends at.stands in
          (ap alias read.0 ∙ at.is, read.1);
      over = record { ends = λ _. c.in-Ok.ensures.ends };
    })

pub returns-in-Err : goal.returns-in-Err
returns-in-Err g c =
    absent_then (NoName c.in-Some.inside.now) (NoOpening c.args.text.now) c.in-Err.stop (λ none event rest begins over is.
    let at = at_alias event (opening_text event) rest c.args.text.now c.in-Some.inside.now (opening_of event begins) is c.in-Some.ensures.cut in
    none at.name rest at.named (over.ends (ap (λ (e : Event). ends_in_name (opening_text e)) (sym at.is) ∙ alias_ends at.name at.named)) at.stands)
    c.in-Err.ensures

pub returns-in-Err-read_name : goal.returns-in-Err-read_name
returns-in-Err-read_name g c =
    absent_then (NoName c.in-Some-past.inside.now) (NoOpening c.args.text.now) c.in-Err-read_name.stop (λ none event rest begins over is.
    let at = behind_mark c.in-Some-past.inside.now event rest begins (sym c.in-Some-past.ensures.cut ∙ is) in
    none at.name (space ∷ at.more) at.named refl at.stands) c.in-Err-read_name.ensures

pub returns-in-Err-after : goal.returns-in-Err-after
returns-in-Err-after g c =
    none_read (NoOpening c.args.text.now) c.in-Err-after.stop
    (λ _ event rest begins over is. no_space (seen_text c.in-Ok-read_name.name) c.in-Some-past.inside.now c.in-Ok-read_name.behind.now
    c.in-Ok-read_name.ensures.only c.in-Err-after.ensures.cut event rest begins (sym c.in-Some-past.ensures.cut ∙ is))

pub returns-in-Ok-after : goal.returns-in-Ok-after
returns-in-Ok-after g c =
    let name = seen_text c.in-Ok-read_name.name in
    let inside = c.in-Some-past.inside.now in
    let text = codes "&" ++ inside in
    let anchor = anchor_sound name text _ _ c.in-Ok-after.rest.now c.in-Ok-read_name.ensures.named refl
    c.in-Ok-read_name.ensures.parts c.in-Ok-after.ensures.cut in
    let one = behind_space name inside _ c.in-Ok-after.rest.now c.in-Ok-read_name.ensures.only c.in-Ok-after.ensures.cut in
    subst (λ (t : List ℕ). ReadOr (λ found. IsOpeningRead t (seen_event found.0) found.1.now) (NoOpening t) c.read_tagged.result)
    (sym c.in-Some-past.ensures.cut) (read_or_then _ _ c.read_tagged.result (λ found read. opening_read _ _ _ _ _ anchor.0 anchor.1 one read)
    (λ none event rest begins over is.
    let at = one _ rest begins is in
    none at.tag at.held at.written rest at.sound at.scalars at.has at.stands) c.read_tagged.ensures)

pub returns-in-None-past : goal.returns-in-None-past
returns-in-None-past g c =
    let one = behind_none _ c.in-None.ensures.cut c.in-None-past.ensures.cut in
    read_or_then _ _ c.read_tagged-in-None-past.result (λ found read. opening_read _ _ _ _ _ tt refl one read) (λ none event rest begins over is.
    let at = one _ rest begins is in
    none at.tag at.held at.written rest at.sound at.scalars at.has at.stands) c.read_tagged-in-None-past.ensures
