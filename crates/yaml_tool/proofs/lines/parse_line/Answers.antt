use Rattle.yaml_tool.proofs.Common.{option_map, None, Some, ◌∷◌, ap, sym, ◌∙◌, chars, seen_event, line_read, fields_read, later_fields, seen_setting}
use Rattle.yaml_tool.proofs.LineLemmas.{event_parsed, setting_parsed, bytes_parsed_nothing, bytes_parsed, comment_parsed, fields_parsed}
use Rattle.yaml_tool.proofs.lines.parse_line.Goals as goal

pub returns-in_default : goal.returns-in_default
returns-in_default g c = sym (bytes_parsed_nothing c.args.bytes.now c.in_default.ensures.cases.0)

pub returns-in_default-first_character : goal.returns-in_default-first_character
returns-in_default-first_character g c =
    bytes_parsed c.args.bytes.now c.in-Ok.line.now _ c.in-Ok.ensures.cases.0 c.in-Ok.ensures.cases.1
    (sym (ap line_read c.in_default-first_character.ensures.characters))

pub returns-in-None : goal.returns-in-None
returns-in-None g c =
    let comment = chars c.in-Some.comment.now in
    bytes_parsed c.args.bytes.now c.in-Ok.line.now _ c.in-Ok.ensures.cases.0 c.in-Ok.ensures.cases.1
    (comment_parsed (chars c.in-Ok.line.now) comment (c.in-Some.ensures.characters ∙ ap (λ d. d ∷ comment) c.if-first-eq35.true) c.in-None.ensures.cut)

pub returns-in-Some-2 : goal.returns-in-Some-2
returns-in-Some-2 g c =
    let line = chars c.in-Ok.line.now in
    bytes_parsed c.args.bytes.now c.in-Ok.line.now _ c.in-Ok.ensures.cases.0 c.in-Ok.ensures.cases.1
    (event_parsed c.in-Some-event_named.name (chars c.in-Some-word_after.word.now) (fields_read line) (later_fields c.in-Some-word_after.rest)
    (Some (seen_event c.in-Some-2.event)) c.in-Some-event_named.ensures c.in-Some-word_after.ensures
    (sym (ap (option_map seen_event) c.in-Some-2.is) ∙ c.in_ok-event-in-Some-event_named.ensures)
    ∙ fields_parsed line (chars c.in-Some.comment.now) c.in-Some.first c.in-Some.ensures.characters c.if-first-eq35.false)

pub returns-in-None-2 : goal.returns-in-None-2
returns-in-None-2 g c =
    let line = chars c.in-Ok.line.now in
    bytes_parsed c.args.bytes.now c.in-Ok.line.now _ c.in-Ok.ensures.cases.0 c.in-Ok.ensures.cases.1
    (event_parsed c.in-Some-event_named.name (chars c.in-Some-word_after.word.now) (fields_read line) (later_fields c.in-Some-word_after.rest)
    None c.in-Some-event_named.ensures c.in-Some-word_after.ensures
    (sym (ap (option_map seen_event) c.in-None-2.is) ∙ c.in_ok-event-in-Some-event_named.ensures)
    ∙ fields_parsed line (chars c.in-Some.comment.now) c.in-Some.first c.in-Some.ensures.characters c.if-first-eq35.false)

pub returns-in-Some-parse_setting : goal.returns-in-Some-parse_setting
returns-in-Some-parse_setting g c =
    let line = chars c.in-Ok.line.now in
    bytes_parsed c.args.bytes.now c.in-Ok.line.now _ c.in-Ok.ensures.cases.0 c.in-Ok.ensures.cases.1
    (setting_parsed (chars c.in-Some-word_after.word.now) (fields_read line) (later_fields c.in-Some-word_after.rest)
    (Some (seen_setting c.in-Some-parse_setting.setting)) c.in-None-event_named.ensures c.in-Some-word_after.ensures c.in-Some-parse_setting.ensures
    ∙ fields_parsed line (chars c.in-Some.comment.now) c.in-Some.first c.in-Some.ensures.characters c.if-first-eq35.false)

pub returns-in-None-parse_setting : goal.returns-in-None-parse_setting
returns-in-None-parse_setting g c =
    let line = chars c.in-Ok.line.now in
    bytes_parsed c.args.bytes.now c.in-Ok.line.now _ c.in-Ok.ensures.cases.0 c.in-Ok.ensures.cases.1
    (setting_parsed (chars c.in-Some-word_after.word.now) (fields_read line) (later_fields c.in-Some-word_after.rest)
    None c.in-None-event_named.ensures c.in-Some-word_after.ensures c.in-None-parse_setting.ensures
    ∙ fields_parsed line (chars c.in-Some.comment.now) c.in-Some.first c.in-Some.ensures.characters c.if-first-eq35.false)
