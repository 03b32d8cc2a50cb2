use Rattle.yaml_scalar.proofs.Common.{◌<◌, ℕ, List, length, false, not, true, ◌≡◌, arith, nat_tests, subst, sym, ◌∙◌, and_parts, not-true, chars, Space}
use Rattle.yaml_scalar.proofs.Common.{wrote_as, written_as, render_steps, limit_where, stays_in_line, IsShortLine}
use Rattle.yaml_scalar.proofs.{LinesWritten.wrote_runs, ShortRuns.short_line_rendered, StaysInLine.room_less}
use Rattle.yaml_scalar.proofs.{SimpleAsciiTexts.simple_ascii_some, SimpleAsciiTexts.simple_ascii_line}
use Rattle.yaml_scalar.specs.declared.lines.Known.{Known}
use Rattle.yaml_scalar.specs.SimpleAsciiTexts.{IsKnown, IsUnquotedAscii}
use Rattle.yaml_scalar.proofs.lines.write_lines.Goals as goal

pub write_short_run-requires-clause-few : goal.write_short_run-requires-clause-few
write_short_run-requires-clause-few g c =
    let known : IsUnquotedAscii c.args.lines.quoted c.args.value.now =
    subst (λ (k : Known). IsKnown k c.args.lines.quoted c.args.value.now) c.in-SimpleAscii.is c.requires.known in
    known.simple_ascii.line.few

pub write_short_run-requires-clause-plain : goal.write_short_run-requires-clause-plain
write_short_run-requires-clause-plain g c =
    let known : IsUnquotedAscii c.args.lines.quoted c.args.value.now =
    subst (λ (k : Known). IsKnown k c.args.lines.quoted c.args.value.now) c.in-SimpleAscii.is c.requires.known in
    known.simple_ascii.line.plain

pub returns-in-SimpleAscii : goal.returns-in-SimpleAscii
returns-in-SimpleAscii g c =
    let lines = c.args.lines in
    let limit = limit_where lines.allow_breaks lines.width in
    let value : List ℕ = c.args.value.now in
    let cursor = c.args.pen.now.cursor in
    let known : IsUnquotedAscii lines.quoted value = subst (λ (k : Known). IsKnown k lines.quoted value) c.in-SimpleAscii.is c.requires.known in
    let some = simple_ascii_some known.simple_ascii in
    let line = simple_ascii_line limit cursor known.plain known.simple_ascii
    (room_less limit cursor.column c.line_room.result (length value) c.if-value-line_room.false
    (c.line_room.ensures (omega (arith, some, c.if-value-line_room.false)))) in
    wrote_runs lines.quoted limit lines.indent (chars value)
    (wrote_as (render_steps (written_as lines.quoted) limit lines.indent Space (chars value))
    (short_line_rendered lines.quoted limit lines.indent cursor line) c.write_short_run.ensures)

pub write_short_run-requires-then-short-clause-few : goal.write_short_run-requires-then-short-clause-few
write_short_run-requires-then-short-clause-few g c =
    (c.is_short_run.ensures.run (and_parts _ _ c.if-short.true).1 (stays_in_line false c.args.lines.quoted)
    c.short_classes.ensures.plain c.short_classes.ensures.line).few

pub write_short_run-requires-then-short-clause-plain : goal.write_short_run-requires-then-short-clause-plain
write_short_run-requires-then-short-clause-plain g c =
    (c.is_short_run.ensures.run (and_parts _ _ c.if-short.true).1 (stays_in_line false c.args.lines.quoted)
    c.short_classes.ensures.plain c.short_classes.ensures.line).plain

pub returns-then-short : goal.returns-then-short
returns-then-short g c =
    let lines = c.args.lines in
    let limit = limit_where lines.allow_breaks lines.width in
    let value : List ℕ = c.args.value.now in
    let cursor = c.args.pen.now.cursor in
    let is : (not c.is_empty.result ≡ true) × (c.is_short_run.result ≡ true) = and_parts _ _ c.if-short.true in
    let some : 0 < length value = grind (arith, nat_tests, sym c.is_empty.ensures ∙ not-true _ is.0) in
    let line : IsShortLine limit lines.quoted cursor value =
    record {
      run = c.is_short_run.ensures.run is.1 (stays_in_line false lines.quoted) c.short_classes.ensures.plain c.short_classes.ensures.line;
      room = room_less limit cursor.column c.line_room.result (length value) c.if-value-line_room.false
          (c.line_room.ensures (omega (arith, some, c.if-value-line_room.false)));
    } in
    wrote_runs lines.quoted limit lines.indent (chars value)
    (wrote_as (render_steps (written_as lines.quoted) limit lines.indent Space (chars value))
    (short_line_rendered lines.quoted limit lines.indent cursor line) c.write_short_run-then-short.ensures)
