use Rattle.yaml_scalar.proofs.Common.{◌≤◌, length, false, ◌≡◌, length-take-le, ap, ◌∙◌, arith, stays_in_line, limit_where}
use Rattle.yaml_scalar.proofs.{StaysInLine.positive, StaysInLine.room_less, WholeRuns.run_in_prefix}
use Rattle.yaml_scalar.proofs.lines.leading_verbatim_run.Goals as goal

pub returns-else-room-eq0 : goal.returns-else-room-eq0
returns-else-room-eq0 g c =
    let lines = c.args.lines in
    let room = c.line_room-room.result in
    let size = c.run_up_to.result.length in
    let run = c.run_up_to.ensures (stays_in_line false lines.quoted) c.ending_classes.ensures in
    let near : length c.split_at.result.0.now ≡ c.floor_char_boundary.result =
    ap length c.split_at.ensures.front ∙ length-take-le c.floor_char_boundary.result c.args.rest.now c.floor_char_boundary.ensures.boundary.0 in
    let within : size ≤ room = omega (arith, run.boundary.0, near, c.floor_char_boundary.ensures.bound) in
    record {
      folds = false;
      run = run_in_prefix (stays_in_line false lines.quoted) c.args.character c.args.rest.now c.split_at.result.0.now c.floor_char_boundary.result size
          c.run_up_to.result.last c.utf8.rest c.floor_char_boundary.ensures.boundary c.split_at.ensures.front run;
      room = λ _. room_less (limit_where lines.allow_breaks lines.width) c.args.pen.now.cursor.column room size within
          (c.line_room-room.ensures (positive room c.if-room-eq0.false));
    }
