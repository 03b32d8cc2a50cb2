use Rattle.yaml_json.proofs.Common.{◌<◌, ◌+◌, ◌≡◌, [], ◌∷◌, true, length, length-append, ap, sym, ◌∙◌, arith, refl, at}
use Rattle.yaml_json.proofs.{KeepingNames.keeps_opener, Stopping.kept_by_text, WalkCalls.opener_step, WalkCalls.opener_without_room}
use Rattle.yaml_json.specs.declared.values.Stop.TheVariants as stops
use Rattle.yaml_json.proofs.values.begin.Goals as goal

pub returns-in-Err : goal.returns-in-Err
returns-in-Err g c =
    let a = c.args in
    let room : length a.nest.now.kinds.items < a.settings.now.values.depth = grind (arith, c.requires.fits.0) in
    opener_without_room a.settings.now a.kind a.nest.now _ a.writer.now room

pub returns-in-Err-push : goal.returns-in-Err-push
returns-in-Err-push g c =
    let a = c.args in
    let room : length a.nest.now.kinds.items < a.settings.now.values.depth = grind (arith, c.requires.fits.0) in
    opener_without_room a.settings.now a.kind a.nest.now _ a.writer.now room

pub returns-in-Ok : goal.returns-in-Ok
returns-in-Ok g c =
    let a = c.args in
    let fits = c.requires.fits in
    let entered = c.in_default.ensures in
    let room : length a.nest.now.kinds.items < a.settings.now.values.depth = grind (arith, fits.0) in
    let more : length c.push.new.self.items ≡ length a.nest.now.kinds.items + 1 =
    ap length c.in-Ok.ensures.items ∙ length-append a.nest.now.kinds.items (a.kind ∷ []) in
    let as_many = λ (kept : c.enter.new.self.are_kept ≡ true). let was = sym entered.kept ∙ kept in
    entered.longer was ∙ ap (λ n. n + 1) (fits.1.1 was) ∙ sym more in
    opener_step a.settings.now a.kind (at a.nest.now a.writer.now) _ room c.in-Ok.ensures.items (omega (arith, room, more), (entered.kept ∙ fits.1.0, as_many))
    (keeps_opener a.kind a.nest.now.names c.enter.new.self entered.kept entered.holds) c.start.result c.answer_of.result c.answer_of.ensures c.start.ensures
