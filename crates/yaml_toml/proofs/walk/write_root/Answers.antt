use Rattle.yaml_toml.proofs.Common.{ValueSettings, ◌≡◌, ◌+◌, [], List, Result, Ok, Err, WriterState, subst, ap, sym, arith, kept_then, toml_events}
use Rattle.yaml_toml.proofs.Common.{pending_size, rest_size, TomlStep, collection_due, value_due, walk_at, Rest, Stop, TomlNodes, table, table_view, Header}
use Rattle.yaml_toml.proofs.{Pending.size-push, Fitting.nests_on, Fitting.nests_stopped, Stepping.step_begun}
use Rattle.yaml_toml.proofs.Running.{innermost, runs_first, runs_on, runs_out, runs_stopped, so_given, stopped_first}
use Rattle.yaml_toml.specs.WalkSteps.{value_of_rest}
use Rattle.yaml_toml.specs.declared.walk.Rest.TheVariants as rest
use Rattle.yaml_toml.proofs.walk.write_root.Goals as goal

-- the root table is begun
first_step : (settings : ValueSettings) (start now : WriterState) (root : TomlNodes) (r : Rest) (opened after : List Rest) (result : Result (Unit {0}) Stop)
    → opened ≡ [] → table Header root ≡ value_of_rest Header r → TomlStep settings (collection_due r) (walk_at start opened) result (walk_at now after)
    → TomlStep settings (value_due (table Header root)) (walk_at start []) result (walk_at now after)
first_step settings start now root r opened after result none seen step =
    step_begun _ _ _ _ r _ [] _ _ seen (subst (λ (o : List Rest). TomlStep settings (collection_due r) (walk_at start o) result (walk_at now after)) none step)

pub rests-init : goal.rests-init
rests-init g c =
    let root = table_view c.args.root.now in
    runs_first _ _ _ _ _ (first_step c.args.settings.now c.args.writer.now c.enter.new.writer root (rest.Members c.live_keys.result) c.new-opened.result.items
    c.enter.new.opened.items (Ok tt) c.new-opened.ensures.items (ap (table Header) (sym c.live_keys.ensures)) c.in_default.ensures)

pub returns-in-Err : goal.returns-in-Err
returns-in-Err g c =
    let root = table_view c.args.root.now in
    let stopped = c.in-Err.stop in
    stopped_first _ _ _ _ _ _ c.requires (first_step c.args.settings.now c.args.writer.now c.enter.new.writer root (rest.Members c.live_keys.result)
    c.new-opened.result.items c.enter.new.opened.items (Err stopped) c.new-opened.ensures.items (ap (table Header) (sym c.live_keys.ensures)) c.in-Err.ensures)

pub write_rest-requires-clause-innermost : goal.write_rest-requires-clause-innermost
write_rest-requires-clause-innermost g c =
    let all = toml_events c.args.writer.now.canonical c.args.settings.now.flow (table Header (table_view c.args.root.now)) in
    let so = rw c.in-Some.ensures at c.rests.invariant.1 in
    innermost {all = all} c.take_innermost.new.opened.items c.in-Some.rest so

pub write_rest-requires-clause-bare : goal.write_rest-requires-clause-bare
write_rest-requires-clause-bare g c =
    let all = toml_events c.args.writer.now.canonical c.args.settings.now.flow (table Header (table_view c.args.root.now)) in
    let so = rw c.in-Some.ensures at c.rests.invariant.1 in
    (so_given {all = all} so).bare

pub rests-smaller : goal.rests-smaller
rests-smaller g c =
    let less = c.in_default-write_rest.ensures.written.less in
    omega (arith, less, ap pending_size c.in-Some.ensures, size-push c.take_innermost.new.opened.items c.in-Some.rest)

pub rests-preserved : goal.rests-preserved
rests-preserved g c =
    let all = toml_events c.args.writer.now.canonical c.args.settings.now.flow (table Header (table_view c.args.root.now)) in
    let left = c.take_innermost.new.opened.items in
    let after = c.write_rest.new.opened.items in
    let r = c.in-Some.rest in
    let step = c.in_default-write_rest.ensures in
    let fits = rw c.in-Some.ensures at c.rests.invariant.0 in
    let so = rw c.in-Some.ensures at c.rests.invariant.1 in (
      nests_on c.args.settings.now.depth (table_view c.args.root.now) left after r fits step.nests,
      runs_on {all = all} left r so c.write_rest.new.writer after (rest_size r + pending_size left) step.written step.kept,
    )

pub returns : goal.returns
returns g c =
    let all = toml_events c.args.writer.now.canonical c.args.settings.now.flow (table Header (table_view c.args.root.now)) in
    let fits = rw c.in_default-take_innermost.ensures.0 at c.rests.invariant.0 in
    let so = rw c.in_default-take_innermost.ensures.0 at c.rests.invariant.1 in
    record { written = runs_out {all = all} so; numbers = so.numbers_in tt; nests = fits.0 tt; kept = so.kept }

pub returns-in-Err-write_rest : goal.returns-in-Err-write_rest
returns-in-Err-write_rest g c =
    let all = toml_events c.args.writer.now.canonical c.args.settings.now.flow (table Header (table_view c.args.root.now)) in
    let left = c.take_innermost.new.opened.items in
    let now = c.write_rest.new.writer in
    let stopped = c.in-Err-write_rest.stop in
    let step = c.in-Err-write_rest.ensures in
    let fits = rw c.in-Some.ensures at c.rests.invariant.0 in
    let so = rw c.in-Some.ensures at c.rests.invariant.1 in
    record {
      nests = nests_stopped c.args.settings.now.depth (table_view c.args.root.now) left c.write_rest.new.opened.items c.in-Some.rest fits stopped step.nests;
      stopped = runs_stopped {all = all} left c.in-Some.rest so now step.stopped;
      kept = kept_then c.args.writer.now c.rests.writer now (Err stopped) so.kept step.kept;
    }
