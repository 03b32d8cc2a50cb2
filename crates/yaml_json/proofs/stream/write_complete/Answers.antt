use Rattle.yaml_json.proofs.Common.{ℕ, ◌-◌, drop, length, List, refl, subst, sym, HasScanned, StopsWithin, Position, MovesPosition}
use Rattle.yaml_json.proofs.SendingSteps.{left_scanned, left_within, advances_left}
use Rattle.yaml_json.proofs.stream.write_complete.Goals as goal

pub write_texts-requires : goal.write_texts-requires
write_texts-requires g c =
    record {
      bare = c.requires.bare;
      scanned = subst (λ (t : List ℕ). HasScanned t c.args.incoming.now.reading.cut) (sym c.as_slice-held.ensures.value) c.requires.incoming;
    }

pub keep_last-requires : goal.keep_last-requires
keep_last-requires g c = left_within _ _ _ _ c.as_slice-held.ensures.value c.in-Ok.ensures.gives.left

pub returns-in-Ok : goal.returns-in-Ok
returns-in-Ok g c =
    let a = c.args in
    let held = a.incoming.now.held.items in
    let left = c.keep_last.new.incoming in
    let gave = c.in-Ok.ensures.gives in
    record {
      bare = gave.bare;
      scanned = left_scanned _ _ _ _ _ _ c.as_slice-held.ensures.value c.keep_last.ensures.kept c.keep_last.ensures.cut gave.left;
      place = subst (λ (place : Position). MovesPosition held left.held.items place left.reading.position) c.in-Ok.ensures.place c.keep_last.ensures.place;
      advances = advances_left _ _ _ _ _ _ _ _ _ gave.advances _ _ _ refl c.as_slice-held.ensures.value c.keep_last.ensures.kept;
      grew = gave.grew;
    }

pub returns-in-Err : goal.returns-in-Err
returns-in-Err g c =
    let a = c.args in
    let stopped = c.in-Err.ensures.gives in
    record {
      stops = subst (λ (t : List ℕ). StopsWithin a.settings.now.values.depth a.settings.now.values.flow a.settings.now.unique_names t a.incoming.now.reading.position
          a.writer.now (g.W.Write.contents a.sink.now) c.in-Err.error c.write_texts.new.writer (g.W.Write.contents c.write_texts.new.sink))
          c.as_slice-held.ensures.value stopped.stops;
      grew = stopped.grew;
    }
