use Rattle.yaml_read.proofs.Common.{◌≡◌, ◌<◌, List, subst, sym, ◌∙◌, rules, arith, length, OpenLevel, seen_level, seen_levels, seen_value, HasRead, IsOpen}
use Rattle.yaml_read.proofs.Common.{Ended, none_ended}
use Rattle.yaml_value.proofs.SeenLevels.{no_levels}
use Rattle.yaml_read.{specs.Opened.TurnRead, specs.declared.levels.Turn.Turn, specs.Settled.TurnTook, specs.Stepped.TurnShorter}
use Rattle.yaml_read.proofs.{BreakingNodes.end_lacks, BreakingNodes.value_stops, Opening.value_out, Opening.taken, SettledLevels.ended_on, SettledLevels.off}
use Rattle.yaml_read.proofs.{SettledLevels.took_on, UniqueSoFar.ended_allows, SeenLevels.levels_length, SeenLevels.pushed_on}
use Rattle.yaml_read.proofs.levels.settle.Goals as goal

pub loop-level-init : goal.loop-level-init
loop-level-init g c = (search rules, omega arith, record { read = λ whole read. read }, none_ended)

pub returns-in-Err : goal.returns-in-Err
returns-in-Err g c =
    let inner = seen_levels c.pop.new.self.items in
    let depth : c.len.result ≡ length inner = c.len.ensures ∙ c.pop.new.self.ok.0 ∙ sym (levels_length c.pop.new.self.items) in
    record {
      read = λ whole read. tt;
      stops = λ mode whole read open_allow allow.
          let before = taken _ _ _ _ _ _ _ _ _ c.loop-level.invariant.2 c.in-Some.ensures.items read in
          let allowed = ended_allows mode _ _ _ _ (off _ _ _ _ _ _ c.loop-level.invariant.3 c.in-Some.ensures.items) open_allow allow in
          value_stops mode _ inner (seen_level c.in-Some.level) _ _ _ c.in-Err.stop depth before allowed.0 allowed.1 c.in-Err.ensures.breaks;
      shorter = tt;
      took = tt;
    }

pub returns-in-Ok-push : goal.returns-in-Ok-push
returns-in-Ok-push g c =
    let inner = seen_levels c.pop.new.self.items in
    let depth : c.len.result ≡ length inner = c.len.ensures ∙ c.pop.new.self.ok.0 ∙ sym (levels_length c.pop.new.self.items) in
    record {
      read = λ whole read.
          let before = taken _ _ _ _ _ _ _ _ _ c.loop-level.invariant.2 c.in-Some.ensures.items read in
          let turn : TurnRead whole inner c.in-Ok.turn = c.in-Ok.ensures.read whole inner depth before in
          let opened = subst (λ (t : Turn g.row.A.Denot). TurnRead whole inner t) c.in-Continues.is turn in
          subst (λ (levels : List OpenLevel). IsOpen whole levels c.in-Continues.next.now)
          (sym (pushed_on c.in-Continues.level c.pop.new.self.items _ c.in-Ok-push.ensures).0) opened;
      stops = λ mode whole read open_allow allow. tt;
      shorter = let less : length c.in-Continues.next.now < length c.loop-level.text.now =
          subst (λ (t : Turn g.row.A.Denot). TurnShorter c.loop-level.text.now t) c.in-Continues.is c.in-Ok.ensures.shorter in
          omega (arith, less, c.loop-level.invariant.1);
      took =
          took_on _ _ _ _ _ c.pop.new.self.items c.in-Some.level c.in-Continues.level c.loop-level.invariant.3 c.in-Some.ensures.items
          (subst (λ (t : Turn g.row.A.Denot). TurnTook (seen_level c.in-Some.level) (seen_value c.loop-level.value) t) c.in-Continues.is
          c.in-Ok.ensures.took) (pushed_on c.in-Continues.level c.pop.new.self.items _ c.in-Ok-push.ensures).0;
    }

pub returns-in-Ok-end_text : goal.returns-in-Ok-end_text
returns-in-Ok-end_text g c =
    let value = seen_value c.loop-level.value in
    let text = c.loop-level.text.now in
    let none = no_levels c.loop-level.levels.items (omega (arith, c.in_default.ensures.cases.0, c.loop-level.levels.ok.0)) in
    record {
      read = λ whole read.
          let out = subst (λ (levels : List OpenLevel). HasRead whole levels value text) none (c.loop-level.invariant.2.read whole read) in
          (value_out whole value text out c.in-Ok-end_text.ensures, out.readable);
      stops = λ mode whole read open_allow allow. tt;
      shorter = tt;
      took =
          subst (λ (levels : List OpenLevel). Ended (seen_levels c.args.levels.now.items) (seen_value c.args.value) levels value) none
          c.loop-level.invariant.3;
    }

pub returns-in-Err-end_text : goal.returns-in-Err-end_text
returns-in-Err-end_text g c =
    let value = seen_value c.loop-level.value in
    let text = c.loop-level.text.now in
    let none = no_levels c.loop-level.levels.items (omega (arith, c.in_default.ensures.cases.0, c.loop-level.levels.ok.0)) in
    record {
      read = λ whole read. tt;
      stops = λ mode whole read open_allow allow.
          let allowed = ended_allows mode _ _ _ _
          (subst (λ (levels : List OpenLevel). Ended (seen_levels c.args.levels.now.items) (seen_value c.args.value) levels value) none
          c.loop-level.invariant.3) open_allow allow in
          end_lacks mode _ _ _ _ (subst (λ (levels : List OpenLevel). HasRead whole levels value text) none (c.loop-level.invariant.2.read whole read))
          allowed.0 allowed.1 c.in-Err-end_text.ensures;
      shorter = tt;
      took = tt;
    }

pub loop-level-preserved : goal.loop-level-preserved
loop-level-preserved g c =
    let inner = seen_levels c.pop.new.self.items in
    let depth : c.len.result ≡ length inner = c.len.ensures ∙ c.pop.new.self.ok.0 ∙ sym (levels_length c.pop.new.self.items) in
    let less : length c.in-Ends.next.now < length c.loop-level.text.now =
    subst (λ (t : Turn g.row.A.Denot). TurnShorter c.loop-level.text.now t) c.in-Ends.is c.in-Ok.ensures.shorter in (
      search rules,
      omega (arith, less, c.loop-level.invariant.1),
      record {
        read = λ whole read.
            let before = taken _ _ _ _ _ _ _ _ whole c.loop-level.invariant.2 c.in-Some.ensures.items read in
            let turn : TurnRead whole inner c.in-Ok.turn = c.in-Ok.ensures.read whole inner depth before in
            subst (λ (t : Turn g.row.A.Denot). TurnRead whole inner t) c.in-Ends.is turn;
      },
      ended_on (seen_levels c.args.levels.now.items) (seen_value c.args.value) (seen_value c.loop-level.value) (seen_value c.in-Ends.whole)
          c.loop-level.levels.items c.pop.new.self.items c.in-Some.level c.loop-level.invariant.3 c.in-Some.ensures.items
          (subst (λ (t : Turn g.row.A.Denot). TurnTook (seen_level c.in-Some.level) (seen_value c.loop-level.value) t) c.in-Ends.is c.in-Ok.ensures.took),
    )
