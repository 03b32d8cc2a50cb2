use Rattle.yaml_json.proofs.Common.{◌≡◌, [], sym, ap, ◌∙◌, ahead, Reader}
use Rattle.yaml_json.proofs.{Reaching.reads_no_more, Reaching.reads_one, Reaching.still_ahead, Stepping.first_printable}
use Rattle.yaml_json.proofs.tokens.Tokens.next.Goals as goal

pub returns-in-Ok-Some : goal.returns-in-Ok-Some
returns-in-Ok-Some g c =
    let read = rw c.in-Ok-Some.field-0-is at c.in-Ok-Some.ensures in
    let s = c.self.inside in
    record {
      value = sym (ap (λ (r : Reader). r.ahead) c.self.view_is) ∙ read.reads.first;
      printable = first_printable s.stage s.rest.now c.in-Ok-Some.step.token _ read.reads.first;
      before = still_ahead s.text.now s.stage s.rest.now s.was s.left c.self.invariant ∙ ap (λ (r : Reader). r.ahead) c.self.view_is;
      text = ap (λ (r : Reader). r.text) c.self.view_is;
    }

pub invariant_of-self-in-Ok-Some : goal.invariant_of-self-in-Ok-Some
invariant_of-self-in-Ok-Some g c =
    let read = rw c.in-Ok-Some.field-0-is at c.in-Ok-Some.ensures in
    let s = c.self.inside in
    reads_one s.text.now s.stage s.rest.now s.was s.left c.self.invariant c.in-Ok-Some.step c.in_default.not-Over read.reads read.over

-- ---- there is none

pub invariant_of-self : goal.invariant_of-self
invariant_of-self g c = let s = c.self.inside in reads_no_more s.text.now s.stage s.rest.now s.was s.left c.self.invariant
