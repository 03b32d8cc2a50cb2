use Rattle.yaml_toml.proofs.Common.{List, ℕ, ap, ◌∙◌, scalar, number_content, number_in, decimal_content}
use Rattle.yaml_writer.proofs.GivenLemmas.{number_event_is}
use Rattle.yaml_toml.proofs.Answering.{gives_scalar, scalar_memory}
use Rattle.yaml_toml.proofs.scalars.write_decimal.Goals as goal

pub returns-in-Some-clause-gives : goal.returns-in-Some-clause-gives
returns-in-Some-clause-gives g c =
    let was = c.args.writer.now in
    let text = c.past_plus.result.now in
    gives_scalar (decimal_content was.canonical c.args.word.now) (number_event_is was text c.in-Some.number c.in-Some.ensures.bytes c.requires
    ∙ ap (λ (t : List ℕ). scalar (number_content was.canonical (number_in t))) c.past_plus.ensures)
    c.number.ensures

pub returns-in-None-clause-gives : goal.returns-in-None-clause-gives
returns-in-None-clause-gives g c = scalar_memory c.args.writer.now (decimal_content c.args.writer.now.canonical c.args.word.now)
