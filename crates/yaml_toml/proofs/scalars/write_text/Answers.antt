use Rattle.yaml_writer.proofs.GivenLemmas.{text_is}
use Rattle.yaml_toml.proofs.{Common.chars, Common.text_content, Answering.gives_scalar}
use Rattle.yaml_toml.proofs.scalars.write_text.Goals as goal

pub returns : goal.returns
returns g c =
    let text = chars c.args.text.now in
    gives_scalar (text_content text) (text_is c.args.writer.now text c.requires) c.text.ensures
