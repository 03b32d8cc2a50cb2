use Rattle.yaml_json.proofs.texts.write_text_by.Goals as goal

pub returns : goal.returns
returns g c = c.write_text_in.ensures.gives
