use Rattle.std.proofs.Common.{◌++◌, List, ap, subst, sym, ◌∙◌, ℕ}
use Rattle.std.specs.Str.{IsUtf8}
use Rattle.json.specs.Lex.{tokens}
use Rattle.json.specs.Print.{print}
use Rattle.yaml_value.specs.SeenValues.{seen_value}
use Rattle.yaml_json_value.proofs.Untyping.{is_value_back}
use Rattle.yaml_json_value.proofs.writing.json_from_value.Goals as goal

pub returns-in-Ok-clause-written : goal.returns-in-Ok-clause-written
returns-in-Ok-clause-written g c =
    let written = c.write_tokens.new.writer.tokens in
    let none = c.in-Ok.ensures.2 ∙ c.new-writer.ensures.before ∙ c.new.ensures.items in
    let text = c.into_inner.ensures.items ∙ ap (λ (before : List ℕ). before ++ print written) none in
    is_value_back (seen_value c.args.value.now) written c.into_inner.result.items c.in-Ok.ensures.0
    (ap tokens text ∙ c.into_inner.ensures.reads_back)

pub returns-in-Ok-clause-utf8 : goal.returns-in-Ok-clause-utf8
returns-in-Ok-clause-utf8 g c =
    let none = c.in-Ok.ensures.2 ∙ c.new-writer.ensures.before ∙ c.new.ensures.items in
    let text = c.into_inner.ensures.items ∙ ap (λ (before : List ℕ). before ++ print c.write_tokens.new.writer.tokens) none in
    subst IsUtf8 (sym text) c.into_inner.ensures.utf8
