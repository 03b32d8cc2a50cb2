use Rattle.std.proofs.Common.{rules, codes, subst, sym}
use Rattle.yaml_program.{specs.Options.IsOn, specs.Options.value_of, proofs.Portable.portable_left, proofs.Portable.portable_unless}
use Rattle.yaml_program.proofs.arguments.emitter_settings_of.Goals as goal

pub returns : goal.returns
returns c = record {
  encoding = search rules;
  canonical = search rules;
  unicode = search rules;
  quotes = subst (IsOn (value_of c.args.matches.now (codes "double-quotes"))) (sym c.quotes_of-settings.ensures) (search rules);
  indent = search rules;
  width = search rules;
  line_break = search rules;
  breaks = search rules;
  portable = λ none. portable_unless (value_of c.args.matches.now (codes "no-portable")) c.get_flag-5.result c.get_flag-4.result
      c.is_portable.result (search rules) c.is_portable.ensures none;
  left = λ given. portable_left c.get_flag-5.result c.get_flag-4.result c.is_portable.result c.is_portable.ensures given;
  sequences = search rules;
  blanks = search rules;
  limit = search rules;
}
