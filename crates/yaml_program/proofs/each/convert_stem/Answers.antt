use Rattle.std.proofs.Common.{ℕ, List, [], ◌∷◌, ◌++◌, Bor, Some, map, ap, subst, sym, ◌∙◌}
use Rattle.std.specs.String.{string_bytes}
use Rattle.yaml_program.specs.Conversions.{IsBeside, IsUndoneAs, heading_of}
use Rattle.yaml_program.proofs.each.convert_stem.Goals as goal

pub returns-clause-undone : goal.returns-clause-undone
returns-clause-undone g c one =
    record {
      target = c.as_str.result.now;
      beside = subst (λ (target : List ℕ). IsBeside g.F.Format.ending c.args.names.0.now target) (sym c.as_str.ensures.value)
          (subst (λ (name : List ℕ). IsBeside g.F.Format.ending name (string_bytes c.in_ok-target.target)) (sym c.requires)
          (c.in_ok-target.ensures g.F.Format.ending));
      undone = subst
          (λ (items : List (Bor (List ℕ))). IsUndoneAs (g.S.Sources.bytes_of c.args.sources.now) (g.F.Format.is_yaml c.args.conversion.now.format)
          (heading_of c.args.conversion.now) c.args.conversion.now.checks (map (λ name. name.now) items) (Some c.as_str.result.now))
          (c.in_ok-push.ensures.items ∙ ap (λ (before : List (Bor (List ℕ))). before ++ c.args.names.0 ∷ []) c.new-files.ensures.items)
          (c.perform.ensures.undone one);
    }
