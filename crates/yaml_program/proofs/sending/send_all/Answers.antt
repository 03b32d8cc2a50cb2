use Rattle.std.proofs.Common.{ℕ, List, Bor, map, subst, sym}
use Rattle.yaml_program.{specs.Conversions.AreBytesOf, specs.Conversions.heading_of, specs.Conversions.names_read, proofs.Headings.behind_heading}
use Rattle.yaml_program.proofs.sending.send_all.Goals as goal

pub returns-in-Ok-clause-wrote : goal.returns-in-Ok-clause-wrote
returns-in-Ok-clause-wrote g c = λ files are.
    behind_heading (g.F.Format.is_yaml c.args.conversion.now.format) (heading_of c.args.conversion.now) files (g.W.Write.contents c.args.sink.now)
    (g.W.Write.contents c.send_heading.new.sink) (g.W.Write.contents c.send_files.new.sink) c.in_default.ensures.wrote (c.in-Ok.ensures.wrote files (subst
    (λ (names : List (Bor (List ℕ))). AreBytesOf (g.S.Sources.bytes_of c.args.sources.now) (names_read (map (λ name. name.now) names)) files)
    (sym c.as_slice-names.ensures.value) are))
