use Rattle.yaml_read.proofs.Common.{◌∙◌, ◌++◌, [], Ok, Err, true, false, ap, arith, codes, refl, subst, sym, seen_string, seen_truth, nothing, tag_word}
use Rattle.yaml_read.proofs.Common.{IsScalarValue}
use Rattle.yaml_read.proofs.Stepping.{of_kind, text_kind, truth_scalar}
use Rattle.yaml_read.proofs.{HeadsRead.string_read, HeadsRead.word_bytes, Breaking.missing, Breaking.neither}
use Rattle.yaml_value.specs.declared.value.Value as declared
use Rattle.yaml_read.specs.declared.heads.Kind.TheVariants as kind
use Rattle.yaml_read.proofs.heads.read_scalar.Goals as goal

pub returns-in-Err : goal.returns-in-Err
returns-in-Err g c =
    of_kind kind.Null c.args.kind c.in-Null.is
    (record {
      sound = tt;
      breaks = λ depth. missing (codes "\"null\"") c.args.text.now nothing c.in-Err.stop [] c.in-Err.ensures.cut c.in-Err.ensures.placed tt;
      shorter = tt;
    })

pub returns-in-Some : goal.returns-in-Some
returns-in-Some g c =
    of_kind kind.Bool c.args.kind c.in-Bool.is (truth_scalar c.args.text.now (Ok (declared.Bool true, c.in-Some.rest))
    (record {
      truth = true;
      is = seen_truth g.row.A.Denot true;
      text = c.in-Some.ensures.cut ∙ ap (λ w. w ++ c.in-Some.rest.now) (sym (word_bytes (codes "\"true\"") refl));
    }) tt (omega (arith, c.in-Some.ensures.shorter)))

pub returns-in-Ok-after : goal.returns-in-Ok-after
returns-in-Ok-after g c =
    of_kind kind.Bool c.args.kind c.in-Bool.is (truth_scalar c.args.text.now (Ok (declared.Bool false, c.in-Ok-after.rest))
    (record {
      truth = false;
      is = seen_truth g.row.A.Denot false;
      text = c.in-Ok-after.ensures.cut ∙ ap (λ w. w ++ c.in-Ok-after.rest.now) (sym (word_bytes (codes "\"false\"") refl));
    }) tt (omega (arith, c.in-Ok-after.ensures.shorter)))

pub returns-in-Err-after : goal.returns-in-Err-after
returns-in-Err-after g c =
    of_kind _ _ c.in-Bool.is (truth_scalar {A = g.row.A.Denot} _ (Err c.in-Err-after.stop) tt
    (neither _ _ _ c.in-Err-after.stop c.in-None.ensures.cut c.in-Err-after.ensures.cut c.in-Err-after.ensures.placed) tt)

pub returns-in-Ok-read_quoted : goal.returns-in-Ok-read_quoted
returns-in-Ok-read_quoted g c =
    of_kind _ _ (text_kind c.args.kind c.requires c.in_default.not-Null c.in_default.not-Bool c.in_default.not-Int)
    (record {
      sound =
          subst (λ value. IsScalarValue (tag_word kind.Text ++ c.args.text.now) value c.in-Ok-read_quoted.rest.now)
          (sym (seen_string c.in-Ok-read_quoted.value)) (string_read _ _ _ c.in-Ok-read_quoted.value refl c.in-Ok-read_quoted.ensures.sound);
      breaks = λ depth. tt;
      shorter = c.in-Ok-read_quoted.ensures.shorter;
    })
