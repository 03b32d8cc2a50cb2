use Rattle.yaml_read.proofs.Common.{◌++◌, ap, refl, sym, ◌∙◌, w64, inr, encode_utf8_all, to_z-of_z, signed_decimal, seen_value, in_quotes, tag_word}
use Rattle.yaml_value.proofs.SeenLevels.{seen_integer}
use Rattle.yaml_read.proofs.{Scalars.digits_are, Scalars.fits_signed, Scalars.int_scalars, BreakingNodes.whole_placed, BreakingNodes.whole_refused}
use Rattle.yaml_read.proofs.{HeadsRead.digits_seen, HeadsRead.integer_read, Stepping.no_integer_scalar}
use Rattle.yaml_read.specs.declared.heads.Kind.TheVariants as kind
use Rattle.yaml_value.specs.declared.value.Value as declared
use Rattle.yaml_read.proofs.heads.read_integer.Goals as goal

pub returns-in-Some : goal.returns-in-Some
returns-in-Some g c =
    let value = c.in-Some.value in
    let few = c.in-Some.ensures.0 in
    let spelled = sym c.as_str.ensures.value ∙ c.in-Some.ensures.1 in
    record {
      sound =
          integer_read (tag_word kind.Int ++ c.args.text.now) c.args.text.now c.in-Ok.rest.now _ refl
          (record {
            number = value;
            is = ap (λ z. seen_value {A = g.row.A.Denot} (declared.Int z)) (to_z-of_z w64 value (fits_signed value few)) ∙ seen_integer g.row.A.Denot value;
            bits = few;
            text = c.in-Ok.ensures.sound
                ∙ ap (λ t. encode_utf8_all (in_quotes t) ++ c.in-Ok.rest.now) (digits_seen c.in-Ok.digits value few spelled);
          });
      breaks = λ depth. tt;
      shorter = c.in-Ok.ensures.shorter;
    }

pub returns-in-Ok : goal.returns-in-Ok
returns-in-Ok g c =
    no_integer_scalar g.row.A.Denot c.args.text.now c.refused_at.result c.utf8.text (inr c.refused_at.ensures) (λ n rest few is.
    let read = c.in-Ok.ensures.reads (signed_decimal n) rest (int_scalars n few) is in
    absurd (c.in-None.ensures n few (c.as_str.ensures.value ∙ digits_are c.in-Ok.digits n few read.0)))

pub returns : goal.returns
returns g c =
    let place = whole_placed c.args.text.now c.in-Err.reason c.refused_whole.result c.refused_whole.ensures in
    no_integer_scalar g.row.A.Denot c.args.text.now c.refused_whole.result c.utf8.text place (λ n rest few is.
    whole_refused c.args.text.now c.in-Err.reason c.refused_whole.result c.refused_whole.ensures (c.in-Err.ensures.reads (signed_decimal n) rest (int_scalars n few) is))
