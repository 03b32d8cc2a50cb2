use Rattle.yaml_toml.proofs.Common.{◌∷◌, [], ℕ, List, refl, ap, subst, ◌∙◌, scalar, chars, text_content, bool_content, bool_tag, bool_text, int_tag, float_tag}
use Rattle.yaml_toml.proofs.Common.{on_ok, node_view, special_text, moment_of, string_bytes, signed_decimal, ℤ, date_content, decimal_content, integer_content}
use Rattle.yaml_toml.proofs.Common.{special_content}
use Rattle.yaml_writer.proofs.GivenLemmas.{always, word_is}
use Rattle.yaml_writer.specs.{Writing.Gives, Writing.int_event, declared.floats.SpecialFloat.SpecialFloat}
use Rattle.yaml_toml.{proofs.Answering.datetime_is, proofs.Answering.gives_scalar, proofs.Answering.wrote_scalar, proofs.Integers.few_digits}
use Rattle.yaml_toml.{proofs.Views.node_view-Text, proofs.Views.node_view-Integer, proofs.Views.node_view-Decimal, proofs.Views.node_view-Infinity}
use Rattle.yaml_toml.{proofs.Views.node_view-NotANumber, proofs.Views.node_view-Boolean, proofs.Views.node_view-Datetime, specs.Walk.IsJsonWord}
use Rattle.std.{specs.Prelude.FitsSigned, proofs.Common.rules, proofs.Common.w64, proofs.lemmas.Int.to_z-of_z}
use Rattle.toml_ordered.specs.Data as toml
use Rattle.yaml_writer.specs.declared.floats.SpecialFloat.TheVariants as special
use Rattle.yaml_toml.proofs.scalars.write_scalar.Goals as goal

pub returns-in-Text : goal.returns-in-Text
returns-in-Text g c =
    wrote_scalar _ _ (ap node_view c.in-Text.is ∙ node_view-Text _)
    (λ flow. ap (λ (bytes : List ℕ). scalar (text_content (chars bytes)) ∷ []) c.as_str.ensures.value) refl refl (always _ tt) c.write_text.ensures

pub returns-in-Integer : goal.returns-in-Integer
returns-in-Integer g c =
    let was = c.args.writer.now in
    let z = c.in-Integer.integer in
    let fits : FitsSigned w64 z = search rules in
    wrote_scalar _ _ (ap node_view c.in-Integer.is ∙ node_view-Integer z) (λ flow. refl) refl refl (always _ (few_digits z fits))
    (gives_scalar _ (word_is was int_tag (signed_decimal z) c.requires.bare)
    (subst (λ (n : ℤ). Gives was (int_event was n) c.int.result c.int.new.self) (to_z-of_z w64 z fits) c.int.ensures))

pub returns-in-Decimal : goal.returns-in-Decimal
returns-in-Decimal g c =
    let canonical = c.args.writer.now.canonical in
    let spelled = c.as_str-in-Decimal.ensures.value in
    wrote_scalar _ _ (ap node_view c.in-Decimal.is ∙ node_view-Decimal _)
    (λ flow. ap (λ (bytes : List ℕ). scalar (decimal_content canonical bytes) ∷ []) spelled) refl refl
    (on_ok c.write_decimal.result (subst IsJsonWord spelled) c.write_decimal.ensures.number) c.write_decimal.ensures.gives

pub returns-in-Infinity : goal.returns-in-Infinity
returns-in-Infinity g c =
    let was = c.args.writer.now in
    wrote_scalar _ _ (ap node_view c.in-Infinity.is ∙ node_view-Infinity _)
    (λ flow. ap (λ (v : SpecialFloat). scalar (special_content was.canonical v) ∷ []) c.infinity.ensures) refl refl (always _ tt)
    (gives_scalar _ (word_is was float_tag (special_text c.infinity.result) c.requires.bare) c.special_float.ensures)

pub returns-in-NotANumber : goal.returns-in-NotANumber
returns-in-NotANumber g c =
    let was = c.args.writer.now in
    let called = c.special_float-in-NotANumber in
    let content = special_content was.canonical special.NotANumber in
    wrote_scalar content toml.not_a_number (ap node_view c.in-NotANumber.is ∙ node_view-NotANumber) (λ flow. refl) refl refl (always called.result tt)
    (gives_scalar content (word_is was float_tag (special_text special.NotANumber) c.requires.bare) called.ensures)

pub returns-in-Boolean : goal.returns-in-Boolean
returns-in-Boolean g c =
    let was = c.args.writer.now in
    let flag = c.in-Boolean.flag in
    let content = bool_content was.canonical flag in
    wrote_scalar content (toml.boolean flag) (ap node_view c.in-Boolean.is ∙ node_view-Boolean flag) (λ flow. refl) refl refl (always c.bool.result tt)
    (gives_scalar content (word_is was bool_tag (bool_text flag) c.requires.bare) c.bool.ensures)

pub returns-in-Datetime : goal.returns-in-Datetime
returns-in-Datetime g c =
    let was = c.args.writer.now in
    let date = c.in-Datetime.datetime in
    let content = date_content was.canonical date (moment_of date) in
    wrote_scalar content (toml.datetime date) (ap node_view c.in-Datetime.is ∙ node_view-Datetime date) (λ flow. refl) refl refl
    (always c.write_datetime.result tt) (gives_scalar content (datetime_is was date (moment_of date) c.requires.bare) c.write_datetime.ensures)
