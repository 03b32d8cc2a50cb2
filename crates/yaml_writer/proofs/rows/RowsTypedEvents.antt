-- Texts and their plain tags, and scalars with the flags that keep their tags, worked by hand.
use Rattle.yaml_writer.proofs.Common.{codes, None, Some, Bool, false, true, refl, ◌≡◌, Text, plain, float_tag, int_tag}
use Rattle.yaml_base.specs.Event.{Scalar, ScalarStyle, any_style}
use Rattle.yaml_base.specs.graphs.Meetings.{string_tag}
use Rattle.yaml_base.specs.values.TypedValues.{null_tag, bool_tag}
use Rattle.yaml_writer.specs.{PlainTags.plain_tag, TypedEvents.typed_scalar}

words : (plain_tag (codes "~") ≡ Some null_tag) × (plain_tag (codes "Null") ≡ Some null_tag) × (plain_tag (codes "TRUE") ≡ Some bool_tag)
    × (plain_tag (codes "false") ≡ Some bool_tag) × (plain_tag (codes "-.inf") ≡ Some float_tag) × (plain_tag (codes ".NaN") ≡ Some float_tag)
words = (refl, refl, refl, refl, refl, refl)

numbers : (plain_tag (codes "3") ≡ Some int_tag) × (plain_tag (codes "-12") ≡ Some int_tag) × (plain_tag (codes "1.50") ≡ Some float_tag)
    × (plain_tag (codes "-0.0") ≡ Some float_tag) × (plain_tag (codes "1.5e+3") ≡ Some float_tag)
numbers = (refl, refl, refl, refl, refl)

-- those that JSON writes otherwise or not at all
integers_besides : (plain_tag (codes "0x1F") ≡ Some int_tag) × (plain_tag (codes "0xe") ≡ Some int_tag) × (plain_tag (codes "+1") ≡ Some int_tag)
    × (plain_tag (codes "007") ≡ Some int_tag) × (plain_tag (codes "-07") ≡ Some int_tag) × (plain_tag (codes "-0") ≡ Some int_tag)
    × (plain_tag (codes "00") ≡ Some int_tag) × (plain_tag (codes "100") ≡ Some int_tag)
integers_besides = (refl, refl, refl, refl, refl, refl, refl, refl)

floats_besides : (plain_tag (codes ".5") ≡ Some float_tag) × (plain_tag (codes "1.") ≡ Some float_tag) × (plain_tag (codes "1.5E+3") ≡ Some float_tag)
    × (plain_tag (codes "+.5e-3") ≡ Some float_tag) × (plain_tag (codes "-1.e+0") ≡ Some float_tag) × (plain_tag (codes "08.5") ≡ Some float_tag)
floats_besides = (refl, refl, refl, refl, refl, refl)

-- Texts that only one schema reads so, or neither.
others : (plain_tag (codes "") ≡ None) × (plain_tag (codes "no") ≡ None) × (plain_tag (codes "nUll") ≡ None) × (plain_tag (codes "0o17") ≡ None)
    × (plain_tag (codes "1:30") ≡ None) × (plain_tag (codes "1e5") ≡ None) × (plain_tag (codes "1.5e3") ≡ None) × (plain_tag (codes "2001-12-14") ≡ None)
    × (plain_tag (codes "a: b") ≡ None)
others = (refl, refl, refl, refl, refl, refl, refl, refl, refl)

none_besides : (plain_tag (codes "0x") ≡ None) × (plain_tag (codes "-0x1F") ≡ None) × (plain_tag (codes "0b1") ≡ None) × (plain_tag (codes "08") ≡ None)
    × (plain_tag (codes "1_000") ≡ None) × (plain_tag (codes ".") ≡ None) × (plain_tag (codes "+") ≡ None) × (plain_tag (codes "+-1") ≡ None)
    × (plain_tag (codes "1.5.0") ≡ None) × (plain_tag (codes "1.5e+") ≡ None) × (plain_tag (codes "1.5e+3e+3") ≡ None) × (plain_tag (codes ".e+3") ≡ None)
none_besides = (refl, refl, refl, refl, refl, refl, refl, refl, refl, refl, refl, refl)

-- integers to the base of 8 by the one, and of 10 by the other
two_integers : (plain_tag (codes "010") ≡ None) × (plain_tag (codes "017") ≡ None) × (plain_tag (codes "-017") ≡ None) × (plain_tag (codes "+010") ≡ None)
    × (plain_tag (codes "0010") ≡ None) × (plain_tag (codes "0100") ≡ None)
two_integers = (refl, refl, refl, refl, refl, refl)

-- a scalar without an anchor, with these flags
abbrev a_scalar : Text → Text → Bool → Bool → ScalarStyle → Scalar
a_scalar tag value plain_flag quoted_flag style =
    record { anchor = None; tag = Some tag; value = value; plain_implicit = plain_flag; quoted_implicit = quoted_flag; style = style }

abbrev any_scalar : Text → Text → Scalar
any_scalar tag value = a_scalar tag value true true any_style

texts : (typed_scalar (any_scalar string_tag (codes "no")) ≡ a_scalar string_tag (codes "no") false true any_style)
    × (typed_scalar (any_scalar string_tag (codes "3")) ≡ a_scalar string_tag (codes "3") false true any_style)
    × (typed_scalar (any_scalar string_tag (codes "Norway")) ≡ a_scalar string_tag (codes "Norway") true true any_style)
texts = (refl, refl, refl)

integers : (typed_scalar (any_scalar int_tag (codes "3")) ≡ a_scalar int_tag (codes "3") true false plain)
    × (typed_scalar (any_scalar int_tag (codes "three")) ≡ a_scalar int_tag (codes "three") false false any_style)
    × (typed_scalar (any_scalar int_tag (codes "3.0")) ≡ a_scalar int_tag (codes "3.0") false false any_style)
integers = (refl, refl, refl)
