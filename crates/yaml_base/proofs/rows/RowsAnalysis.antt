-- Worked values: the styles that they allow, and the style and the bare tag that are chosen for them.
use Rattle.yaml_base.proofs.Common.{codes, Bool, false, true, [], ◌∷◌, refl, ◌≡◌, Text, ScalarStyle, any_style, plain, single_quoted, double_quoted, literal}
use Rattle.yaml_base.proofs.Common.{folded, Charset, Allowances, allowances, ChosenStyle, lacks_tag_and_flags, chosen}
use Rattle.yaml_base.proofs.rows.Cases.{GivesOfFive, GivesOfTwo}

abbrev ascii : Charset
ascii = record { unicode = false; breaks12 = false }

abbrev unicode : Charset
unicode = record { unicode = true; breaks12 = false }

abbrev unicode12 : Charset
unicode12 = record { unicode = true; breaks12 = true }

-- in the order of the record: a break, plain in flow, plain in block, single quotes, block styles
abbrev answer : (multiline in_flow in_block quoted as_block : Bool) → Allowances
answer multiline in_flow in_block quoted as_block =
    record { multiline = multiline; flow_plain_allowed = in_flow; block_plain_allowed = in_block; single_quoted_allowed = quoted; block_allowed = as_block }

what_is_allowed : GivesOfTwo allowances (
    (ascii, codes "foo", answer false true true true true)  -- word
    ∷ (ascii, [], answer false false true true false)  -- empty
    ∷ (ascii, codes " ", answer false false false true false)  -- one space
    ∷ (ascii, codes "a:", answer false false false true true)  -- key
    ∷ (ascii, codes "a:b", answer false false true true true)  -- inner colon
    ∷ (ascii, codes "a:\0", answer false false false false false)  -- colon before nul
    ∷ (ascii, codes "- x", answer false false false true true)  -- item
    ∷ (ascii, codes "---x", answer false false false true true)  -- mark
    ∷ (ascii, codes "...", answer false false false true true)  -- dots
    ∷ (ascii, codes "-x", answer false true true true true)  -- dash
    ∷ (ascii, codes "?x", answer false false true true true)  -- question
    ∷ (ascii, codes "a,b", answer false false true true true)  -- comma
    ∷ (ascii, codes "a #b", answer false false false true true)  -- comment
    ∷ (ascii, codes "a#b", answer false true true true true)  -- no comment
    ∷ (ascii, codes "'", answer false false false true true)  -- quote
    ∷ (ascii, codes "a ", answer false false false true false)  -- last space
    ∷ (ascii, codes "a\nb", answer true false false true true)  -- break
    ∷ (ascii, codes "a\n b", answer true false false false true)  -- space after break
    ∷ (ascii, codes "a \nb", answer true false false false false)  -- space before break
    ∷ (ascii, 0xE9 ∷ [], answer false false false false false)  -- accent escaped
    ∷ (unicode, 0xE9 ∷ [], answer false true true true true)  -- accent kept
    ∷ (unicode, 97 ∷ 0x2028 ∷ 98 ∷ [], answer true false false true true)  -- separator kept
    ∷ (unicode12, 97 ∷ 0x2028 ∷ 98 ∷ [], answer true false false false false)  -- separator special
    ∷ (unicode, 0xFEFF ∷ [], answer false false false false false)  -- mark special
    ∷ (unicode, codes "\t", answer false false false false false)  -- tab special
    ∷ [])
what_is_allowed = refl

abbrev choice : ScalarStyle → Bool → ChosenStyle
choice style bare = record { style = style; bare = bare }

-- a scalar in block without a written tag, with these flags
abbrev in_block : Text → ScalarStyle → (plain_implicit quoted_implicit canonical : Bool) → ChosenStyle
in_block value style plain_implicit quoted_implicit canonical =
    chosen (allowances ascii value) style false false plain_implicit quoted_implicit false false canonical

chosen_in_a_block : GivesOfFive in_block (
    (codes "foo", any_style, true, true, false, choice plain false)  -- any is plain
    ∷ (codes "a:", any_style, true, true, false, choice single_quoted false)  -- key is quoted
    ∷ (codes "\0", literal, true, true, false, choice double_quoted false)  -- unprintable is double
    ∷ (codes "a\n\n", literal, true, true, false, choice literal false)  -- literal stays
    ∷ (codes "foo", plain, false, true, false, choice single_quoted false)  -- plain needs its flag
    ∷ (codes "a:", any_style, true, false, false, choice single_quoted true)  -- bare if quoted
    ∷ (codes "a", any_style, true, false, false, choice plain false)  -- not bare if plain
    ∷ (codes "a", any_style, true, false, true, choice double_quoted true)  -- canonical is double
    ∷ [])
chosen_in_a_block = refl

empty-in-flow : chosen (allowances ascii []) any_style true false true true true false false ≡ choice single_quoted false
empty-in-flow = refl

empty-key : chosen (allowances ascii []) any_style true false true true false true false ≡ choice single_quoted false
empty-key = refl

empty-value : chosen (allowances ascii []) any_style true false true true false false false ≡ choice plain false
empty-value = refl

tagged-is-plain : chosen (allowances ascii (codes "5")) any_style false true false false false false false ≡ choice plain false
tagged-is-plain = refl

key-with-break : chosen (allowances ascii (codes "a\nb")) single_quoted false false true true false true false ≡ choice double_quoted false
key-with-break = refl

folded-in-flow : chosen (allowances ascii (codes "a")) folded false false true true true false false ≡ choice double_quoted false
folded-in-flow = refl

tags_and_flags : GivesOfTwo (lacks_tag_and_flags false) (
    (false, false, true)  -- neither tag nor flags
    ∷ (true, false, false)  -- a flag suffices
    ∷ [])
tags_and_flags = refl
