-- A text between double quotes as bytes in UTF-8: a run that is written as itself, an escape, the quotes around.
use Rattle.yaml_scalar.proofs.Common.{nat_tests}
use Rattle.yaml_scalar.proofs.Common.{ℕ, if◌then◌else◌, IsUtf8, take, false, true, not, List, [], ◌++◌, ◌∷◌, refl, ◌≡◌, append-nil, append_assoc}
use Rattle.yaml_scalar.proofs.Common.{ap, subst, sym, ◌∙◌, arith, and_parts, not-true, chars, chars-nil, IsUtf8-take, IsCharBoundary, list_all, Text, encode_utf8}
use Rattle.yaml_scalar.proofs.Common.{escape_text, needs_escape, character_text, quote, stays_where, chars-cut, Result, length, nil_from_length}
use Rattle.yaml_base.proofs.Common.{drop, flat_map, flat_map-append, utf8}
use Rattle.std.specs.Prelude.{OnOk, is_ok}
use Rattle.std.proofs.lemmas.Str.{encode_ascii}
use Rattle.yaml_base.specs.{Encoding.text_bytes, graphs.DumpedText.in_quotes}
use Rattle.yaml_pen.proofs.{Adding.text_bytes-append, AsciiRuns.ascii-bytes, Writing.utf8-bytes}
use Rattle.yaml_scalar.proofs.EscapeBytes.{escape-plain, plain-ascii}
use Rattle.yaml_scalar.specs.EscapeBytes.{inside_bytes}

inside-append : (a b : Text) → inside_bytes (a ++ b) ≡ inside_bytes a ++ inside_bytes b
inside-append a b = grind (arith, nat_tests, text_bytes, flat_map-append, character_text, text_bytes-append, flat_map)

-- characters that stay are their own text
verbatim_same : (text : Text) → list_all (stays_where true false) text ≡ true → flat_map (character_text true) text ≡ text
verbatim_same [] h = refl
verbatim_same (c ∷ rest) h =
    grind (arith, nat_tests, and_parts, stays_where, list_all, not, needs_escape, escape_text, flat_map, character_text, not-true, verbatim_same rest)

-- a run was appended
pub run_appended : (old new text run rest : List ℕ) (size : ℕ) → IsUtf8 text → IsCharBoundary text size → run ≡ take size text → rest ≡ drop size text
    → list_all (stays_where true false) (chars (take size text)) ≡ true → new ≡ old ++ run
    → new ++ inside_bytes (chars rest) ≡ old ++ inside_bytes (chars text)
run_appended old new text run rest size is_text boundary prefix behind stay grown =
    let run_text : IsUtf8 run = subst IsUtf8 (sym prefix) (IsUtf8-take text size is_text boundary) in
    let run_is : run ≡ inside_bytes (chars run) = utf8-bytes run run_text
    ∙ ap (text_bytes utf8) (sym (verbatim_same (chars run) (ap (λ l. list_all (stays_where true false) (chars l)) prefix ∙ stay))) in
    ap (λ l. l ++ inside_bytes (chars rest)) grown
    ∙ append_assoc old run (inside_bytes (chars rest))
    ∙ ap (λ l. old ++ l) (ap (λ l. l ++ inside_bytes (chars rest)) run_is
    ∙ sym (inside-append (chars run) (chars rest))
    ∙ ap inside_bytes (sym (chars-cut text run rest size is_text boundary prefix behind)))

-- an escape was appended
pub escape_appended : {T E : Type 0} (answer : Result T E) (old new text : List ℕ) (c : ℕ) → needs_escape true c ≡ true → text ≡ escape_text c
    → new ≡ (if is_ok answer then old ++ text else old)
    → OnOk answer (new ≡ old ++ text_bytes utf8 (character_text true c))
escape_appended answer old new text c x is grown = grind (arith, nat_tests, ascii-bytes, escape_text, plain-ascii, escape-plain, text_bytes)

-- a character was appended, and then what follows it
pub character_then : (whole here grown after left : List ℕ) (c : ℕ) (text rest : Text) → text ≡ c ∷ rest
    → grown ≡ here ++ text_bytes utf8 (character_text true c)
    → after ++ left ≡ grown ++ inside_bytes rest → here ++ inside_bytes text ≡ whole
    → after ++ left ≡ whole
character_then whole here grown after left c text rest is one more so_far =
    grind (arith, nat_tests, inside_bytes, append_assoc, text_bytes, character_text, text_bytes-append, flat_map)

-- nothing is left
pub none_left : (here rest whole : List ℕ) → length rest ≡ 0 → here ++ inside_bytes (chars rest) ≡ whole → here ≡ whole
none_left here rest whole none so_far = grind (arith, nat_tests, append-nil, inside_bytes, chars, nil_from_length, chars-nil)

-- a quote, the text, and a quote
pub quotes_around : (old first inside last : List ℕ) (text : Text) → first ≡ old ++ quote ∷ [] → inside ≡ first ++ inside_bytes text
    → last ≡ inside ++ quote ∷ []
    → last ≡ old ++ text_bytes utf8 (in_quotes text)
quotes_around old first inside last text opens middle closes =
    grind (arith, nat_tests, encode_utf8, quote, encode_ascii, flat_map, character_text, text_bytes, inside_bytes, text_bytes-append, append_assoc)
