-- No scalar, alias, key or text begins with `#`, and no documents do. So a text that has some has the same without its heading.
use Rattle.yaml_base.proofs.Common.{arith, nat_tests}
use Rattle.yaml_base.proofs.Common.{ℕ, suc, ◌==◌, if◌then◌else◌, nat_le, length, fold, option_and_then, option_map, option_or, Option, None}
use Rattle.yaml_base.proofs.Common.{Some, Bool, false, true, List, [], ◌++◌, ◌∷◌, refl, ◌≡◌, ap, eqb-true, sym, ◌∙◌, Text, documents_of}
use Rattle.yaml_base.proofs.Common.{documents_at_end, Line, lines_of, Section, sections_of, sections_read, DocumentTree, Rules, Tree, marker_of}
use Rattle.std.proofs.lemmas.Option.{none-some}
use Rattle.yaml_base.specs.{Event.plain, LineBreaks.is_read_break}
use Rattle.yaml_base.specs.reading.{ReadPlain.read_plain, TidyText.is_tidy}
use Rattle.yaml_base.specs.streams.StreamContent.{stood_plain}
use Rattle.yaml_base.specs.streams.StreamDocuments.{MarkerKind, no_exclamation, prepend_section, section_read}
use Rattle.yaml_base.specs.streams.StreamFlow.{is_alias, longest_key}
use Rattle.yaml_base.specs.streams.StreamLines.{all_blank, all_deeper, prepend_character, prepend_to_first_line, text_of_lines}
use Rattle.yaml_base.specs.streams.StreamNodes.{key_ends, key_from, key_of_text, kind_of_text, text_by_kind, text_read, trimmed, without_last_space}
use Rattle.yaml_base.specs.streams.StreamNodes.{word_of_alias, word_but_alias}
use Rattle.yaml_base.specs.streams.StreamReader.{after_comments, without_heading}
use Rattle.yaml_base.specs.streams.StreamScalars.{Properties, no_properties, scalar_parsed, word_after}

-- Words

-- no plain scalar begins with `#`
pub no_plain : (breaks12 : Bool) (rest : Text) → read_plain breaks12 false (0x23 ∷ rest) ≡ None
no_plain breaks12 [] = refl
no_plain breaks12 (c ∷ []) = refl
no_plain breaks12 (c ∷ d ∷ rest) = refl

no_scalar : (tidy : Bool) (rules : Rules) (properties : Properties) (rest : Text)
    → scalar_parsed properties stood_plain (if tidy then read_plain rules.breaks12 false (0x23 ∷ rest) else None) ≡ None
no_scalar true rules properties rest = ap (scalar_parsed properties stood_plain) (no_plain rules.breaks12 rest)
no_scalar false rules properties rest = refl

-- nor does any node's own text
no_word : (rules : Rules) (column : Option ℕ) (properties : Properties) (rest : Text) → word_after rules false column properties (0x23 ∷ rest) ≡ None
no_word rules column properties [] = no_scalar (is_tidy plain rules.breaks12 column (0x23 ∷ [])) rules properties []
no_word rules column properties (c ∷ []) = no_scalar (is_tidy plain rules.breaks12 column (0x23 ∷ c ∷ [])) rules properties (c ∷ [])
no_word rules column properties (c ∷ d ∷ rest) =
    no_scalar (is_tidy plain rules.breaks12 column (0x23 ∷ c ∷ d ∷ rest)) rules properties (c ∷ d ∷ rest)

-- Keys

no_alias : (rules : Rules) (text : Option Text) → option_and_then (word_of_alias rules) (option_map (λ rest. 0x23 ∷ rest) text) ≡ None
no_alias rules None = refl
no_alias rules (Some rest) =
    ap (option_and_then (λ tree. if is_alias tree then Some tree else None)) (no_word rules None no_properties rest)

no_spaced_alias : (rules : Rules) (rest : Text) → option_and_then (word_of_alias rules) (without_last_space (0x23 ∷ rest)) ≡ None
no_spaced_alias rules [] = refl
no_spaced_alias rules (c ∷ rest) = no_alias rules (without_last_space (c ∷ rest))

neither : (short : Bool) (one other : Option Tree) → one ≡ None → other ≡ None → (if short then option_or one other else None) ≡ None
neither true one other first second = ap (λ found. option_or found other) first ∙ second
neither false one other first second = refl

no_key_text : (rules : Rules) (rest : Text) → key_of_text rules (0x23 ∷ rest) ≡ None
no_key_text rules rest =
    neither (nat_le (length (0x23 ∷ rest)) longest_key) (word_but_alias rules (0x23 ∷ rest))
    (option_and_then (word_of_alias rules) (without_last_space (0x23 ∷ rest)))
    (ap (option_and_then (λ tree. if is_alias tree then None else Some tree)) (no_word rules None no_properties rest))
    (no_spaced_alias rules rest)

no_key_ends : (ends : Bool) (rules : Rules) (rest after : Text) → key_ends rules ends (0x23 ∷ rest) after ≡ None
no_key_ends true rules rest after =
    ap (option_map (λ key. record { key = key; length = length (0x23 ∷ rest); after = after })) (no_key_text rules rest)
no_key_ends false rules rest after = refl

-- nor any simple key
pub no_key : (rules : Rules) (before text : Text) → key_from rules (0x23 ∷ before) text ≡ None
no_key rules before [] = refl
no_key rules before (c ∷ rest) = grind (arith, nat_tests, no_key_ends, no_key rules (before ++ c ∷ []) rest)

-- Texts

stays : (breaks12 : Bool) (rest : Text) → trimmed breaks12 (0x23 ∷ rest) ≡ 0x23 ∷ trimmed breaks12 rest
stays true rest = refl
stays false rest = refl

-- no text of a node begins so
pub no_text_by_kind : (rules : Rules) (column : Option ℕ) (properties : Properties) (rest : Text)
    → text_by_kind (kind_of_text (0x23 ∷ [])) rules column properties (0x23 ∷ rest) ≡ None
no_text_by_kind rules column properties rest =
    ap (word_after rules false column properties) (stays rules.breaks12 rest) ∙ no_word rules column properties (trimmed rules.breaks12 rest)

either_way : {A : Type 0} (deep : Bool) (found : Option A) → found ≡ None → (if deep then found else None) ≡ None
either_way true found none = none
either_way false found none = refl

-- nor is one read of lines of which the first begins so
pub no_text : (rules : Rules) (column : Option ℕ) (properties : Properties) (text ending : Text) (rest : List Line)
    → text_read rules column properties (0x23 ∷ text) ending rest ≡ None
no_text rules column properties text ending rest =
    either_way (all_deeper column rest) (text_by_kind (kind_of_text (0x23 ∷ [])) rules column properties (0x23 ∷ (text ++ (ending ++ text_of_lines rest))))
    (no_text_by_kind rules column properties (text ++ (ending ++ text_of_lines rest)))

-- Documents

pub no_marker : (text : Text) → marker_of (0x23 ∷ text) ≡ no_exclamation
no_marker [] = refl
no_marker (c ∷ []) = refl
no_marker (c ∷ d ∷ rest) = refl

none_goes_on : (depth : ℕ) (breaks12 : Bool) (sections : List Section) → fold (section_read depth breaks12) None sections ≡ None
none_goes_on depth breaks12 [] = refl
none_goes_on depth breaks12 (section ∷ rest) = none_goes_on depth breaks12 rest

no_sections : (depth : ℕ) (breaks12 : Bool) (text ending : Text) (rest : List Line)
    → sections_read (suc depth) breaks12 (sections_of (record { text = 0x23 ∷ text; ending = ending } ∷ rest)) ≡ None
no_sections depth breaks12 text ending rest =
    let line : Line = record { text = 0x23 ∷ text; ending = ending } in
    let after = sections_of rest in
    ap (λ (marker : MarkerKind). sections_read (suc depth) breaks12 (prepend_section marker line after)) (no_marker text)
    ∙ ap (option_and_then documents_at_end) (none_goes_on (suc depth) breaks12 after.sections)

no_lines : (depth : ℕ) (breaks12 : Bool) (lines : List Line)
    → (if all_blank (prepend_to_first_line 0x23 lines) then Some [] else sections_read (suc depth) breaks12 (sections_of (prepend_to_first_line 0x23 lines)))
    ≡ None
no_lines depth breaks12 [] = no_sections depth breaks12 [] [] []
no_lines depth breaks12 (line ∷ rest) = no_sections depth breaks12 line.text line.ending rest

-- a text that begins with `#` has no documents
pub no_documents_behind : (breaks12 : Bool) (rest : Text) → documents_of breaks12 (0x23 ∷ rest) ≡ None
no_documents_behind true rest = no_lines (length (0x23 ∷ rest)) true (lines_of true rest)
no_documents_behind false rest = no_lines (length (0x23 ∷ rest)) false (lines_of false rest)

-- an empty line begins none either
no_blank_sections : (depth : ℕ) (breaks12 : Bool) (ending : Text) (rest : List Line)
    → sections_read depth breaks12 (sections_of (record { text = []; ending = ending } ∷ rest)) ≡ None
no_blank_sections depth breaks12 ending rest = ap (option_and_then documents_at_end) (none_goes_on depth breaks12 (sections_of rest).sections)

-- so a text that has some has the same after such a line
break_dropped : (breaks12 : Bool) (c : ℕ) (rest : Text) (documents : List DocumentTree) → is_read_break breaks12 c ≡ true
    → documents_of breaks12 (c ∷ rest) ≡ Some documents → documents_of breaks12 rest ≡ Some documents
break_dropped breaks12 c rest documents breaks is = by (all_blank lines) refl (sym (ap (λ x. whole (prepend_character x c lines)) breaks) ∙ is)
  where
    lines : List Line
    lines = lines_of breaks12 rest

    whole : List Line → Option (List DocumentTree)
    whole all = if all_blank all then Some [] else sections_read (suc (length (c ∷ rest))) breaks12 (sections_of all)

    by : (x : Bool) → all_blank lines ≡ x
        → (if x then Some [] else sections_read (suc (length (c ∷ rest))) breaks12 (sections_of (record { text = []; ending = c ∷ [] } ∷ lines)))
        ≡ Some documents
        → documents_of breaks12 rest ≡ Some documents
    by true blank h = ap (λ y. if y then Some [] else sections_read (suc (length rest)) breaks12 (sections_of lines)) blank ∙ h
    by false blank h = absurd (none-some documents (sym (no_blank_sections (suc (length (c ∷ rest))) breaks12 (c ∷ []) lines) ∙ h))

-- and the same without its heading
pub heading_dropped : (breaks12 : Bool) (text : Text) (documents : List DocumentTree) → documents_of breaks12 text ≡ Some documents
    → documents_of breaks12 (without_heading breaks12 text) ≡ Some documents
heading_dropped breaks12 [] documents is = is
heading_dropped breaks12 (c ∷ rest) documents is = by (c == 0x23) refl (λ h. heading_dropped breaks12 rest documents h)
  where
    after_break : (x : Bool) → is_read_break breaks12 c ≡ x
        → (documents_of breaks12 rest ≡ Some documents → documents_of breaks12 (after_comments breaks12 false rest) ≡ Some documents)
        → documents_of breaks12 (if x then after_comments breaks12 false rest else c ∷ rest) ≡ Some documents
    after_break true breaks more = more (break_dropped breaks12 c rest documents breaks is)
    after_break false breaks more = is

    by : (x : Bool) → (c == 0x23) ≡ x
        → (documents_of breaks12 rest ≡ Some documents → documents_of breaks12 (after_comments breaks12 false rest) ≡ Some documents)
        → documents_of breaks12 (if x then after_comments breaks12 true rest
        else (if is_read_break breaks12 c then after_comments breaks12 false rest else c ∷ rest))
        ≡ Some documents
    by true e more =
        absurd (none-some documents (sym (no_documents_behind breaks12 rest)
        ∙ ap (λ first. documents_of breaks12 (first ∷ rest)) (sym (eqb-true c 0x23 e)) ∙ is))
    by false e more = after_break (is_read_break breaks12 c) refl more
