-- A simple key after its anchor and its tag is read as its tree, and no `:` inside it ends a key earlier.
use Rattle.yaml_base.proofs.Common.{nat_tests, ◌&&◌, arith, ℕ, if◌then◌else◌, ◌==◌, option_and_then, Option, None, Some, nat_le, length, Bool, false, true, []}
use Rattle.yaml_base.proofs.Common.{◌++◌, ◌∷◌, refl, ◌≡◌, eqb-true, true≢false, append_assoc, ap, subst, sym, ◌∙◌, and_parts, false≢true, Text, plain}
use Rattle.yaml_base.proofs.Common.{read_plain, ParsedTag, is_tidy, Tree, is_alias, longest_key, ends_indicator, without_last_space, word_of_alias}
use Rattle.yaml_base.proofs.stream_keys.StreamNoKeys.{KeyNowhere, nowhere_then, nowhere_clear, reads_alias, alias_left, other_kept, kind_other, tag_no_alias}
use Rattle.yaml_base.proofs.{stream_flow.StreamPropertyWords.lead, stream_lines.StreamTidyLaws.tidy_at_root, stream_nodes.StreamProperties.begins_content}
use Rattle.yaml_base.proofs.{stream_nodes.StreamStands.tag_meant, stream_keys.StreamNoKeys.anchor_no_alias, stream_keys.StreamNoKeys.lead_nowhere}
use Rattle.yaml_base.proofs.Common.{key_of_text, Rules, Properties, scalar_of_style, an_alias, kind_of_word, word_by_kind, word_after}
use Rattle.yaml_base.proofs.stream_lines.StreamCuts.{quote_of, quoted_in, read_quoted, quoted_whole}
use Rattle.yaml_base.proofs.stream_keys.StreamKeys.{NoKey, none_parsed, no_alias_before, key_by_word}
use Rattle.yaml_base.proofs.stream_flow.StreamFlowWords.{Given, given_reads, scalar_in, scalar_meant, quoted_read}
use Rattle.yaml_base.proofs.stream_keys.StreamPlainKeys.{Begins, plain_kind, plain_style, plain_no_key, reads_plain}

-- Words after properties

-- a text that doesn't begin with `*` is no alias
not_star : (c : ℕ) (t : Text) → (c == 0x2A) ≡ false → kind_of_word (c ∷ t) ≡ an_alias → ⊥
not_star c t h k = grind (arith, nat_tests, true≢false)

-- so it is none after properties
content_other : (rules : Rules) (properties : Properties) (c : ℕ) (t : Text) → (c == 0x2A) ≡ false
    → reads_alias (word_after rules false None properties (c ∷ t)) ≡ false
content_other rules properties c t star = kind_other (kind_of_word (c ∷ t)) rules false properties (c ∷ t) (not_star c t star)

-- no alias precedes the last space
lead_no_alias : (rules : Rules) (anchor tag : Option Text) (parsed : Option ParsedTag) (c : ℕ) (t : Text) → Given rules anchor tag parsed
    → begins_content (c ∷ t) ≡ true → (c == 0x2A) ≡ false → option_and_then (word_of_alias rules) (without_last_space (lead anchor tag ++ (c ∷ t))) ≡ None
lead_no_alias rules anchor tag parsed c t h k e =
    grind (arith, nat_tests, no_alias_before, and_parts, alias_left, given_reads, content_other, false≢true, anchor_no_alias, tag_no_alias)

-- a text after properties is a key if it is a word after them
lead_key_text : (rules : Rules) (anchor tag : Option Text) (parsed : Option ParsedTag) (c : ℕ) (t : Text) (read : Option Tree) → Given rules anchor tag parsed
    → begins_content (c ∷ t) ≡ true → (c == 0x2A) ≡ false → word_after rules false None (record { anchor = anchor; tag = parsed }) (c ∷ t) ≡ read
    → key_of_text rules (lead anchor tag ++ (c ∷ t)) ≡ (if nat_le (length (lead anchor tag ++ (c ∷ t))) longest_key then read else None)
lead_key_text rules anchor tag parsed c t read given own star e =
    key_by_word rules _ read (ap (option_and_then (λ tree. if is_alias tree then None else Some tree)) (given_reads rules false _ tag _ _ given own)
    ∙ other_kept _ (content_other rules _ c t star) ∙ e) (lead_no_alias rules _ tag _ c t given own star)

-- if it is none it is no key
pub lead_no_text : (rules : Rules) (anchor tag : Option Text) (parsed : Option ParsedTag) (c : ℕ) (t : Text) → Given rules anchor tag parsed
    → begins_content (c ∷ t) ≡ true → (c == 0x2A) ≡ false → word_after rules false None (record { anchor = anchor; tag = parsed }) (c ∷ t) ≡ None
    → key_of_text rules (lead anchor tag ++ (c ∷ t)) ≡ None
lead_no_text rules anchor tag parsed c t given own star none =
    lead_key_text rules anchor tag parsed c t None given own star none ∙ neither (nat_le (length (lead anchor tag ++ (c ∷ t))) longest_key)
  where
    neither : (x : Bool) → ◌≡◌ {A = Option Tree} (if x then None else None) None
    neither true = refl
    neither false = refl

-- if it is one that isn't too long it is a key
lead_text : (rules : Rules) (anchor tag : Option Text) (parsed : Option ParsedTag) (c : ℕ) (t : Text) (tree : Tree) → Given rules anchor tag parsed
    → begins_content (c ∷ t) ≡ true → (c == 0x2A) ≡ false → word_after rules false None (record { anchor = anchor; tag = parsed }) (c ∷ t) ≡ Some tree
    → nat_le (length (lead anchor tag ++ (c ∷ t))) longest_key ≡ true → key_of_text rules (lead anchor tag ++ (c ∷ t)) ≡ Some tree
lead_text rules anchor tag parsed c t tree given own star e short =
    lead_key_text rules anchor tag parsed c t (Some tree) given own star e ∙ ap (λ x. if x then Some tree else None) short

-- the reading of a text after properties as the beginning of a line
pub record KeyRead (rules : Rules) (text : Text) (tree : Tree) : Type 0 where
  pub clear : (after : Text) → NoKey rules [] text after
  pub reads : key_of_text rules text ≡ Some tree

-- a text after properties that is a word after them, and in which no key ends
pub given_key : (rules : Rules) (anchor tag : Option Text) (parsed : Option ParsedTag) (c : ℕ) (t : Text) (tree : Tree) → Given rules anchor tag parsed
    → begins_content (c ∷ t) ≡ true → (c == 0x2A) ≡ false → ((after : Text) → NoKey rules (lead anchor tag) (c ∷ t) after)
    → word_after rules false None (record { anchor = anchor; tag = parsed }) (c ∷ t) ≡ Some tree
    → nat_le (length (lead anchor tag ++ (c ∷ t))) longest_key ≡ true → KeyRead rules (lead anchor tag ++ (c ∷ t)) tree
given_key rules anchor tag parsed c t tree given own star clear read short = record {
  clear = λ after. nowhere_then rules [] (lead anchor tag) (c ∷ t) after (lead_nowhere rules anchor tag parsed given.named given.tagged) (clear after);
  reads = lead_text rules anchor tag parsed c t tree given own star read short;
}

-- Quotes

-- a text in quotes that doesn't read is no key
quoted_no_text : (rules : Rules) (double : Bool) (anchor tag : Option Text) (parsed : Option ParsedTag) (b : Text) → Given rules anchor tag parsed
    → read_quoted double rules.breaks12 (quote_of double ∷ b) ≡ None → key_of_text rules (lead anchor tag ++ (quote_of double ∷ b)) ≡ None
quoted_no_text rules double anchor tag parsed b given none = grind (arith, nat_tests, lead_no_text, none_parsed)

-- so no key ends in one that reads
pub quoted_nowhere : (rules : Rules) (double : Bool) (anchor tag : Option Text) (parsed : Option ParsedTag) (b t v : Text) → Given rules anchor tag parsed
    → read_quoted double rules.breaks12 ((quote_of double ∷ b) ++ t) ≡ Some v → KeyNowhere rules (lead anchor tag ++ (quote_of double ∷ b)) t
quoted_nowhere rules double anchor tag parsed b [] v given read = tt
quoted_nowhere rules double anchor tag parsed b (c ∷ t) v given read = (
  λ h. quoted_no_text rules double anchor tag parsed b given
      (quoted_whole double rules.breaks12 (quote_of double ∷ b) c t v (ap (λ n. n == 39) (eqb-true c 0x3A h)) read),
  subst (λ u. KeyNowhere rules u t) (sym (append_assoc (lead anchor tag) (quote_of double ∷ b) (c ∷ [])))
      (quoted_nowhere rules double anchor tag parsed (b ++ (c ∷ [])) t v given
      (ap (read_quoted double rules.breaks12) (append_assoc (quote_of double ∷ b) (c ∷ []) t) ∙ read)),
)

-- Keys after properties

-- a key in quotes
pub quoted_key_read : (rules : Rules) (double : Bool) (anchor tag given_tag : Option Text) (bare : Bool) (column : Option ℕ) (t v : Text)
    → Given rules anchor tag (tag_meant given_tag bare) → is_tidy (quoted_in double) rules.breaks12 column (quote_of double ∷ t) ≡ true
    → read_quoted double rules.breaks12 (quote_of double ∷ t) ≡ Some v → nat_le (length (lead anchor tag ++ (quote_of double ∷ t))) longest_key ≡ true
    → KeyRead rules (lead anchor tag ++ (quote_of double ∷ t)) (scalar_in anchor given_tag (quoted_in double) bare v)
quoted_key_read rules double anchor tag given_tag bare column t v given tidy read short =
    given_key rules anchor tag (tag_meant given_tag bare) (quote_of double) t (scalar_in anchor given_tag (quoted_in double) bare v) given
    (grind (arith)) (grind (arith))
    (λ after. (
      by double (ends_indicator (t ++ (0x3A ∷ after))),
      nowhere_clear rules (lead anchor tag ++ (quote_of double ∷ [])) t after
          (quoted_nowhere rules double anchor tag (tag_meant given_tag bare) [] t v given read),
    ))
    (quoted_read rules false double anchor given_tag bare column t v tidy read) short
  where
    by : {A : Type 0} (double x : Bool) → (quote_of double == 0x3A && x) ≡ true → A
    by true x e = absurd (false≢true e)
    by false x e = absurd (false≢true e)

-- a plain one
pub plain_key_read : (rules : Rules) (anchor tag given_tag : Option Text) (column : Option ℕ) (c : ℕ) (t v : Text)
    → Given rules anchor tag (tag_meant given_tag false) → Begins c → is_tidy plain rules.breaks12 column (c ∷ t) ≡ true
    → read_plain rules.breaks12 false (c ∷ t) ≡ Some v → nat_le (length (lead anchor tag ++ (c ∷ t))) longest_key ≡ true
    → KeyRead rules (lead anchor tag ++ (c ∷ t)) (scalar_in anchor given_tag plain false v)
plain_key_read rules anchor tag given_tag column c t v given b tidy read short =
    given_key rules anchor tag (tag_meant given_tag false) c t (scalar_in anchor given_tag plain false v) given (rw (b.blank, b.anchor, b.tag) refl) b.star
    (λ after. plain_no_key rules (lead anchor tag) (c ∷ t) after (reads_plain rules.breaks12 false c t v read).1)
    (ap (λ kind. word_by_kind kind rules false None (record { anchor = anchor; tag = tag_meant given_tag false }) (c ∷ t)) (plain_kind c t b)
    ∙ ap (λ style. scalar_of_style style rules false None (record { anchor = anchor; tag = tag_meant given_tag false }) (c ∷ t)) (plain_style c t b)
    ∙ scalar_meant rules false anchor given_tag plain false None (c ∷ t) v (read_plain rules.breaks12 false (c ∷ t)) (λ h. absurd (false≢true h))
    (tidy_at_root plain rules.breaks12 column (c ∷ t) tidy) read)
    short
