-- The anchor and the tag before a node, as they are written, are read as they were given, and spaces of their length stay.
use Rattle.yaml_base.proofs.Common.{and_from, or_from}
use Rattle.yaml_base.proofs.Common.{nat_tests, suc, zero, ℕ, ◌+◌, ◌==◌, option_and_then, Option, None, Some, length, Bool, false, not, true, ◌&&◌, ◌||◌, List}
use Rattle.yaml_base.proofs.Common.{[], ◌++◌, ◌∷◌, refl, ◌≡◌, eqb-true, length-append, append-nil, append_assoc, ap, sym, ◌∙◌, arith, and_parts, or_parts}
use Rattle.yaml_base.proofs.Common.{false≢true, list_all, list_any, Text, space, is_alpha, is_blank, is_break, TagDirective, ParsedTag, parse_tag}
use Rattle.yaml_base.proofs.Common.{ends_indicator, Indented, indented_step, past_indentation, spaces, Rules, no_properties, PropertiesRead, cut_before_space}
use Rattle.yaml_base.proofs.Common.{name_read, anchor_of_word, leading_tag, properties_read, word_after, word_read, not-true}
use Rattle.yaml_base.{proofs.stream_lines.StreamCuts.none_not_some, specs.streams.StreamScalars.cut_word_step, specs.streams.StreamScalars.anchor_first}
use Rattle.yaml_base.proofs.AllPass.{all_pass}

-- a text holds a blank or a break
abbrev pub holds_white : Text → Bool
holds_white text = list_any (λ c. is_blank c || is_break c) text

-- a written tag, and its meaning
pub record WrittenTag (directives : List TagDirective) (text : Text) (parsed : ParsedTag) : Type 0 where
  pub rest : Text
  pub begins : text ≡ 0x21 ∷ rest
  pub no_white : holds_white text ≡ false
  pub says : parse_tag directives text ≡ Some parsed

-- a written tag, if there is one, and its meaning
abbrev pub IsTagged : List TagDirective → Option Text → Option ParsedTag → Type 0
IsTagged directives None None = Unit {0}
IsTagged directives (Some text) (Some parsed) = WrittenTag directives text parsed
IsTagged directives _ _ = ⊥

-- an anchor's name, if there is one
abbrev pub IsNamed : Option Text → Type 0
IsNamed None = Unit {0}
IsNamed (Some name) = name_read name ≡ Some name

-- the anchor and the tag as they are written
abbrev pub properties_text : Option Text → Option Text → Text
properties_text None None = []
properties_text (Some name) None = 0x26 ∷ name
properties_text None (Some tag) = tag
properties_text (Some name) (Some tag) = 0x26 ∷ (name ++ (space ∷ tag))

-- there are neither
abbrev pub has_properties : Option Text → Option Text → Bool
has_properties None None = false
has_properties _ _ = true

-- no space, `&` or `!` begins a text
abbrev pub begins_content : Text → Bool
begins_content [] = true
begins_content (c ∷ rest) = not (c == space) && (not (c == 0x26) && not (c == 0x21))

-- a text without a space
abbrev pub has_no_space : Text → Bool
has_no_space text = list_all (λ c. not (c == space)) text

-- Words

-- a word is cut before a space or the end
pub word_whole : (word rest : Text) → has_no_space word ≡ true → ends_indicator rest ≡ true
    → cut_before_space (word ++ rest) ≡ record { prefix = word; rest = rest }
word_whole [] [] h ends = refl
word_whole [] (c ∷ rest) h ends = ap (λ x. cut_word_step x c rest (cut_before_space rest)) ends
word_whole (c ∷ word) rest h ends = grind (arith, nat_tests, not-true, word_whole word rest)

-- a letter is no space
letter_no_space : (c : ℕ) → is_alpha c ≡ true → not (c == space) ≡ true
letter_no_space c h = grind (arith, false≢true, eqb-true)

pub letters_no_space : (name : Text) → list_all is_alpha name ≡ true → has_no_space name ≡ true
letters_no_space name h = all_pass is_alpha (λ c. not (c == space)) letter_no_space name h

-- a name consists of letters
pub name_letters : (name : Text) → name_read name ≡ Some name → list_all is_alpha name ≡ true
name_letters name h = grind (arith, nat_tests, none_not_some)

-- if nothing is white no character is a space
pub no_white_no_space : (text : Text) → holds_white text ≡ false → has_no_space text ≡ true
no_white_no_space [] h = refl
no_white_no_space (c ∷ text) h = grind (arith, and_parts, and_from, or_parts, or_from, no_white_no_space text)

-- Spaces

-- a space after spaces is one of them
pub space_after : (n : ℕ) (t : Text) → spaces n ++ (space ∷ t) ≡ spaces (suc n) ++ t
space_after zero t = refl
space_after (suc n) t = ap (λ s. space ∷ s) (space_after n t)

-- spaces and then more of them
spaces_both : (m n : ℕ) (t : Text) → spaces m ++ (spaces n ++ t) ≡ spaces (m + n) ++ t
spaces_both zero n t = let e : n ≡ zero + n = omega arith in ap (λ k. spaces k ++ t) e
spaces_both (suc m) n t =
    let e : suc (m + n) ≡ suc m + n = omega arith in ap (λ s. space ∷ s) (spaces_both m n t) ∙ ap (λ k. spaces k ++ t) e

-- the text after spaces, if it begins with none
pub content_indented : (n : ℕ) (t : Text) → begins_content t ≡ true → past_indentation (spaces n ++ t) ≡ record { column = n; text = t }
content_indented zero [] h = refl
content_indented zero (c ∷ t) h =
    ap (λ x. indented_step x (c ∷ t) (past_indentation t)) (not-true (c == space) (and_parts (not (c == space)) (not (c == 0x26) && not (c == 0x21)) h).0)
content_indented (suc n) t h = ap (λ (after : Indented). indented_step true (spaces (suc n) ++ t) after) (content_indented n t h)

-- Properties

-- the reading of properties, and spaces in their place
abbrev pub read_as : Option Text → Option ParsedTag → ℕ → Text → Option PropertiesRead
read_as anchor parsed count rest =
    Some (record { properties = record { anchor = anchor; tag = parsed }; text = spaces count ++ rest })

-- without a tag
no_tag : (directives : List TagDirective) (anchor : Option Text) (column : ℕ) (rest : Text) → begins_content rest ≡ true
    → leading_tag directives anchor column rest ≡ read_as anchor None column rest
no_tag directives anchor column rest h = grind (arith, nat_tests, append-nil, and_parts, not-true)

-- a tag, before a space or the end
with_tag : (directives : List TagDirective) (anchor : Option Text) (column : ℕ) (tag rest : Text) (parsed : ParsedTag) → WrittenTag directives tag parsed
    → ends_indicator rest ≡ true → leading_tag directives anchor column (tag ++ rest) ≡ read_as anchor (Some parsed) (column + length tag) rest
with_tag directives anchor column tag rest parsed written h = grind (arith, nat_tests, word_whole, no_white_no_space)

-- an anchor, before a space or the end
pub with_anchor : (name rest : Text) → name_read name ≡ Some name → ends_indicator rest ≡ true
    → anchor_of_word (cut_before_space (name ++ rest)) ≡ read_as (Some name) None (suc (length name)) rest
with_anchor name rest h ends = grind (arith, word_whole, letters_no_space, name_letters)

-- no anchor begins a text
no_anchor : (n : ℕ) (rest : Text) → begins_content rest ≡ true
    → anchor_first (spaces n ++ rest) ≡ Some (record { properties = no_properties; text = spaces n ++ rest })
no_anchor n rest h = grind (arith, nat_tests, and_parts, not-true)

-- the text after the reading of an anchor
abbrev then_tag : List TagDirective → Option PropertiesRead → Option PropertiesRead
then_tag directives found =
    option_and_then (λ read. let after : Indented = past_indentation read.text in leading_tag directives read.properties.anchor after.column after.text) found

-- if a tag begins the text after spaces
tag_content : (directives : List TagDirective) (n : ℕ) (tag rest : Text) (parsed : ParsedTag) → WrittenTag directives tag parsed
    → past_indentation (spaces n ++ (tag ++ rest)) ≡ record { column = n; text = tag ++ rest }
tag_content directives n tag rest parsed written =
    ap (λ t. past_indentation (spaces n ++ (t ++ rest))) written.begins
    ∙ spaced n (written.rest ++ rest)
    ∙ ap (λ t. let made : Indented = record { column = n; text = t ++ rest } in made) (sym written.begins)
  where
    spaced : (n : ℕ) (t : Text) → past_indentation (spaces n ++ (0x21 ∷ t)) ≡ record { column = n; text = 0x21 ∷ t }
    spaced zero t = refl
    spaced (suc n) t = ap (λ (after : Indented). indented_step true (spaces (suc n) ++ (0x21 ∷ t)) after) (spaced n t)

-- written properties are read as they were given, before spaces and the node that they belong to
pub properties_parsed : (directives : List TagDirective) (anchor tag : Option Text) (parsed : Option ParsedTag) (n : ℕ) (rest : Text)
    → IsNamed anchor → IsTagged directives tag parsed → begins_content rest ≡ true
    → (has_properties anchor tag ≡ true → ends_indicator (spaces n ++ rest) ≡ true)
    → properties_read directives (properties_text anchor tag ++ (spaces n ++ rest)) ≡ read_as anchor parsed (length (properties_text anchor tag) + n) rest
properties_parsed directives None None None n rest named tagged own ends = grind (arith, no_anchor, content_indented, no_tag)
properties_parsed directives (Some name) None None n rest named tagged own ends =
    ap (then_tag directives) (with_anchor name _ named (ends refl))
    ∙ ap (λ t. let after : Indented = past_indentation t in leading_tag directives (Some name) after.column after.text) (spaces_both _ n rest)
    ∙ ap (λ (after : Indented). leading_tag directives (Some name) after.column after.text) (content_indented _ rest own) ∙ no_tag _ _ _ rest own
properties_parsed directives None (Some tag) (Some parsed) n rest named tagged own ends =
    ap (then_tag directives) (no_anchor_tag tagged.begins)
    ∙ ap (λ (after : Indented). leading_tag directives None after.column after.text) (tag_content _ 0 tag _ _ tagged)
    ∙ with_tag _ None 0 tag _ _ tagged (ends refl)
    ∙ ap (λ t. let made : Option PropertiesRead = Some (record { properties = record { anchor = None; tag = Some parsed }; text = t }) in made)
    (spaces_both _ n rest ∙ (let e : (0 + length tag) + n ≡ length tag + n = omega arith in ap (λ k. spaces k ++ rest) e))
  where
    no_anchor_tag : {more : Text} → tag ≡ 0x21 ∷ more
        → anchor_first (tag ++ (spaces n ++ rest)) ≡ Some (record { properties = no_properties; text = tag ++ (spaces n ++ rest) })
    no_anchor_tag {more} e = ap (λ t. anchor_first (t ++ (spaces n ++ rest))) e
        ∙ ap (λ t. let made : Option PropertiesRead = Some (record { properties = no_properties; text = t ++ (spaces n ++ rest) }) in made) (sym e)
properties_parsed directives (Some name) (Some tag) (Some parsed) n rest named tagged own ends =
    ap (λ t. then_tag directives (anchor_first (0x26 ∷ t))) (append_assoc name (space ∷ tag) (spaces n ++ rest))
    ∙ ap (then_tag directives) (with_anchor name _ named refl)
    ∙ ap (λ t. let after : Indented = past_indentation t in leading_tag directives (Some name) after.column after.text)
    (space_after (suc (length name)) (tag ++ (spaces n ++ rest))) ∙ ap (λ (after : Indented). leading_tag directives (Some name) after.column after.text)
    (tag_content directives (suc (suc (length name))) tag (spaces n ++ rest) parsed tagged)
    ∙ with_tag directives (Some name) (suc (suc (length name))) tag (spaces n ++ rest) parsed tagged (ends refl)
    ∙ ap (λ t. let made : Option PropertiesRead = Some (record { properties = record { anchor = Some name; tag = Some parsed }; text = t }) in made)
    (spaces_both (suc (suc (length name)) + length tag) n rest
    ∙ ap (λ k. spaces (k + n) ++ rest) (counted (length name) (length tag) ∙ ap suc (sym (length-append name (space ∷ tag)))))
  where
    counted : (a b : ℕ) → suc (suc a) + b ≡ suc (a + suc b)
    counted a b = omega arith
properties_parsed directives None None (Some parsed) n rest named tagged own ends = absurd tagged
properties_parsed directives None (Some tag) None n rest named tagged own ends = absurd tagged
properties_parsed directives (Some name) None (Some parsed) n rest named tagged own ends = absurd tagged
properties_parsed directives (Some name) (Some tag) None n rest named tagged own ends = absurd tagged

-- a word with properties is the text after them, with these properties
pub word_with_properties : (rules : Rules) (flow : Bool) (anchor tag : Option Text) (parsed : Option ParsedTag) (n : ℕ) (rest : Text)
    → IsNamed anchor → IsTagged rules.directives tag parsed → begins_content rest ≡ true
    → (has_properties anchor tag ≡ true → ends_indicator (spaces n ++ rest) ≡ true)
    → word_read rules flow (properties_text anchor tag ++ (spaces n ++ rest)) ≡ word_after rules flow None (record { anchor = anchor; tag = parsed }) rest
word_with_properties rules flow anchor tag parsed n rest named tagged own ends = grind (arith, properties_parsed, content_indented)
