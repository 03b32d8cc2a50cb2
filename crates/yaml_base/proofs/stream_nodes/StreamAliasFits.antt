-- An alias that is no simple key fits at its place in a block.
use Rattle.yaml_base.proofs.Common.{and_from, or_from, or_parts}
use Rattle.yaml_base.proofs.Common.{ℕ, ◌<◌, if◌then◌else◌, ◌==◌, is_some, Option, None, Some, Bool, false, not, true, ◌&&◌, List, [], ◌++◌, ◌∷◌, refl, ◌≡◌}
use Rattle.yaml_base.proofs.Common.{eqb-true, true≢false, append-nil, append_assoc, ap, subst, sym, ◌∙◌, arith, and_parts, false≢true, list_all}
use Rattle.yaml_base.proofs.Common.{Text, line_feed, space, is_alpha, Cursor, TagDirective, alias_node, render_alias, Place, is_simple_at, is_read_break}
use Rattle.yaml_base.proofs.Common.{Effective, is_read_white, alias_tree, all_deeper, spaces, key_from, trimmed}
use Rattle.yaml_base.proofs.{stream_nodes.StreamBlocks.below_ends, stream_nodes.StreamFits.FitsOr, stream_nodes.StreamNodesFit.LeafFits, AllPass.none_pass}
use Rattle.yaml_base.proofs.Common.{begins_mapping, begins_text, kind_of_node, Rules, no_properties, word_after}
use Rattle.yaml_base.proofs.stream_lines.StreamClosed.{closed, lines_broken, character_line}
use Rattle.yaml_base.proofs.stream_lines.StreamLineLaws.{is_closed, OneLine, break_line, not_white}
use Rattle.yaml_base.proofs.stream_nodes.StreamLeafFits.{TextReads, text_node}
use Rattle.yaml_base.proofs.CommentBlanks.{blanks_kept}
use Rattle.yaml_base.proofs.stream_nodes.StreamLeads.{before_count, before_spaces, before_some}

-- a letter of a name is none of the characters that names don't hold
other_letter : (c n : ℕ) → is_alpha n ≡ false → is_alpha c ≡ true → (c == n) ≡ false
other_letter c n none h = grind (arith, true≢false, eqb-true)

-- a letter breaks no line
letter_line : (breaks12 : Bool) (c : ℕ) → is_alpha c ≡ true → is_read_break breaks12 c ≡ false
letter_line breaks12 c h = grind (arith, other_letter)

-- nor is it white
letter_shows : (breaks12 : Bool) (c : ℕ) → is_alpha c ≡ true → is_read_white breaks12 c ≡ false
letter_shows breaks12 c h = grind (arith, other_letter, letter_line)

-- a name is on one line
pub name_line : (breaks12 : Bool) (name : Text) → list_all is_alpha name ≡ true → OneLine breaks12 name
name_line breaks12 name h = none_pass is_alpha (is_read_break breaks12) (letter_line breaks12) name h

-- the break after it is cut off
name_trimmed : (breaks12 : Bool) (name : Text) → list_all is_alpha name ≡ true → trimmed breaks12 (name ++ (line_feed ∷ [])) ≡ name
name_trimmed true [] h = refl
name_trimmed false [] h = refl
name_trimmed breaks12 (c ∷ name) h = grind (arith, and_parts, and_from, or_parts, or_from, not_white, letter_shows, name_trimmed breaks12 name)

-- no key ends in it
name_no_key : (rules : Rules) (before name : Text) → list_all is_alpha name ≡ true → key_from rules before name ≡ None
name_no_key rules before [] h = refl
name_no_key rules before (c ∷ name) h = grind (arith, and_parts, and_from, or_parts, or_from, other_letter, name_no_key rules (before ++ (c ∷ [])) name)

-- an alias is a text of its own
alias_kind : (rules : Rules) (name : Text) → list_all is_alpha name ≡ true → kind_of_node rules (0x2A ∷ name) ≡ begins_text
alias_kind rules name h = ap (λ key. if is_some key then begins_mapping else begins_text) (name_no_key rules (0x2A ∷ []) name h)

-- the break after an alias is cut off
star_trimmed : (breaks12 : Bool) (name : Text) → list_all is_alpha name ≡ true → trimmed breaks12 (0x2A ∷ (name ++ (line_feed ∷ []))) ≡ 0x2A ∷ name
star_trimmed true name h = ap (λ t. 0x2A ∷ t) (name_trimmed true name h)
star_trimmed false name h = ap (λ t. 0x2A ∷ t) (name_trimmed false name h)

-- it reads as one
alias_word : (rules : Rules) (column : Option ℕ) (n : ℕ) (t : Text) → list_all is_alpha (n ∷ t) ≡ true
    → word_after rules false column no_properties (0x2A ∷ n ∷ t) ≡ Some (alias_tree (n ∷ t))
alias_word rules column n t h = grind (arith)

-- so does its line
alias_read : (rules : Rules) (column : Option ℕ) (n : ℕ) (t : Text) → list_all is_alpha (n ∷ t) ≡ true
    → (if all_deeper column [] then word_after rules false column no_properties (trimmed rules.breaks12 (0x2A ∷ n ∷ (t ++ (line_feed ∷ [])))) else None)
    ≡ Some (alias_tree (n ∷ t))
alias_read rules column n t h =
    ap (λ x. if x then word_after rules false column no_properties (trimmed rules.breaks12 (0x2A ∷ n ∷ (t ++ (line_feed ∷ [])))) else None) (deeper column)
    ∙ ap (word_after rules false column no_properties) (star_trimmed rules.breaks12 (n ∷ t) h) ∙ alias_word rules column n t h
  where
    deeper : (column : Option ℕ) → all_deeper column [] ≡ true
    deeper None = refl
    deeper (Some c) = refl

-- so it reads on its line
alias_reads : (rules : Rules) (column : Option ℕ) (n : ℕ) (t : Text) → list_all is_alpha (n ∷ t) ≡ true
    → TextReads rules column ((0x2A ∷ n ∷ t) ++ (line_feed ∷ [])) (alias_tree (n ∷ t)) false
alias_reads rules column n t h = record {
  head = 0x2A;
  first = n ∷ t;
  ending = line_feed ∷ [];
  rest = [];
  is = lines_broken rules.breaks12 (0x2A ∷ n ∷ t) []
      (character_line rules.breaks12 0x2A (n ∷ t) (break_line rules.breaks12 0x2A refl) (name_line rules.breaks12 (n ∷ t) h));
  shows = refl;
  kind = alias_kind rules (n ∷ t) h;
  deeper = λ c e. refl;
  read = λ reads at. alias_read rules column n t h;
  spares = λ allowed ends count reads at.
      blanks_kept count rules column no_properties (0x2A ∷ n ∷ t) (line_feed ∷ []) [] (alias_tree (n ∷ t)) ends refl (alias_read rules column n t h);
}

-- the rendered text of an alias, with the break after it
alias_text : (n : ℕ) (t : Text) (cursor : Cursor) (count : ℕ) → (if true && not cursor.whitespace then space ∷ [] else []) ≡ spaces count
    → closed (render_alias (n ∷ t) false cursor) ≡ (spaces count ++ (0x2A ∷ n ∷ t)) ++ (line_feed ∷ [])
alias_text n t cursor count h = grind (arith, append-nil, append_assoc)

-- an alias after some spaces fits
named_fits : (rules : Rules) (n : ℕ) (t : Text) (place : Place) (cursor : Cursor) (count : ℕ) → list_all is_alpha (n ∷ t) ≡ true
    → (if true && not cursor.whitespace then space ∷ [] else []) ≡ spaces count → (cursor.whitespace ≡ false → 0 < count)
    → FitsOr rules 1 (render_alias (n ∷ t) false cursor) (alias_tree (n ∷ t)) place cursor false
named_fits rules n t place cursor count name spaced some =
    let word = 0x2A ∷ n ∷ t in
    let same = alias_text n t cursor count spaced in
    text_node rules _ place cursor count _ _ false (same ∙ append_assoc (spaces count) word (line_feed ∷ []))
    (ap (is_closed rules.breaks12) same ∙ below_ends _ (spaces count ++ word) [] refl) (λ h. absurd (false≢true h)) some
    (alias_reads rules place.column n t name)

-- an alias that is no simple key fits
pub alias_fits : (rules : Rules) (s : Effective) (directives : List TagDirective) (n : ℕ) (t : Text) (place : Place) (cursor : Cursor)
    → list_all is_alpha (n ∷ t) ≡ true
    → is_simple_at place s.canonical directives (alias_node (n ∷ t)) ≡ false → LeafFits rules s directives (alias_node (n ∷ t)) place cursor
alias_fits rules s directives n t place cursor name simple =
    subst (λ x. FitsOr rules 1 (render_alias (n ∷ t) x cursor) (alias_tree (n ∷ t)) place cursor false) (sym simple)
    (named_fits rules n t place cursor (before_count cursor.whitespace) name (before_spaces cursor.whitespace) (before_some cursor.whitespace))
