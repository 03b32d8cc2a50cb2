-- The rest that a reader leaves is an ending of the text.
use Rattle.toml_ordered.proofs.Common.{◌≡◌, ℕ, zero, suc, ◌&&◌, ◌||◌, ◌==◌, Bool, true, false, cond, List, [], ◌∷◌, ◌++◌, length, take, drop, slice_index, ◌+◌}
use Rattle.toml_ordered.proofs.Common.{◌-◌, ◌≤◌, Option, Some, None, option_map, refl, sym, ap, subst, arith, ◌∙◌, length-append, same_Some, prefix_len}
use Rattle.toml_ordered.proofs.Common.{option_and_then, Read, first, skip_blank, is_bare, starts_string, Key, recursion_limit, word_len, after_byte, ends_line}
use Rattle.toml_ordered.proofs.Common.{TomlNode, string, Items, no_items, array, table, push_item, TomlNodes, scalar_node, atom, expression, is_doubled, keyval}
use Rattle.toml_ordered.proofs.Common.{line, EndsWith, Expression, array_table, key_value, put, std_table, Closed}
use Rattle.std.proofs.{Math.Seq.drop-append-add, lemmas.List.append_assoc, lemmas.List.take-append-drop}
use Rattle.std.specs.{Str.Parse.digits_value, Prelude.nat_lt, Prelude.is_some, Prelude.unwrap_or, Prelude.encode_utf8}
use Rattle.toml_parser.specs.Lexical.{skip_turn, skip_from, skip_lines, skip_ws, starts_newline, is_ws, split_while, dot, equals, comma, left_bracket}
use Rattle.toml_parser.specs.Lexical.{right_bracket, left_brace, right_brace, line_feed, backslash}
use Rattle.toml_parser.specs.Strings.{hex_len, hex_escape, simple_escape, escape_char, escape, is_plain, at_delims, special, prepend, after_piece, body}
use Rattle.toml_parser.specs.Strings.{trim_newline, one_line, quoted, simple_key, key_after}
use Rattle.toml_parser.specs.Numbers.{unquoted, word_value}
use Rattle.toml.specs.Parse.{after_element, header_key, key_equals, skip_bom}
use Rattle.toml_ordered.specs.{Data.no_nodes, Grammar.val, Grammar.items, Grammar.members}

pub ends_self : (text : List ℕ) → EndsWith text text
ends_self text = ([], refl)

pub ends_then : (text middle end : List ℕ) → EndsWith text middle → EndsWith middle end → EndsWith text end
ends_then text middle end outer inner = (outer.0 ++ inner.0, outer.1 ∙ ap (λ (rest : List ℕ). outer.0 ++ rest) inner.1 ∙ sym (append_assoc outer.0 inner.0 end))

pub ends_drop : (n : ℕ) (text : List ℕ) → EndsWith text (drop n text)
ends_drop n text = (take n text, sym (take-append-drop n text))

ends_behind : (c : ℕ) (text end : List ℕ) → EndsWith text end → EndsWith (c ∷ text) end
ends_behind c text end ends = (c ∷ ends.0, ap (λ (rest : List ℕ). c ∷ rest) ends.1)

-- after a value that was read
abbrev pub LeavesEnd : {A : Type 0} → List ℕ → Read A → Type 0
LeavesEnd text None = Unit {0}
LeavesEnd text (Some r) = EndsWith text r.1

pub end_left : {A : Type 0} (text : List ℕ) (o : Read A) (x : A) (rest : List ℕ) → LeavesEnd text o → o ≡ Some (x, rest) → EndsWith text rest
end_left text None x rest leaves is = absurd (cc)
end_left text (Some r) x rest leaves is = subst (EndsWith text) (ap (λ p. p.1) (same_Some r (x, rest) is)) leaves

leaves_in : {A : Type 0} (text middle : List ℕ) (o : Read A) → EndsWith text middle → LeavesEnd middle o → LeavesEnd text o
leaves_in text middle None outer leaves = tt
leaves_in text middle (Some r) outer leaves = ends_then text middle r.1 outer leaves

leaves_if : {A : Type 0} (text : List ℕ) (b : Bool) (x y : Read A) → LeavesEnd text x → LeavesEnd text y → LeavesEnd text (cond b x y)
leaves_if text true x y first second = first
leaves_if text false x y first second = second

leaves_then : {A B : Type 0} (text : List ℕ) (o : Read A) (f : A × List ℕ → Read B) → LeavesEnd text o → ((r : A × List ℕ) → LeavesEnd r.1 (f r))
    → LeavesEnd text (option_and_then f o)
leaves_then text None f leaves next = tt
leaves_then text (Some r) f leaves next = leaves_in text r.1 (f r) leaves (next r)

-- the same text is left
leaves_map : {A B : Type 0} (text : List ℕ) (o : Read A) (f : A × List ℕ → B × List ℕ) → LeavesEnd text o → ((r : A × List ℕ) → EndsWith r.1 (f r).1)
    → LeavesEnd text (option_map f o)
leaves_map text None f leaves same = tt
leaves_map text (Some r) f leaves same = ends_then text r.1 (f r).1 leaves (same r)

-- this text is left
leaves_this : {A B : Type 0} (text : List ℕ) (o : Option A) (f : A → B × List ℕ) → ((x : A) → EndsWith text (f x).1) → LeavesEnd text (option_map f o)
leaves_this text None f ends = tt
leaves_this text (Some x) f ends = ends x

-- ---- between tokens

skip_from_ends : (comments inside : Bool) (text : List ℕ) → EndsWith text (skip_from comments inside text)
unfolding skip_from
skip_from_ends comments inside [] = ([], refl)
skip_from_ends comments inside (c ∷ cs) =
    let on = unwrap_or (skip_turn comments inside c (first cs)) false in
    by (is_some (skip_turn comments inside c (first cs))) (skip_from comments on cs) (skip_from_ends comments on cs)
  where
    by : (b : Bool) (end : List ℕ) → EndsWith cs end → EndsWith (c ∷ cs) (cond b end (c ∷ cs))
    by true end ends = ends_behind c cs end ends
    by false end ends = ends_self (c ∷ cs)

pub skip_blank_ends : (text : List ℕ) → EndsWith text (skip_blank text)
skip_blank_ends text = skip_from_ends true false text

pub skip_ws_ends : (text : List ℕ) → EndsWith text (skip_ws text)
unfolding skip_ws
skip_ws_ends text = ends_drop (prefix_len is_ws text) text

-- ---- strings

hex_ends : (n : ℕ) (text : List ℕ) → LeavesEnd text (hex_escape n text)
unfolding hex_escape
hex_ends n text = leaves_if text _ (Some (digits_value 16 (take n text), drop n text)) None (ends_drop n text) tt

escape_char_ends : (text : List ℕ) → LeavesEnd text (escape_char text)
unfolding escape_char
escape_char_ends text =
    leaves_if text (nat_lt 0 (hex_len (first text))) (hex_escape (hex_len (first text)) (drop 1 text))
    (option_map (λ c. (c, drop 1 text)) (simple_escape (first text)))
    (leaves_in text (drop 1 text) (hex_escape (hex_len (first text)) (drop 1 text)) (ends_drop 1 text) (hex_ends (hex_len (first text)) (drop 1 text)))
    (leaves_this text (simple_escape (first text)) (λ c. (c, drop 1 text)) (λ c. ends_drop 1 text))

escape_ends : (multi : Bool) (text : List ℕ) → LeavesEnd text (escape multi text)
unfolding escape
escape_ends multi text =
    leaves_if text (multi && starts_newline (skip_ws text)) (Some ([], skip_lines text)) (option_map (λ p. (encode_utf8 p.0, p.1)) (escape_char text))
    (skip_from_ends false false text) (leaves_map text (escape_char text) (λ p. (encode_utf8 p.0, p.1)) (escape_char_ends text) (λ p. ends_self p.1))

at_delims_ends : (delim : ℕ) (text : List ℕ) → LeavesEnd text (at_delims delim text)
at_delims_ends delim text =
    leaves_if text (prefix_len (λ c. c == delim) text == 3) (Some (None, drop 3 text)) _ (ends_drop 3 text)
    (leaves_if text (nat_lt (prefix_len (λ c. c == delim) text) 6) (Some (Some (delim ∷ []), drop 1 text)) None (ends_drop 1 text) tt)

special_ends : (delim : ℕ) (multi : Bool) (text : List ℕ) → LeavesEnd text (special delim multi text)
unfolding special
special_ends delim multi text =
    leaves_if text (first text == delim) _ _ (leaves_if text multi (at_delims delim text) (Some (None, drop 1 text)) (at_delims_ends delim text)
    (ends_drop 1 text)) (leaves_if text (first text == backslash) (option_map (λ p. (Some p.0, p.1)) (escape multi (drop 1 text))) _ (leaves_in text
    (drop 1 text) (option_map (λ p. (Some p.0, p.1)) (escape multi (drop 1 text))) (ends_drop 1 text) (leaves_map (drop 1 text) (escape multi (drop 1 text))
    (λ p. (Some p.0, p.1)) (escape_ends multi (drop 1 text)) (λ p. ends_self p.1))) (leaves_if text (multi && starts_newline text)
    (Some (Some (first text ∷ []), drop 1 text)) None (ends_drop 1 text) tt))

body_ends : (delim : ℕ) (multi : Bool) (n : ℕ) (text : List ℕ) → LeavesEnd text (body delim multi n text)
unfolding body
body_ends delim multi zero text = tt
body_ends delim multi (suc n) text =
    leaves_if text (is_plain delim multi (first text)) (prepend (first text ∷ []) (body delim multi n (drop 1 text))) _ (leaves_in text (drop 1 text)
    (prepend (first text ∷ []) (body delim multi n (drop 1 text))) (ends_drop 1 text) (prepended (first text ∷ []) (drop 1 text)
    (body delim multi n (drop 1 text)) (body_ends delim multi n (drop 1 text)))) (leaves_then text (special delim multi text)
    (λ p. after_piece (body delim multi n) p.0 p.1) (special_ends delim multi text) (λ p. piece (λ rest. body_ends delim multi n rest) p.0 p.1))
  where
    prepended : (front text : List ℕ) (o : Read (List ℕ)) → LeavesEnd text o → LeavesEnd text (prepend front o)
    prepended front text o leaves = leaves_map text o (λ p. (front ++ p.0, p.1)) leaves (λ p. ends_self p.1)

    piece : ((t : List ℕ) → LeavesEnd t (body delim multi n t)) → (o : Option (List ℕ)) (rest : List ℕ)
        → LeavesEnd rest (after_piece (body delim multi n) o rest)
    piece more None rest = ends_self rest
    piece more (Some bytes) rest = prepended bytes rest (body delim multi n rest) (more rest)

trim_ends : (text : List ℕ) → EndsWith text (trim_newline text)
trim_ends text = by (first text == line_feed) (starts_newline text)
  where
    by : (a b : Bool) → EndsWith text (cond a (drop 1 text) (cond b (drop 2 text) text))
    by true b = ends_drop 1 text
    by false true = ends_drop 2 text
    by false false = ends_self text

one_line_ends : (text : List ℕ) → LeavesEnd text (one_line text)
unfolding one_line
one_line_ends text =
    leaves_in text (drop 1 text) (body (first text) false (length text) (drop 1 text)) (ends_drop 1 text)
    (body_ends (first text) false (length text) (drop 1 text))

quoted_ends : (text : List ℕ) → LeavesEnd text (quoted text)
unfolding quoted
quoted_ends text =
    let from = trim_newline (drop 3 text) in
    leaves_if text (slice_index text 1 == first text && slice_index text 2 == first text) (body (first text) true (length text) from) (one_line text)
    (leaves_in text from (body (first text) true (length text) from) (ends_then text (drop 3 text) from (ends_drop 3 text) (trim_ends (drop 3 text)))
    (body_ends (first text) true (length text) from)) (one_line_ends text)

-- ---- keys

simple_key_ends : (text : List ℕ) → LeavesEnd text (simple_key text)
unfolding simple_key
simple_key_ends text =
    leaves_if text (starts_string text) (one_line text) _ (one_line_ends text)
    (leaves_if text (is_bare (first text)) (Some (split_while is_bare text)) None (ends_drop (prefix_len is_bare text) text) tt)

key_after_ends : (n : ℕ) (path : List (List ℕ)) (text : List ℕ) → LeavesEnd text (key_after n path text)
unfolding key_after
key_after_ends zero path text = tt
key_after_ends (suc n) path text =
    leaves_then text (simple_key text) _ (simple_key_ends text)
    (λ part. by part.0 part.1 (key_after_ends n (path ++ part.0 ∷ []) (skip_ws (drop 1 (skip_ws part.1)))))
  where
    by : (name rest : List ℕ) → LeavesEnd (skip_ws (drop 1 (skip_ws rest))) (key_after n (path ++ name ∷ []) (skip_ws (drop 1 (skip_ws rest))))
        → LeavesEnd rest
        (cond (first (skip_ws rest) == dot) (key_after n (path ++ name ∷ []) (skip_ws (drop 1 (skip_ws rest)))) (Some ((path, name), skip_ws rest)))
    by name rest more =
        let next = skip_ws (drop 1 (skip_ws rest)) in
        leaves_if rest (first (skip_ws rest) == dot) (key_after n (path ++ name ∷ []) next) (Some ((path, name), skip_ws rest)) (leaves_in rest next
        (key_after n (path ++ name ∷ []) next) (ends_then rest (skip_ws rest) next (skip_ws_ends rest)
        (ends_then (skip_ws rest) (drop 1 (skip_ws rest)) next (ends_drop 1 (skip_ws rest)) (skip_ws_ends (drop 1 (skip_ws rest))))) more) (skip_ws_ends rest)

pub key_equals_ends : (text : List ℕ) → LeavesEnd text (key_equals text)
unfolding key_equals
key_equals_ends text =
    leaves_then text (key_after recursion_limit [] text) (λ k. option_map (λ rest. (k.0, skip_ws rest)) (after_byte equals k.1))
    (key_after_ends recursion_limit [] text) (λ k. by k.0 k.1 (first k.1 == equals))
  where
    by : (k : Key) (rest : List ℕ) (b : Bool) → LeavesEnd rest (option_map (λ left. (k, skip_ws left)) (cond b (Some (drop 1 rest)) None))
    by k rest true = ends_then rest (drop 1 rest) (skip_ws (drop 1 rest)) (ends_drop 1 rest) (skip_ws_ends (drop 1 rest))
    by k rest false = tt

-- ---- values

word_ends : (text : List ℕ) → LeavesEnd text (unquoted text)
unfolding unquoted
word_ends text =
    leaves_if text (word_len text == 0) None _ tt
    (leaves_this text (word_value (take (word_len text) text)) (λ d. (d, drop (word_len text) text)) (λ d. ends_drop (word_len text) text))

atom_ends : (text : List ℕ) → LeavesEnd text (atom text)
atom_ends text =
    leaves_if text (starts_string text) _ _ (leaves_map text (quoted text) (λ p. (string p.0, p.1)) (quoted_ends text) (λ p. ends_self p.1))
    (leaves_map text (unquoted text) (λ p. (scalar_node (take (word_len text) text) p.0, p.1)) (word_ends text) (λ p. ends_self p.1))

pub after_element_ends : (closing : ℕ) (text next : List ℕ) → after_element closing text ≡ Some next → EndsWith text next
unfolding after_element
after_element_ends closing text next = by (first rest == comma) (first rest == closing)
  where
    rest : List ℕ
    rest = skip_blank text

    same : (end : List ℕ) → EndsWith text end → Some end ≡ Some next → EndsWith text next
    same end ends is = subst (EndsWith text) (same_Some end next is) ends

    by : (a b : Bool) → cond a (Some (drop 1 rest)) (cond b (Some rest) None) ≡ Some next → EndsWith text next
    by true b is = same (drop 1 rest) (ends_then text rest (drop 1 rest) (skip_blank_ends text) (ends_drop 1 rest)) is
    by false true is = same rest (skip_blank_ends text) is
    by false false is = absurd (cc)

module _ (val : List ℕ → Read TomlNode) (leaves : (text : List ℕ) → LeavesEnd text (val text)) where
  pair_ends : (text : List ℕ) → LeavesEnd text (keyval val text)
  pair_ends text =
      leaves_then text (key_equals text) _ (key_equals_ends text) (λ k. leaves_map k.1 (val k.1) (λ x. ((k.0, x.0), x.1)) (leaves k.1) (λ x. ends_self x.1))

  -- the reader of the text after an element
  past_element : {A : Type 0} (closing : ℕ) (text : List ℕ) (next : List ℕ → Read A) → ((t : List ℕ) → LeavesEnd t (next t))
      → (o : Option (List ℕ)) → after_element closing text ≡ o → LeavesEnd text (option_and_then next o)
  past_element closing text next ends None is = tt
  past_element closing text next ends (Some rest) is = leaves_in text rest (next rest) (after_element_ends closing text rest is) (ends rest)

  items_ends : (n : ℕ) (found : Items) (text : List ℕ) → LeavesEnd text (items val n found text)
  unfolding items
  items_ends zero found text = tt
  items_ends (suc n) found text =
      leaves_in text (skip_blank text) _ (skip_blank_ends text)
      (leaves_if (skip_blank text) (first (skip_blank text) == right_bracket) (Some (found, drop 1 (skip_blank text))) _ (ends_drop 1 (skip_blank text))
      (leaves_then (skip_blank text) (val (skip_blank text)) _ (leaves (skip_blank text))
      (λ v. past_element right_bracket v.1 (items val n (push_item found v.0)) (items_ends n (push_item found v.0)) (after_element right_bracket v.1) refl)))

  members_ends : (n : ℕ) (found : TomlNodes) (text : List ℕ) → LeavesEnd text (members val n found text)
  unfolding members
  members_ends zero found text = tt
  members_ends (suc n) found text =
      leaves_in text (skip_blank text) _ (skip_blank_ends text) (leaves_if (skip_blank text) (first (skip_blank text) == right_brace)
      (Some (found, drop 1 (skip_blank text))) _ (ends_drop 1 (skip_blank text)) (leaves_then (skip_blank text) (keyval val (skip_blank text)) _
      (pair_ends (skip_blank text)) (λ e. by (λ more. members_ends n more) e (put e.0.0 e.0.1 found))))
    where
      by : ((more : TomlNodes) (t : List ℕ) → LeavesEnd t (members val n more t)) → (e : (Key × TomlNode) × List ℕ) (o : Option TomlNodes)
          → LeavesEnd e.1 (option_and_then (λ more. option_and_then (members val n more) (after_element right_brace e.1)) o)
      by next e None = tt
      by next e (Some more) = past_element right_brace e.1 (members val n more) (next more) (after_element right_brace e.1) refl

pub val_ends : (depth : ℕ) (text : List ℕ) → LeavesEnd text (val depth text)
unfolding val
val_ends zero text = leaves_if text (first text == left_bracket || first text == left_brace) None (atom text) tt (atom_ends text)
val_ends (suc depth) text =
    let inner = drop 1 text in
    let list = items (val depth) (length text) no_items inner in
    let braces = members (val depth) (length text) no_nodes inner in
    leaves_if text (first text == left_bracket) _ _ (leaves_in text inner _ (ends_drop 1 text) (leaves_map inner list (λ p. (array p.0, p.1))
    (items_ends (val depth) (val_ends depth) (length text) no_items inner) (λ p. ends_self p.1))) (leaves_if text (first text == left_brace) _ _ (leaves_in text
    inner _ (ends_drop 1 text) (leaves_map inner braces (λ p. (table Closed p.0, p.1)) (members_ends (val depth) (val_ends depth) (length text) no_nodes inner)
    (λ p. ends_self p.1))) (atom_ends text))

-- ---- expressions

header_key_ends : (text : List ℕ) → LeavesEnd text (header_key text)
unfolding header_key
header_key_ends text =
    let start = skip_ws text in
    leaves_in text start _ (skip_ws_ends text)
    (leaves_then start (key_after recursion_limit [] start) (λ k. option_map (λ rest. (k.0, rest)) (after_byte right_bracket k.1))
    (key_after_ends recursion_limit [] start) (λ k. by k.0 k.1 (first k.1 == right_bracket)))
  where
    by : (k : Key) (rest : List ℕ) (b : Bool) → LeavesEnd rest (option_map (λ left. (k, left)) (cond b (Some (drop 1 rest)) None))
    by k rest true = ends_drop 1 rest
    by k rest false = tt

expression_ends : (text : List ℕ) → LeavesEnd text (expression text)
expression_ends text =
    let inner = drop 1 text in
    let inmost = drop 2 text in
    leaves_if text (is_doubled text) _ _ (leaves_in text inmost _ (ends_drop 2 text) (leaves_then inmost (header_key inmost)
    (λ k. option_map (λ rest. ((k.0, array_table), rest)) (after_byte right_bracket k.1)) (header_key_ends inmost)
    (λ k. by k.0 k.1 (first k.1 == right_bracket)))) (leaves_if text (first text == left_bracket) _ _ (leaves_in text inner _ (ends_drop 1 text) (leaves_map
    inner (header_key inner) (λ k. ((k.0, std_table), k.1)) (header_key_ends inner) (λ k. ends_self k.1))) (leaves_map text (keyval (val recursion_limit) text)
    (λ e. ((e.0.0, key_value e.0.1), e.1)) (pair_ends (val recursion_limit) (val_ends recursion_limit) text) (λ e. ends_self e.1)))
  where
    by : (k : Key) (rest : List ℕ) (b : Bool)
        → LeavesEnd {A = Expression} rest (option_map (λ left. ((k, array_table), left)) (cond b (Some (drop 1 rest)) None))
    by k rest true = ends_drop 1 rest
    by k rest false = tt

line_ends : (text : List ℕ) → LeavesEnd text (line text)
line_ends text =
    leaves_then text (expression text) (λ e. cond (ends_line (skip_ws e.1)) (Some e) None) (expression_ends text)
    (λ e. leaves_if e.1 (ends_line (skip_ws e.1)) (Some e) None (ends_self e.1) tt)

pub unmarked_ends : (text : List ℕ) → EndsWith text (skip_bom text)
unfolding skip_bom
unmarked_ends text = by ((first text == 239 && slice_index text 1 == 187) && slice_index text 2 == 191)
  where
    by : (b : Bool) → EndsWith text (cond b (drop 3 text) text)
    by true = ends_drop 3 text
    by false = ends_self text

-- ---- turns of the loops

pub line_left : (text rest : List ℕ) (e : Expression) (after : List ℕ) → EndsWith text rest → line (skip_blank rest) ≡ Some (e, after) → EndsWith text after
line_left text rest e after ends read =
    let start = skip_blank rest in
    ends_then text rest after ends (ends_then rest start after (skip_blank_ends rest) (end_left start (line start) e after (line_ends start) read))

pub value_ends : (text rest : List ℕ) (key : Key) (at : List ℕ) → EndsWith text rest → key_equals (skip_blank rest) ≡ Some (key, at) → EndsWith text at
value_ends text rest key at ends named =
    let start = skip_blank rest in
    ends_then text rest at ends (ends_then rest start at (skip_blank_ends rest) (end_left start (key_equals start) key at (key_equals_ends start) named))

pub item_left : (depth : ℕ) (rest : List ℕ) (x : TomlNode) (after next : List ℕ) (closing : ℕ) → val depth (skip_blank rest) ≡ Some (x, after)
    → after_element closing after ≡ Some next → EndsWith rest next
item_left depth rest x after next closing read element =
    let start = skip_blank rest in
    ends_then rest start next (skip_blank_ends rest)
    (ends_then start after next (end_left start (val depth start) x after (val_ends depth start) read) (after_element_ends closing after next element))

pub pair_left : (depth : ℕ) (rest : List ℕ) (key : Key) (at : List ℕ) (x : TomlNode) (after next : List ℕ) (closing : ℕ)
    → key_equals (skip_blank rest) ≡ Some (key, at) → val depth at ≡ Some (x, after) → after_element closing after ≡ Some next → EndsWith rest next
pair_left depth rest key at x after next closing named read element =
    ends_then rest at next (value_ends rest rest key at (ends_self rest) named)
    (ends_then at after next (end_left at (val depth at) x after (val_ends depth at) read) (after_element_ends closing after next element))

-- a place in an ending, counted from the end, in the whole text
pub same_end : (text start : List ℕ) (left : ℕ) → EndsWith text start → left ≤ length start
    → (left ≤ length text) × (drop (length start - left) start ≡ drop (length text - left) text)
same_end text start left (front, is) within =
    let all : length text ≡ length front + length start = ap length is ∙ length-append front start in
    let from : length text - left ≡ length front + (length start - left) = omega (arith, all, within) in (
      omega (arith, all, within),
      sym (rw from (ap (drop (length front + (length start - left))) is ∙ drop-append-add front start (length start - left))),
    )
