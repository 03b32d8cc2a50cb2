-- The beginning of a line with a simple key: no space, no indicator of an entry and no marker.
use Rattle.yaml_base.proofs.Common.{nat_tests, arith, ℕ, if◌then◌else◌, ◌==◌, Option, Some, codes, Bool, false, true, ◌||◌, [], ◌++◌, ◌∷◌, refl, ◌≡◌, eqb-true}
use Rattle.yaml_base.proofs.Common.{true≢false, ap, subst, sym, ◌∙◌, or_parts, false≢true, Text, is_among, space, begins_with_three, begins_no_plain}
use Rattle.yaml_base.proofs.Common.{ParsedTag, Tree, begins_with_marker, marker_of, begins_with_indicator, key_of_text, key_entry, value_entry, simple_entry}
use Rattle.yaml_base.proofs.{Common.Rules, stream_flow.StreamFlowWords.Given, stream_flow.StreamPropertyWords.lead, stream_keys.StreamKeys.NoKey}
use Rattle.yaml_base.proofs.{stream_keys.StreamKeys.key_found, stream_keys.StreamKeysFit.KeyText, stream_keys.StreamPlainKeys.not_among}
use Rattle.yaml_base.proofs.{stream_keys.StreamPlainKeys.Begins, stream_lines.StreamSections.is_markerless, stream_nodes.StreamPairs.KeyFits}

-- a text before a `:` that ends it begins so
pub record KeyPrefix (text : Text) : Type 0 where
  pub first : ℕ
  pub tail : Text
  pub is : text ≡ first ∷ tail
  pub shows : (first == space) ≡ false
  pub no_indicator : (symbol : ℕ) → is_among (codes "?:-") symbol ≡ true → (after : Text) → begins_with_indicator symbol (text ++ (0x3A ∷ after)) ≡ false
  pub no_exclamation : (symbol : ℕ) → is_among (codes "-.") symbol ≡ true → (after : Text) → begins_with_marker symbol (text ++ (0x3A ∷ after)) ≡ false

-- a line with it is no marker
pub prefix_markerless : (text : Text) → KeyPrefix text → (after : Text) → is_markerless (marker_of (text ++ (0x3A ∷ after))) ≡ true
prefix_markerless text prefix after = grind (arith)

-- such a text is a simple key's, if it is cut off
pub key_fits : (rules : Rules) (text : Text) (tree : Tree) → KeyPrefix text → KeyText rules.breaks12 text → ((after : Text) → NoKey rules [] text after)
    → key_of_text rules text ≡ Some tree → KeyFits rules text tree
key_fits rules text tree prefix of clear read = record {
  first = prefix.first;
  tail = prefix.tail;
  is = prefix.is;
  shows = prefix.shows;
  one_line = of.line;
  no_dash = λ after h. prefix.no_indicator 0x2D refl after;
  simple = λ after h.
      ap (λ x. if x then key_entry else (if begins_with_indicator 0x3A (text ++ (0x3A ∷ after)) then value_entry else simple_entry))
      (prefix.no_indicator 0x3F refl after)
      ∙ ap (λ x. if x then value_entry else simple_entry) (prefix.no_indicator 0x3A refl after);
  markerless = λ after h. prefix_markerless text prefix after;
  cut = λ after h. key_found rules [] text after tree (clear after) read h;
}

-- a text that begins with none of these characters
pub other_prefix : (c : ℕ) (t : Text) → (c == space) ≡ false → is_among (codes "?:-.") c ≡ false → KeyPrefix (c ∷ t)
other_prefix c t shows other = grind (arith, not_among, false≢true)

-- properties begin with `&` or `!`; without them the text after them begins
pub lead_prefix : (rules : Rules) (anchor tag : Option Text) (parsed : Option ParsedTag) (rest : Text) → Given rules anchor tag parsed → KeyPrefix rest
    → KeyPrefix (lead anchor tag ++ rest)
lead_prefix rules anchor tag parsed rest h k = grind (arith, nat_tests, other_prefix)

-- Plain text

-- the text after an indicator that plain text begins with isn't white
plain_indicator : (breaks12 : Bool) (c : ℕ) (t after : Text) → begins_no_plain breaks12 (c ∷ t) ≡ false → (symbol : ℕ) → is_among (codes "?:-") symbol ≡ true
    → begins_with_indicator symbol ((c ∷ t) ++ (0x3A ∷ after)) ≡ false
plain_indicator breaks12 c t after h symbol member = grind (arith, true≢false, eqb-true, or_parts)

-- nor does it begin with three of a marker's indicator
plain_marker : (c : ℕ) (t after : Text) (symbol : ℕ) → (0x3A == symbol) ≡ false → begins_with_three symbol (c ∷ t) ≡ false → begins_with_marker symbol
    ((c ∷ t) ++ (0x3A ∷ after)) ≡ false
plain_marker c t after symbol h k = grind (arith, nat_tests)

-- the beginning of plain text
pub plain_prefix : (breaks12 : Bool) (c : ℕ) (t : Text) → begins_no_plain breaks12 (c ∷ t) ≡ false → Begins c → KeyPrefix (c ∷ t)
plain_prefix breaks12 c t h b =
    let three = or_parts _ _ (or_parts _ _ (or_parts _ _ h).0).0 in
    record {
      first = c;
      tail = t;
      is = refl;
      shows = b.blank;
      no_indicator = λ symbol member after. plain_indicator breaks12 c t after h symbol member;
      no_exclamation = λ symbol member after. by symbol member (symbol == 0x2D) refl three.0 three.1 after;
    }
  where
    by : (symbol : ℕ) → is_among (codes "-.") symbol ≡ true → (x : Bool) → (symbol == 0x2D) ≡ x → begins_with_three 45 (c ∷ t) ≡ false → begins_with_three 46
        (c ∷ t) ≡ false
        → (after : Text) → begins_with_marker symbol ((c ∷ t) ++ (0x3A ∷ after)) ≡ false
    by symbol member true e dash dot after = subst (λ n. begins_with_marker n ((c ∷ t) ++ (0x3A ∷ after)) ≡ false) (sym (eqb-true symbol 0x2D e))
        (plain_marker c t after 0x2D refl dash)
    by symbol member false e dash dot after =
        subst (λ n. begins_with_marker n ((c ∷ t) ++ (0x3A ∷ after)) ≡ false) (sym (eqb-true symbol 0x2E
        (dotted (symbol == 0x2E) (ap (λ x. x || ((symbol == 0x2E) || false)) (sym e) ∙ member)))) (plain_marker c t after 0x2E refl dot)
      where
        dotted : (x : Bool) → (x || false) ≡ true → x ≡ true
        dotted true h = refl
        dotted false h = absurd (false≢true h)
