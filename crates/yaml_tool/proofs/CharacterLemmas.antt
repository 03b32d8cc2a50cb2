-- A text goes on from character to character; the characters passed over are its prefix.
use Rattle.yaml_tool.proofs.Common.{ℕ, ◌-◌, ◌==◌, drop, length, take, List, [], ◌++◌, ◌∷◌, refl, ◌≡◌, length-append, take-append-drop, append-nil}
use Rattle.yaml_tool.proofs.Common.{append_assoc, ap, subst, sym, ◌∙◌, arith, nat_tests, list_any-append, chars-nil, encodes-append, IsUtf8-take}
use Rattle.yaml_tool.proofs.Common.{IsUtf8-past_char, chars_from_encodes, encodes-chars, chars-append, chars_past_char, encode_utf8, list_any, IsUtf8, chars}
use Rattle.yaml_tool.proofs.Common.{encode_utf8_all, IsFree, prefix_of}
use Rattle.std.proofs.{Math.Nat.sub_self, lemmas.List.drop_at, lemmas.List.take_at, lemmas.Str.IsCharBoundary-at_seam}
use Rattle.std.specs.Str.{IsCharBoundary}
use Rattle.yaml_tool.specs.Cuts.{EndsIn}

-- a text is its prefix and its end
pub prefix_and_end : (text end : List ℕ) → EndsIn text end → text ≡ prefix_of text end ++ end
prefix_and_end text end ends = sym (take-append-drop (length text - length end) text) ∙ ap (λ (bs : List ℕ). prefix_of text end ++ bs) ends.same

pub length_prefix : (text end : List ℕ) → EndsIn text end → length (prefix_of text end) ≡ length text - length end
length_prefix text end ends = omega (arith, ap length (prefix_and_end text end ends), length-append (prefix_of text end) end)

-- it may be cut there
pub cut_before_end : (text end : List ℕ) → EndsIn text end → IsUtf8 end → IsCharBoundary text (length text - length end)
cut_before_end text end ends is = subst (IsCharBoundary text) (length_prefix text end ends)
    (IsCharBoundary-at_seam text (prefix_of text end) end (prefix_and_end text end ends) is)

pub ends_in_itself : (text : List ℕ) → EndsIn text text
ends_in_itself text = record { within = omega arith; same = ap (λ (n : ℕ). drop n text) (sub_self (length text)) }

pub prefix_of_itself : (text : List ℕ) → prefix_of text text ≡ []
prefix_of_itself text = ap (λ (n : ℕ). take n text) (sub_self (length text))

-- a prefix and an end determine the place at which the text is divided
pub take_seam : (text prefix end : List ℕ) → text ≡ prefix ++ end → prefix_of text end ≡ prefix
take_seam text prefix end is = grind (arith, length, length-append, take, take_at)

drop_seam : (text prefix end : List ℕ) → text ≡ prefix ++ end → drop (length text - length end) text ≡ end
drop_seam text prefix end is = grind (arith, length, length-append, drop, drop_at)

pub ends_at_seam : (text prefix end : List ℕ) → text ≡ prefix ++ end → EndsIn text end
ends_at_seam text prefix end is = record { within = omega (arith, ap length is, length-append prefix end); same = drop_seam text prefix end is }

all_pieces : (text end piece behind : List ℕ) → EndsIn text end → end ≡ piece ++ behind → text ≡ (prefix_of text end ++ piece) ++ behind
all_pieces text end piece behind ends is = grind (arith, prefix_and_end, prefix_of, append_assoc)

-- past one more piece
pub ends_further : (text end piece behind : List ℕ) → EndsIn text end → end ≡ piece ++ behind → EndsIn text behind
ends_further text end piece behind ends is =
    let lengths = length-append piece behind in
    let longer = ap length is in
    record {
      within = omega (arith, ends.within, lengths, longer);
      same = drop_seam text (prefix_of text end ++ piece) behind (all_pieces text end piece behind ends is);
    }

pub prefix_further : (text end piece behind : List ℕ) → EndsIn text end → end ≡ piece ++ behind → prefix_of text behind ≡ prefix_of text end ++ piece
prefix_further text end piece behind ends is = take_seam text (prefix_of text end ++ piece) behind (all_pieces text end piece behind ends is)

-- past one more character, the prefix has one character more
pub prefix_grows : (text end behind : List ℕ) (c : ℕ) → IsUtf8 text → IsUtf8 end → IsUtf8 behind → EndsIn text end → end ≡ encode_utf8 c ++ behind
    → chars (prefix_of text behind) ≡ chars (prefix_of text end) ++ c ∷ []
prefix_grows text end behind c is_text is_end is_behind ends is =
    let prefix = prefix_of text end in
    let is_prefix = IsUtf8-take text (length text - length end) is_text (cut_before_end text end ends is_end) in
    let is_grown = IsUtf8-take text (length text - length behind) is_text
    (cut_before_end text behind (ends_further text end (encode_utf8 c) behind ends is) is_behind) in
    let spelled : encode_utf8_all (chars prefix ++ c ∷ []) ≡ prefix_of text behind =
    encodes-append (chars prefix) (c ∷ []) ∙ ap (λ (bs : List ℕ). bs ++ encode_utf8_all (c ∷ [])) (encodes-chars prefix is_prefix)
    ∙ ap (λ (bs : List ℕ). prefix ++ bs) (append-nil (encode_utf8 c)) ∙ sym (prefix_further text end (encode_utf8 c) behind ends is) in
    sym (chars_from_encodes (chars prefix ++ c ∷ []) (prefix_of text behind) is_grown spelled)

pub is_prefix : (text end : List ℕ) → EndsIn text end → IsUtf8 text → IsUtf8 end → IsUtf8 (prefix_of text end)
is_prefix text end ends is_text is_end = IsUtf8-take text (length text - length end) is_text (cut_before_end text end ends is_end)

-- a text that was passed over up to its end
pub record PassedEvents (text end : List ℕ) : Type 0 where
  pub ends : EndsIn text end
  pub is_text : IsUtf8 text
  pub is_end : IsUtf8 end
  pub all : chars text ≡ chars (prefix_of text end) ++ chars end

-- it is passed wherever it ends in characters
pub passed_to : (text end : List ℕ) → EndsIn text end → IsUtf8 text → IsUtf8 end → PassedEvents text end
passed_to text end ends is_text is_end = record {
  ends = ends;
  is_text = is_text;
  is_end = is_end;
  all = ap chars (prefix_and_end text end ends) ∙ chars-append (prefix_of text end) end (is_prefix text end ends is_text is_end);
}

pub nothing_passed : (text : List ℕ) → IsUtf8 text → PassedEvents text text
nothing_passed text is = record {
  ends = ends_in_itself text;
  is_text = is;
  is_end = is;
  all = ap (λ (prefix : List ℕ). prefix ++ chars text) (sym (ap chars (prefix_of_itself text) ∙ chars-nil));
}

pub empty_prefix : (text : List ℕ) → chars (prefix_of text text) ≡ []
empty_prefix text = ap chars (prefix_of_itself text) ∙ chars-nil

pub one_passed : (text end behind : List ℕ) (c : ℕ) → PassedEvents text end → end ≡ encode_utf8 c ++ behind → PassedEvents text behind
one_passed text end behind c passed is =
    let is_behind = IsUtf8-past_char end behind c passed.is_end is in
    let grown = prefix_grows text end behind c passed.is_text passed.is_end is_behind passed.ends is in
    record {
      ends = ends_further text end (encode_utf8 c) behind passed.ends is;
      is_text = passed.is_text;
      is_end = is_behind;
      all =
          passed.all
          ∙ ap (λ (rest : List ℕ). chars (prefix_of text end) ++ rest) (chars_past_char end behind c passed.is_end is)
          ∙ sym (append_assoc (chars (prefix_of text end)) (c ∷ []) (chars behind))
          ∙ ap (λ (prefix : List ℕ). prefix ++ chars behind) (sym grown);
    }

pub prefix_passed : (text end behind : List ℕ) (c : ℕ) → PassedEvents text end → end ≡ encode_utf8 c ++ behind
    → chars (prefix_of text behind) ≡ chars (prefix_of text end) ++ c ∷ []
prefix_passed text end behind c passed is = prefix_grows text end behind c passed.is_text passed.is_end
    (IsUtf8-past_char end behind c passed.is_end is) passed.ends is

-- one run of characters after another
pub run_passed : (text end further : List ℕ) → PassedEvents text end → EndsIn end further → IsUtf8 further → PassedEvents text further
run_passed text end further passed ends is =
    passed_to text further (ends_further text end (prefix_of end further) further passed.ends (prefix_and_end end further ends)) passed.is_text is

pub run_prefix : (text end further : List ℕ) → PassedEvents text end → EndsIn end further
    → chars (prefix_of text further) ≡ chars (prefix_of text end) ++ chars (prefix_of end further)
run_prefix text end further passed ends =
    ap chars (prefix_further text end (prefix_of end further) further passed.ends (prefix_and_end end further ends))
    ∙ chars-append (prefix_of text end) (prefix_of end further) (is_prefix text end passed.ends passed.is_text passed.is_end)

-- if nothing is left, the prefix is the whole text
pub all_passed : (text end : List ℕ) → PassedEvents text end → chars end ≡ [] → chars text ≡ chars (prefix_of text end)
all_passed text end passed is = passed.all ∙ ap (λ (rest : List ℕ). chars (prefix_of text end) ++ rest) is ∙ append-nil (chars (prefix_of text end))

-- a character that isn't sought leaves the prefix free
pub still_free : (delimiter c : ℕ) (prefix grown : List ℕ) → IsFree delimiter prefix → (c ≡ delimiter → ⊥) → grown ≡ prefix ++ c ∷ [] → IsFree delimiter grown
still_free delimiter c prefix grown free is_not is =
    ap (λ (text : List ℕ). list_any (λ character. character == delimiter) text) is
    ∙ list_any-append (λ character. character == delimiter) prefix (c ∷ [])
    ∙ grind (arith, nat_tests, free, is_not)
