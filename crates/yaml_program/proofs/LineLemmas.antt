-- First lines, and texts that begin with the same lines.
use Rattle.std.proofs.Common.{ℕ, suc, zero, ◌+◌, add-one, ◌<◌, ◌==◌, eqb-true, Bool, true, false, List, [], ◌∷◌, ◌++◌, ◌≡◌, ◌⊎◌, inl, inr, refl, ap}
use Rattle.std.proofs.Common.{sym, ◌∙◌, subst, append_assoc, length, take, codes, arith, if◌then◌else◌, length-append}
use Rattle.std.proofs.lemmas.List.Sums.{sum_by-append}
use Rattle.memchr.specs.Find.{Nowhere, Passes, is_byte}
use Rattle.yaml_base.proofs.DocumentsUnfold.{count_cons}
use Rattle.yaml_program.specs.Differences.{BeginAlike, first_line, line_feed, line_feeds}

not_true : (b : Bool) → (b ≡ true → ⊥) → b ≡ false
not_true true never = absurd (never refl)
not_true false never = refl

abbrev line_from : (is_end : Bool) (byte : ℕ) (rest : List ℕ) → List ℕ
line_from is_end byte rest = if is_end then byte ∷ [] else byte ∷ rest

pub first_nil : first_line [] ≡ []
unfolding first_line
first_nil = refl

first_cons : (byte : ℕ) (text : List ℕ) → first_line (byte ∷ text) ≡ line_from (byte == line_feed) byte (first_line text)
unfolding first_line
first_cons byte text = refl

-- A line goes on past a byte that is no line feed.
goes_on : (byte : ℕ) (text : List ℕ) → ((byte == line_feed) ≡ true → ⊥) → first_line (byte ∷ text) ≡ byte ∷ first_line text
goes_on byte text other = first_cons byte text ∙ ap (λ (b : Bool). line_from b byte (first_line text)) (not_true (byte == line_feed) other)

-- A line ends at its first line feed.
pub line_to : (text : List ℕ) (end : ℕ) → end < length text → Nowhere (Passes (is_byte line_feed) text) 0 end → Passes (is_byte line_feed) text end
    → take (end + 1) text ≡ first_line text
line_to [] end within none is = absurd (omega (arith, within))
line_to (byte ∷ text) zero within none is = sym (first_cons byte text ∙ ap (λ (b : Bool). line_from b byte (first_line text)) is)
line_to (byte ∷ text) (suc end) within none is =
    ap (λ (n : ℕ). take n (byte ∷ text)) (add-one (suc end)) ∙ ap (λ (n : ℕ). byte ∷ take n text) (sym (add-one end))
    ∙ ap (λ (rest : List ℕ). byte ∷ rest) (line_to text end (omega (arith, within)) (λ k low high. none (suc k) (omega arith) (omega (arith, high))) is)
    ∙ sym (goes_on byte text (none 0 (omega arith) (omega arith)))

-- A text without a line feed is one line.
pub one_line : (text : List ℕ) → Nowhere (Passes (is_byte line_feed) text) 0 (length text) → text ≡ first_line text
one_line [] none = sym first_nil
one_line (byte ∷ text) none =
    ap (λ (rest : List ℕ). byte ∷ rest) (one_line text (λ k low high. none (suc k) (omega arith) (omega (arith, high))))
    ∙ sym (goes_on byte text (none 0 (omega arith) (omega arith)))

-- True of a line that ends with a line feed.
record Ends (line : List ℕ) : Type 0 where
  before : List ℕ
  is : line ≡ before ++ codes "\n"
  one : line_feeds line ≡ 1

-- A first line ends, or is the whole text.
ends_or_all : (text : List ℕ) → Ends (first_line text) ⊎ (first_line text ≡ text)
ends_or_all [] = inr first_nil
ends_or_all (byte ∷ text) =
    let done : (b : Bool) → (byte == line_feed) ≡ b → Ends (line_from b byte (first_line text)) ⊎ (line_from b byte (first_line text) ≡ byte ∷ text) =
    λ b is. by b is (ends_or_all text) in
    subst (λ (line : List ℕ). Ends line ⊎ (line ≡ byte ∷ text)) (sym (first_cons byte text)) (done (byte == line_feed) refl)
  where
    counted : (b : Bool) (rest : List ℕ) → (byte == line_feed) ≡ b → line_feeds (byte ∷ rest) ≡ (if b then 1 else 0) + line_feeds rest
    counted b rest is = count_cons (λ (c : ℕ). c == line_feed) byte rest ∙ ap (λ (b : Bool). (if b then 1 else 0) + line_feeds rest) is

    by : (b : Bool) → (byte == line_feed) ≡ b → Ends (first_line text) ⊎ (first_line text ≡ text)
        → Ends (line_from b byte (first_line text)) ⊎ (line_from b byte (first_line text) ≡ byte ∷ text)
    by true is rest = inl (record { before = []; is = ap (λ (c : ℕ). c ∷ []) (eqb-true byte line_feed is); one = counted true [] is })
    by false is (inl ends) =
        inl (record {
          before = byte ∷ ends.before;
          is = ap (λ (l : List ℕ). byte ∷ l) ends.is;
          one = grind (arith, counted false (first_line text) is, ends.one);
        })
    by false is (inr all) = inr (ap (λ (l : List ℕ). byte ∷ l) all)

-- Two texts whose next lines are the same begin alike past these lines, unless they are the same, and less is left.
pub next_alike : (old new old_rest new_rest old_later new_later : List ℕ) (number : ℕ) → (old ≡ new → ⊥) → BeginAlike old new number old_rest new_rest
    → old_rest ≡ first_line old_rest ++ old_later → new_rest ≡ first_line new_rest ++ new_later → first_line old_rest ≡ first_line new_rest
    → BeginAlike old new (number + 1) old_later new_later × (length old_later < length old_rest)
next_alike old new old_rest new_rest old_later new_later number other alike old_split new_split same = by (ends_or_all old_rest) (ends_or_all new_rest)
  where
    line : List ℕ
    line = first_line old_rest

    shorter : Ends line → length old_later < length old_rest
    shorter ends = omega (arith, ap length old_split, length-append line old_later, ap length ends.is, length-append ends.before (codes "\n"))

    past : Ends line → BeginAlike old new (number + 1) old_later new_later × (length old_later < length old_rest)
    past ends = (
      record {
        same = alike.same ++ line;
        lines = inr (alike.same ++ ends.before, ap (λ (l : List ℕ). alike.same ++ l) ends.is ∙ sym (append_assoc alike.same ends.before (codes "\n")));
        numbered = omega (arith, alike.numbered, ends.one, sum_by-append (λ (byte : ℕ). if byte == line_feed then 1 else 0) alike.same line);
        old_is = alike.old_is ∙ ap (λ (l : List ℕ). alike.same ++ l) old_split ∙ sym (append_assoc alike.same line old_later);
        new_is = alike.new_is ∙ ap (λ (l : List ℕ). alike.same ++ l) (new_split ∙ ap (λ (l : List ℕ). l ++ new_later) (sym same))
            ∙ sym (append_assoc alike.same line new_later);
      },
      shorter ends,
    )

    by : Ends line ⊎ (line ≡ old_rest) → Ends (first_line new_rest) ⊎ (first_line new_rest ≡ new_rest)
        → BeginAlike old new (number + 1) old_later new_later × (length old_later < length old_rest)
    by (inl ends) _ = past ends
    by (inr all) (inl ends) = past (subst Ends (sym same) ends)
    by (inr all) (inr whole) = absurd (other (alike.old_is ∙ ap (λ (l : List ℕ). alike.same ++ l) (sym all ∙ same ∙ whole) ∙ sym alike.new_is))
