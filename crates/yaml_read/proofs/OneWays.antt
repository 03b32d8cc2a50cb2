-- Words that can be read in one way only.
use Rattle.yaml_read.proofs.Common.{ℕ, zero, suc, None, List, [], ◌∷◌, ◌++◌, refl, ◌≡◌, ap, subst, sym, ◌∙◌, inl, inr, append_assoc, append-nil, arith, codes}
use Rattle.yaml_read.proofs.Common.{length, append_cancel_left, entry_end, levels_then, line_then, nothing, these_or_those, unless_deep, word_then, BreaksOff}
use Rattle.yaml_read.proofs.Common.{past_word}
use Rattle.yaml_read.proofs.{WordTexts.flat, Words.no_word}

-- at most one of the words that may come next begins some bytes, and none comes after the last one
pub record OneWay (These : List (List ℕ) → Type 0) : Type 0 where
  pub alike : (read : List (List ℕ)) (one other : List ℕ) (ones others : List (List ℕ)) (a b : List ℕ) → These (read ++ one ∷ ones)
      → These (read ++ other ∷ others) → one ++ a ≡ other ++ b → one ≡ other
  pub ends : (read : List (List ℕ)) (word : List ℕ) (words : List (List ℕ)) → These read → These (read ++ word ∷ words) → ⊥

-- ---- one reading of some bytes

-- two words that begin the same bytes, with what was read before them
record Together (These : List (List ℕ) → Type 0) (read : List (List ℕ)) (one other : List ℕ) (ones others : List (List ℕ)) (a b : List ℕ) : Type 0 where
  pub same : one ≡ other
  pub first : These ((read ++ one ∷ []) ++ ones)
  pub second : These ((read ++ one ∷ []) ++ others)
  pub rest : a ≡ b

onward : (These : List (List ℕ) → Type 0) (read : List (List ℕ)) (word : List ℕ) (words : List (List ℕ)) → These (read ++ word ∷ words)
    → These ((read ++ word ∷ []) ++ words)
onward These read word words are = subst These (sym (append_assoc read (word ∷ []) words)) are

backward : (These : List (List ℕ) → Type 0) (read : List (List ℕ)) (word : List ℕ) (words : List (List ℕ)) → These ((read ++ word ∷ []) ++ words)
    → These (read ++ word ∷ words)
backward These read word words are = subst These (append_assoc read (word ∷ []) words) are

together : (These : List (List ℕ) → Type 0) → OneWay These → (read : List (List ℕ)) (one other : List ℕ) (ones others : List (List ℕ)) (a b : List ℕ)
    → These (read ++ one ∷ ones) → These (read ++ other ∷ others) → one ++ a ≡ other ++ b → Together These read one other ones others a b
together These way read one other ones others a b are also is =
    let same = way.alike read one other ones others a b are also is in
    record {
      same = same;
      first = onward These read one ones are;
      second = onward These read one others (subst (λ (w : List ℕ). These (read ++ w ∷ others)) (sym same) also);
      rest = append_cancel_left one a b (is ∙ ap (λ w. w ++ b) (sym same));
    }

same_by : (These : List (List ℕ) → Type 0) → OneWay These → (read ones others : List (List ℕ)) (a b : List ℕ) → These (read ++ ones)
    → These (read ++ others) → flat ones ++ a ≡ flat others ++ b → ones ≡ others
same_by These way read [] [] a b are also is = refl
same_by These way read [] (other ∷ others) a b are also is = absurd (way.ends read other others (subst These (append-nil read) are) also)
same_by These way read (one ∷ ones) [] a b are also is = absurd (way.ends read one ones (subst These (append-nil read) also) are)
same_by These way read (one ∷ ones) (other ∷ others) a b are also is =
    let both = together _ way _ _ _ _ _ _ _ are also (sym (append_assoc one (flat ones) a) ∙ is ∙ append_assoc other (flat others) b) in
    ap (λ ws. one ∷ ws) (same_by _ way (read ++ one ∷ []) ones others a b both.first both.second both.rest) ∙ ap (λ w. w ∷ others) both.same

-- bytes begin with one list of words only
pub words_same : (These : List (List ℕ) → Type 0) (ones others : List (List ℕ)) (a b : List ℕ) → OneWay These → These ones → These others
    → flat ones ++ a ≡ flat others ++ b → ones ≡ others
words_same These ones others a b way are also is = same_by These way [] ones others a b are also is

-- ---- one place at which some bytes break off

-- a word is missing before this rest, after words before and words that were read
record Lacks (These : List (List ℕ) → Type 0) (before read : List (List ℕ)) (rest : List ℕ) : Type 0 where
  pub due : List ℕ
  pub more : List (List ℕ)
  pub begins : These (before ++ (read ++ due ∷ more))
  pub none : (next : List ℕ) (after : List (List ℕ)) → These (before ++ (read ++ next ∷ after)) → past_word next rest ≡ None

lacks_on : (These : List (List ℕ) → Type 0) (before : List (List ℕ)) (word : List ℕ) (read : List (List ℕ)) (rest : List ℕ)
    → Lacks These before (word ∷ read) rest → Lacks These (before ++ word ∷ []) read rest
lacks_on These before word read rest lacks =
    record {
      due = lacks.due;
      more = lacks.more;
      begins = onward These before word (read ++ lacks.due ∷ lacks.more) lacks.begins;
      none = λ next after are. lacks.none next after (backward These before word (read ++ next ∷ after) are);
    }

lacks_of : (These : List (List ℕ) → Type 0) (bytes : List ℕ) (left : ℕ) → (breaks : BreaksOff These bytes left) → Lacks These [] breaks.read breaks.rest
lacks_of These bytes left breaks = record { due = breaks.due; more = breaks.more; begins = breaks.begins; none = breaks.none }

-- they don't break off within words that are there
whole_by : (These : List (List ℕ) → Type 0) → OneWay These → (before read words : List (List ℕ)) (rest after : List ℕ) → Lacks These before read rest
    → These (before ++ words) → flat read ++ rest ≡ flat words ++ after → ⊥
whole_by These way before [] [] rest after lacks are is = grind (arith, append-nil)
whole_by These way before [] (word ∷ words) rest after lacks are is = grind (arith, no_word, flat, append_assoc)
whole_by These way before (first ∷ read) [] rest after lacks are is = grind (arith, append-nil)
whole_by These way before (first ∷ read) (word ∷ words) rest after lacks are is =
    let both = together _ way _ _ _ _ _ _ _ lacks.begins are (sym (append_assoc first (flat read) rest) ∙ is ∙ append_assoc word (flat words) after) in
    whole_by _ way (before ++ first ∷ []) read words rest after (lacks_on These before first read rest lacks) both.second both.rest

pub whole_breaks : (These : List (List ℕ) → Type 0) (bytes : List ℕ) (left : ℕ) (words : List (List ℕ)) (after : List ℕ) → OneWay These
    → BreaksOff These bytes left → These words → bytes ≡ flat words ++ after → ⊥
whole_breaks These bytes left words after way breaks are is =
    whole_by These way [] breaks.read words breaks.rest after (lacks_of These bytes left breaks) are (sym breaks.parts ∙ is)

place_by : (These : List (List ℕ) → Type 0) → OneWay These → (before one other : List (List ℕ)) (a b : List ℕ) → Lacks These before one a
    → Lacks These before other b → flat one ++ a ≡ flat other ++ b → a ≡ b
place_by These way before [] [] a b lacks also is = is
place_by These way before [] (word ∷ other) a b lacks also is = grind (arith, no_word, flat, append_assoc)
place_by These way before (word ∷ one) [] a b lacks also is = grind (arith, no_word, flat, append_assoc)
place_by These way before (word ∷ one) (second ∷ other) a b lacks also is =
    let both = together _ way _ _ _ _ _ _ _ lacks.begins also.begins (sym (append_assoc word (flat one) a) ∙ is ∙ append_assoc second (flat other) b) in
    place_by _ way (before ++ word ∷ []) one other a b (lacks_on These before word one a lacks)
    (lacks_on These before word other b (subst (λ (w : List ℕ). Lacks These before (w ∷ other) b) (sym both.same) also)) both.rest

-- they break off at one place
pub place_same : (These : List (List ℕ) → Type 0) (bytes : List ℕ) (left other : ℕ) → OneWay These → BreaksOff These bytes left
    → BreaksOff These bytes other → left ≡ other
place_same These bytes left other way breaks also =
    breaks.place ∙ ap length (place_by _ way [] breaks.read also.read breaks.rest also.rest (lacks_of _ _ _ breaks) (lacks_of _ _ _ also)
    (sym breaks.parts ∙ also.parts)) ∙ sym also.place

-- ---- words of the grammar

pub nothing_more : (read : List (List ℕ)) (word : List ℕ) (words : List (List ℕ)) → nothing (read ++ word ∷ words) → ⊥
nothing_more [] word words are = are
nothing_more (first ∷ read) word words are = are

pub nothing_way : OneWay nothing
nothing_way =
    record {
      alike = λ read one other ones others a b are also is. absurd (nothing_more read one ones are);
      ends = λ read word words are also. nothing_more read word words also;
    }

pub word_way : (first : List ℕ) (More : List (List ℕ) → Type 0) → OneWay More → OneWay (word_then first More)
word_way first More way = record { alike = alike; ends = ends }
  where
    alike : (read : List (List ℕ)) (one other : List ℕ) (ones others : List (List ℕ)) (a b : List ℕ) → word_then first More (read ++ one ∷ ones)
        → word_then first More (read ++ other ∷ others) → one ++ a ≡ other ++ b → one ≡ other
    alike [] one other ones others a b are also is = are.0 ∙ sym also.0
    alike (word ∷ read) one other ones others a b are also is = way.alike read one other ones others a b are.1 also.1 is

    ends : (read : List (List ℕ)) (word : List ℕ) (words : List (List ℕ)) → word_then first More read → word_then first More (read ++ word ∷ words) → ⊥
    ends [] word words are also = are
    ends (before ∷ read) word words are also = way.ends read word words are.1 also.1

-- no bytes begin both with a word of these and with one of those
pub record Apart (These Those : List (List ℕ) → Type 0) : Type 0 where
  pub firsts : (one other : List ℕ) (ones others : List (List ℕ)) (a b : List ℕ) → These (one ∷ ones) → Those (other ∷ others)
      → one ++ a ≡ other ++ b → ⊥
  pub some : These [] → ⊥
  pub also : Those [] → ⊥

pub either_way : (These Those : List (List ℕ) → Type 0) → Apart These Those → OneWay These → OneWay Those → OneWay (these_or_those These Those)
either_way These Those apart these those = record { alike = alike; ends = ends }
  where
    mixed : (read : List (List ℕ)) (one other : List ℕ) (ones others : List (List ℕ)) (a b : List ℕ) → These (read ++ one ∷ ones)
        → Those (read ++ other ∷ others) → one ++ a ≡ other ++ b → ⊥
    mixed [] one other ones others a b are also is = apart.firsts one other ones others a b are also is
    mixed (word ∷ read) one other ones others a b are also is = apart.firsts word word (read ++ one ∷ ones) (read ++ other ∷ others) [] [] are also refl

    alike : (read : List (List ℕ)) (one other : List ℕ) (ones others : List (List ℕ)) (a b : List ℕ)
        → these_or_those These Those (read ++ one ∷ ones) → these_or_those These Those (read ++ other ∷ others) → one ++ a ≡ other ++ b → one ≡ other
    alike read one other ones others a b (inl are) (inl also) is = these.alike read one other ones others a b are also is
    alike read one other ones others a b (inl are) (inr also) is = absurd (mixed read one other ones others a b are also is)
    alike read one other ones others a b (inr are) (inl also) is = absurd (mixed read other one others ones b a also are (sym is))
    alike read one other ones others a b (inr are) (inr also) is = those.alike read one other ones others a b are also is

    ended : (read : List (List ℕ)) (word : List ℕ) (words : List (List ℕ)) → These read → Those (read ++ word ∷ words) → ⊥
    ended [] word words are also = apart.some are
    ended (first ∷ read) word words are also = apart.firsts first first read (read ++ word ∷ words) [] [] are also refl

    done : (read : List (List ℕ)) (word : List ℕ) (words : List (List ℕ)) → Those read → These (read ++ word ∷ words) → ⊥
    done [] word words are also = apart.also are
    done (first ∷ read) word words are also = apart.firsts first first (read ++ word ∷ words) read [] [] also are refl

    ends : (read : List (List ℕ)) (word : List ℕ) (words : List (List ℕ)) → these_or_those These Those read
        → these_or_those These Those (read ++ word ∷ words) → ⊥
    ends read word words (inl are) (inl also) = these.ends read word words are also
    ends read word words (inl are) (inr also) = ended read word words are also
    ends read word words (inr are) (inl also) = done read word words are also
    ends read word words (inr are) (inr also) = those.ends read word words are also

-- one of two words that don't begin the same bytes
pub words_apart : (first second : List ℕ) (More Others : List (List ℕ) → Type 0) → ((rest : List ℕ) → past_word first (second ++ rest) ≡ None)
    → Apart (word_then first More) (word_then second Others)
words_apart first second More Others none =
    record {
      firsts = λ one other ones others a b are also is.
          no_word first (second ++ b) a (none b) (sym (ap (λ w. w ++ b) also.0) ∙ sym is ∙ ap (λ w. w ++ a) are.0);
      some = λ are. are;
      also = λ are. are;
    }

pub two_way : (first second : List ℕ) (More Others : List (List ℕ) → Type 0) → ((rest : List ℕ) → past_word first (second ++ rest) ≡ None)
    → OneWay More → OneWay Others → OneWay (these_or_those (word_then first More) (word_then second Others))
two_way first second More Others none more others =
    either_way _ _ (words_apart first second More Others none) (word_way first _ more) (word_way second _ others)

pub levels_way : (depth : ℕ) (More : List (List ℕ) → Type 0) → OneWay More → OneWay (levels_then depth More)
levels_way zero More way = way
levels_way (suc depth) More way = word_way (codes "  ") (levels_then depth More) (levels_way depth More way)

pub line_way : (depth : ℕ) (More : List (List ℕ) → Type 0) → OneWay More → OneWay (line_then depth More)
line_way depth More way = word_way (codes "\n") (levels_then depth More) (levels_way depth More way)

-- after the opening bracket of a list or a map
pub unless_way : (depth : ℕ) (More : List (List ℕ) → Type 0) → OneWay More → OneWay (unless_deep depth More)
unless_way depth More way = record { alike = alike; ends = ends }
  where
    alike : (read : List (List ℕ)) (one other : List ℕ) (ones others : List (List ℕ)) (a b : List ℕ) → unless_deep depth More (read ++ one ∷ ones)
        → unless_deep depth More (read ++ other ∷ others) → one ++ a ≡ other ++ b → one ≡ other
    alike read one other ones others a b (inl are) (inl also) is = way.alike read one other ones others a b are.1 also.1 is
    alike read one other ones others a b (inl are) (inr also) is = absurd (nothing_more read other others also.1)
    alike read one other ones others a b (inr are) also is = absurd (nothing_more read one ones are.1)

    ends : (read : List (List ℕ)) (word : List ℕ) (words : List (List ℕ)) → unless_deep depth More read → unless_deep depth More (read ++ word ∷ words) → ⊥
    ends read word words (inl are) (inl also) = way.ends read word words are.1 also.1
    ends read word words (inr are) (inl also) = absurd (omega (arith, are.0, also.0))
    ends read word words are (inr also) = nothing_more read word words also.1

pub entry_way : (depth : ℕ) (lead end : List ℕ) → ((rest : List ℕ) → past_word lead (end ++ rest) ≡ None) → OneWay (entry_end depth lead end)
entry_way depth lead end none = word_way (codes ",") _ (line_way depth _ (two_way lead end _ _ none nothing_way nothing_way))
