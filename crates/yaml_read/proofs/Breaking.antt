-- The places at which bytes break off: at a word, after words, and in a line.
use Rattle.yaml_read.proofs.Common.{ℕ, ◌+◌, ◌*◌, ◌<◌, [], ◌∷◌, ◌++◌, ◌≡◌, ◌∙◌, zero, suc, None, List, refl, ap, subst, sym, inl, inr, arith, append_assoc}
use Rattle.yaml_read.proofs.Common.{codes, flat_map, replicate, space, line_at, replicate-append-replicate, these_or_those, entry_end, levels_then}
use Rattle.yaml_read.proofs.Common.{line_then, nothing, word_then, BreaksAt, BreaksOff, IsHere, no_level, past_word, Stop}
use Rattle.yaml_read.{specs.Places.LacksLine, specs.Places.no_line, proofs.Words.no_word}
use Rattle.yaml_read.specs.declared.errors.Stop.TheVariants as stop

-- ---- at a word

-- none of these begins with a word that the bytes begin with
pub here : (These : List (List ℕ) → Type 0) (bytes : List ℕ) (error : Stop) (due : List ℕ) (more : List (List ℕ)) → IsHere bytes error → These (due ∷ more)
    → ((next : List ℕ) (after : List (List ℕ)) → These (next ∷ after) → past_word next bytes ≡ None) → BreaksAt These bytes error
here These bytes error due more place begins none =
    subst (BreaksAt These bytes) (sym place)
    (record { read = []; rest = bytes; parts = refl; place = refl; due = due; more = more; begins = begins; none = none })

-- a word is missing
pub missing : (word bytes : List ℕ) (More : List (List ℕ) → Type 0) (error : Stop) (more : List (List ℕ)) → past_word word bytes ≡ None
    → IsHere bytes error → More more → BreaksAt (word_then word More) bytes error
missing word bytes More error more none place begins =
    here (word_then word More) bytes error word more place (refl, begins) (λ next after is. subst (λ (w : List ℕ). past_word w bytes ≡ None) (sym is.0) none)

-- the bytes begin with neither of two words
pub neither : (first second bytes : List ℕ) (error : Stop) → past_word first bytes ≡ None → past_word second bytes ≡ None → IsHere bytes error
    → BreaksAt (these_or_those (word_then first nothing) (word_then second nothing)) bytes error
neither first second bytes error none also place =
    here (these_or_those (word_then first nothing) (word_then second nothing)) bytes error first [] place (inl (refl, tt)) lacks
  where
    lacks : (next : List ℕ) (after : List (List ℕ)) → these_or_those (word_then first nothing) (word_then second nothing) (next ∷ after)
        → past_word next bytes ≡ None
    lacks next after (inl is) = subst (λ (w : List ℕ). past_word w bytes ≡ None) (sym is.0) none
    lacks next after (inr is) = subst (λ (w : List ℕ). past_word w bytes ≡ None) (sym is.0) also

-- ---- after a word

pub passed : (These More : List (List ℕ) → Type 0) (word bytes rest : List ℕ) (left : ℕ) → bytes ≡ word ++ rest
    → ((words : List (List ℕ)) → More words → These (word ∷ words)) → ((words : List (List ℕ)) → These (word ∷ words) → More words)
    → BreaksOff More rest left → BreaksOff These bytes left
passed These More word bytes rest left is into out breaks =
    record {
      read = word ∷ breaks.read;
      rest = breaks.rest;
      parts = is ∙ ap (λ t. word ++ t) breaks.parts ∙ sym (append_assoc word (flat_map (λ (w : List ℕ). w) breaks.read) breaks.rest);
      place = breaks.place;
      due = breaks.due;
      more = breaks.more;
      begins = into (breaks.read ++ breaks.due ∷ breaks.more) breaks.begins;
      none = λ next after these. breaks.none next after (out (breaks.read ++ next ∷ after) these);
    }

pub passed_at : (These More : List (List ℕ) → Type 0) (word bytes rest : List ℕ) (error : Stop) → bytes ≡ word ++ rest
    → ((words : List (List ℕ)) → More words → These (word ∷ words)) → ((words : List (List ℕ)) → These (word ∷ words) → More words)
    → BreaksAt More rest error → BreaksAt These bytes error
passed_at These More word bytes rest (stop.Refused left) is into out breaks = passed These More word bytes rest left is into out breaks
passed_at These More word bytes rest (stop.TooDeep left) is into out breaks = breaks
passed_at These More word bytes rest stop.Memory is into out breaks = tt

pub behind_word : (More : List (List ℕ) → Type 0) (word bytes rest : List ℕ) (error : Stop) → bytes ≡ word ++ rest → BreaksAt More rest error
    → BreaksAt (word_then word More) bytes error
behind_word More word bytes rest error is breaks =
    passed_at (word_then word More) More word bytes rest error is (λ words more. (refl, more)) (λ words these. these.1) breaks

-- ---- one of two

-- none of the others begins with a word that is there, before words of the one were read and after them
none_at : (These Those : List (List ℕ) → Type 0) (bytes rest : List ℕ) → bytes ≡ rest
    → ((next : List ℕ) (after : List (List ℕ)) → These (next ∷ after) → past_word next bytes ≡ None)
    → ((next : List ℕ) (after : List (List ℕ)) → Those (next ∷ after) → past_word next rest ≡ None)
    → (next : List ℕ) (after : List (List ℕ)) → these_or_those These Those (next ∷ after) → past_word next rest ≡ None
none_at These Those bytes rest is lacks none next after (inl these) = subst (λ (t : List ℕ). past_word next t ≡ None) is (lacks next after these)
none_at These Those bytes rest is lacks none next after (inr those) = none next after those

none_later : (These Those : List (List ℕ) → Type 0) (bytes rest first : List ℕ) (read : List (List ℕ))
    → bytes ≡ (first ++ flat_map (λ (w : List ℕ). w) read) ++ rest
    → ((next : List ℕ) (after : List (List ℕ)) → These (next ∷ after) → past_word next bytes ≡ None)
    → ((next : List ℕ) (after : List (List ℕ)) → Those (first ∷ (read ++ next ∷ after)) → past_word next rest ≡ None)
    → (next : List ℕ) (after : List (List ℕ)) → these_or_those These Those (first ∷ (read ++ next ∷ after)) → past_word next rest ≡ None
none_later These Those bytes rest first read is lacks none next after (inl these) = grind (arith, no_word, flat_map, append_assoc)
none_later These Those bytes rest first read is lacks none next after (inr those) = none next after those

right_of : (These Those : List (List ℕ) → Type 0) (bytes : List ℕ) (left : ℕ)
    → ((next : List ℕ) (after : List (List ℕ)) → These (next ∷ after) → past_word next bytes ≡ None)
    → BreaksOff Those bytes left → BreaksOff (these_or_those These Those) bytes left
right_of These Those bytes left lacks breaks = by breaks.read breaks.parts breaks.begins breaks.none
  where
    by : (read : List (List ℕ)) → bytes ≡ flat_map (λ (w : List ℕ). w) read ++ breaks.rest → Those (read ++ breaks.due ∷ breaks.more)
        → ((next : List ℕ) (after : List (List ℕ)) → Those (read ++ next ∷ after) → past_word next breaks.rest ≡ None)
        → BreaksOff (these_or_those These Those) bytes left
    by [] parts begins none =
        record {
          read = [];
          rest = breaks.rest;
          parts = parts;
          place = breaks.place;
          due = breaks.due;
          more = breaks.more;
          begins = inr begins;
          none = none_at These Those bytes breaks.rest parts lacks none;
        }
    by (first ∷ read) parts begins none =
        record {
          read = first ∷ read;
          rest = breaks.rest;
          parts = parts;
          place = breaks.place;
          due = breaks.due;
          more = breaks.more;
          begins = inr begins;
          none = none_later These Those bytes breaks.rest first read parts lacks none;
        }

-- the first of two words is missing, and the bytes break off after the beginning of the second
pub second_of : (first : List ℕ) (Those : List (List ℕ) → Type 0) (bytes : List ℕ) (error : Stop) → past_word first bytes ≡ None
    → BreaksAt Those bytes error → BreaksAt (these_or_those (word_then first nothing) Those) bytes error
second_of first Those bytes (stop.Refused left) none breaks =
    right_of (word_then first nothing) Those bytes left (λ next after is. subst (λ (w : List ℕ). past_word w bytes ≡ None) (sym is.0) none) breaks
second_of first Those bytes (stop.TooDeep left) none breaks = breaks
second_of first Those bytes stop.Memory none breaks = tt

-- ---- lines

-- the words of an indentation
pub levels_go : (depth : ℕ) (More : List (List ℕ) → Type 0) (more : List (List ℕ)) → More more
    → levels_then depth More (replicate depth (codes "  ") ++ more)
levels_go zero More more begins = begins
levels_go (suc depth) More more begins = (refl, levels_go depth More more begins)

-- the spaces of a level, and those of the others
pub level_first : (level : ℕ) (bytes rest : List ℕ) → bytes ≡ replicate (suc level * 2) space ++ rest
    → bytes ≡ codes "  " ++ (replicate (level * 2) space ++ rest)
level_first level bytes rest is =
    let twice : suc level * 2 ≡ 2 + level * 2 = omega arith in
    is ∙ ap (λ t. t ++ rest) (ap (λ n. replicate n space) twice ∙ sym (replicate-append-replicate 2 (level * 2) space))
    ∙ append_assoc (codes "  ") (replicate (level * 2) space) rest

levels_lack : (depth level : ℕ) (bytes rest : List ℕ) (More : List (List ℕ) → Type 0) (error : Stop) (more : List (List ℕ)) → level < depth
    → bytes ≡ replicate (level * 2) space ++ rest → past_word (codes "  ") rest ≡ None → IsHere rest error → More more
    → BreaksAt (levels_then depth More) bytes error
levels_lack zero level bytes rest More error more below is none place begins = absurd (omega (arith, below))
levels_lack (suc depth) zero bytes rest More error more below is none place begins =
    missing (codes "  ") bytes (levels_then depth More) error (replicate depth (codes "  ") ++ more)
    (subst (λ (t : List ℕ). past_word (codes "  ") t ≡ None) (sym is) none) (subst (λ (t : List ℕ). IsHere t error) (sym is) place)
    (levels_go depth More more begins)
levels_lack (suc depth) (suc level) bytes rest More error more below is none place begins =
    behind_word (levels_then depth More) (codes "  ") bytes (replicate (level * 2) space ++ rest) error (level_first level bytes rest is)
    (levels_lack depth level (replicate (level * 2) space ++ rest) rest More error more (omega (arith, below)) refl none place begins)

pub line_lacks : (depth : ℕ) (bytes : List ℕ) (More : List (List ℕ) → Type 0) (error : Stop) (more : List (List ℕ)) → LacksLine depth bytes error
    → More more → BreaksAt (line_then depth More) bytes error
line_lacks depth bytes More error more (no_line none place) begins =
    missing (codes "\n") bytes (levels_then depth More) error (replicate depth (codes "  ") ++ more) none place (levels_go depth More more begins)
line_lacks depth bytes More error more (no_level line is lacks) begins =
    behind_word (levels_then depth More) (codes "\n") bytes line error is
    (levels_lack depth lacks.level line lacks.rest More error more lacks.below lacks.text lacks.none lacks.place begins)

levels_passed : (depth : ℕ) (bytes rest : List ℕ) (More : List (List ℕ) → Type 0) (error : Stop) → bytes ≡ replicate (depth * 2) space ++ rest
    → BreaksAt More rest error → BreaksAt (levels_then depth More) bytes error
levels_passed zero bytes rest More error is breaks = subst (λ (t : List ℕ). BreaksAt More t error) (sym is) breaks
levels_passed (suc depth) bytes rest More error is breaks =
    behind_word (levels_then depth More) (codes "  ") bytes (replicate (depth * 2) space ++ rest) error (level_first depth bytes rest is)
    (levels_passed depth (replicate (depth * 2) space ++ rest) rest More error refl breaks)

-- after a line's end and an indentation
pub line_passed : (depth : ℕ) (bytes rest : List ℕ) (More : List (List ℕ) → Type 0) (error : Stop) → bytes ≡ line_at (depth * 2) ++ rest
    → BreaksAt More rest error → BreaksAt (line_then depth More) bytes error
line_passed depth bytes rest More error is breaks =
    behind_word (levels_then depth More) (codes "\n") bytes (replicate (depth * 2) space ++ rest) error is
    (levels_passed depth (replicate (depth * 2) space ++ rest) rest More error refl breaks)

-- ---- entries

-- the words of the end of an entry
pub entry_goes : (depth : ℕ) (lead end : List ℕ)
    → line_then depth (these_or_those (word_then lead nothing) (word_then end nothing)) (codes "\n" ∷ (replicate depth (codes "  ") ++ lead ∷ []))
entry_goes depth lead end = (refl, levels_go depth (these_or_those (word_then lead nothing) (word_then end nothing)) (lead ∷ []) (inl (refl, tt)))

-- the place at which the words stop
pub no_comma : (depth : ℕ) (lead end text : List ℕ) (error : Stop) → past_word (codes ",") text ≡ None → IsHere text error
    → BreaksAt (entry_end depth lead end) text error
no_comma depth lead end text error none place =
    missing (codes ",") text (line_then depth (these_or_those (word_then lead nothing) (word_then end nothing))) error
    (codes "\n" ∷ (replicate depth (codes "  ") ++ lead ∷ [])) none place (entry_goes depth lead end)
