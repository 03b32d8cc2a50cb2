-- The levels that a value ends, as a program takes them off its list.
use Rattle.yaml_read.proofs.Common.{List, [], ◌∷◌, ◌++◌, ◌≡◌, ◌∙◌, ap, subst, TypedValue, OpenLevel, seen_level, seen_levels, with_value, Level, level_more}
use Rattle.yaml_read.proofs.Common.{Ended, closed_value, one_ended}
use Rattle.yaml_read.specs.Settled.{Took}

-- the innermost was taken off
pub off : {A : Type 0} (before : List OpenLevel) (first value : TypedValue) (old new : List (Level A)) (level : Level A)
    → Ended before first (seen_levels old) value → old ≡ new ++ level ∷ [] → Ended before first (seen_level level ∷ seen_levels new) value
off before first value old new level ended is = subst (λ (levels : List OpenLevel). Ended before first levels value) (level_more new old level is) ended

-- it ended
pub ended_on : {A : Type 0} (before : List OpenLevel) (first value last : TypedValue) (old new : List (Level A)) (level : Level A)
    → Ended before first (seen_levels old) value → old ≡ new ++ level ∷ [] → last ≡ closed_value (with_value (seen_level level) value)
    → Ended before first (seen_levels new) last
ended_on before first value last old new level ended is closed =
    one_ended (seen_level level) (seen_levels new) value last (off before first value old new level ended is) closed

-- it goes on, and was put back
pub took_on : {A : Type 0} (before after : List OpenLevel) (first value : TypedValue) (old new : List (Level A)) (level more : Level A)
    → Ended before first (seen_levels old) value → old ≡ new ++ level ∷ [] → seen_level more ≡ with_value (seen_level level) value
    → after ≡ seen_level more ∷ seen_levels new → Took before first after
took_on before after first value old new level more ended is taken pushed =
    record {
      level = seen_level level;
      outer = seen_levels new;
      value = value;
      ended = off before first value old new level ended is;
      taken = pushed ∙ ap (λ l. l ∷ seen_levels new) taken;
    }
