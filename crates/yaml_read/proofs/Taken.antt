-- The text after a value that a list or a map took.
use Rattle.yaml_read.proofs.Common.{ℕ, ◌*◌, List, ◌∷◌, ◌++◌, ◌≡◌, ◌∙◌, ap, append_assoc, codes, subst, sym, Ok, Err, Bor, TypedValue, line_at, OpenLevel}
use Rattle.yaml_read.proofs.Common.{items_open, pairs_open, seen_level, value_due, with_value, seen_value, Level, Value, HasRead, IsOpen, BehindRead}
use Rattle.yaml_read.proofs.Common.{closed_value, Stop, Another, End}
use Rattle.yaml_read.proofs.Opening.{item_on, item_out, key_on, pair_on, pair_out}
use Rattle.yaml_read.{specs.Stepped.ValueTaken, specs.declared.levels.Turn.TheVariants.Continues, specs.declared.levels.Turn.TheVariants.Ends}
use Rattle.yaml_read.proofs.Entries.{lead_breaks}

-- it goes on
taken_on : {A : Type 0} (depth : ℕ) (level : OpenLevel) (value : TypedValue) (more : Level A) (text : List ℕ) (rest : Bor (List ℕ))
    → seen_level more ≡ with_value level value → BehindRead depth (with_value level value) text (Ok (Another rest))
    → ValueTaken depth level value text (Ok (Continues more rest))
taken_on depth (items_open items) value more text rest is found =
    record {
      read = λ whole levels at read.
          subst (λ (l : OpenLevel). IsOpen whole (l ∷ levels) rest.now) (sym is) (item_on whole levels items value text rest.now read
          (found.cut ∙ ap (λ n. codes "," ++ (line_at (n * 2) ++ (codes "  " ++ rest.now))) at));
      breaks = tt;
      shorter = found.shorter;
      took = is;
    }
taken_on depth (value_due pairs key) value more text rest is found =
    record {
      read = λ whole levels at read.
          subst (λ (l : OpenLevel). IsOpen whole (l ∷ levels) rest.now) (sym is) (pair_on whole levels pairs key value text rest.now read
          (found.cut ∙ ap (λ n. codes "," ++ (line_at (n * 2) ++ (codes "  ? " ++ rest.now))) at));
      breaks = tt;
      shorter = found.shorter;
      took = is;
    }
taken_on depth (pairs_open pairs) key more text rest is found =
    let line = line_at (depth * 2) in
    record {
      read = λ whole levels at read.
          subst (λ (l : OpenLevel). IsOpen whole (l ∷ levels) rest.now) (sym is) (key_on whole levels pairs key text rest.now read
          (found.cut ∙ append_assoc line (codes "  : ") rest.now ∙ ap (λ n. line_at (n * 2) ++ (codes "  : " ++ rest.now)) at));
      breaks = tt;
      shorter = found.shorter;
      took = is;
    }

pub taken_goes_on : {A : Type 0} (depth : ℕ) (level : OpenLevel) (value : TypedValue) (more : Level A) (text : List ℕ) (rest : Bor (List ℕ))
    → seen_level more ≡ with_value level value → BehindRead depth (seen_level more) text (Ok (Another rest))
    → ValueTaken depth level value text (Ok (Continues more rest))
taken_goes_on depth level value more text rest is found =
    taken_on depth level value more text rest is (subst (λ (l : OpenLevel). BehindRead depth l text (Ok (Another rest))) is found)

-- it ends
taken_out : {A : Type 0} (depth : ℕ) (level : OpenLevel) (value : TypedValue) (whole : Value A) (text : List ℕ) (rest : Bor (List ℕ))
    → seen_value whole ≡ closed_value (with_value level value) → BehindRead depth (with_value level value) text (Ok (End rest))
    → ValueTaken depth level value text (Ok (Ends whole rest))
taken_out depth (items_open items) value whole text rest is found =
    record {
      read = λ all levels at read.
          subst (λ (v : TypedValue). HasRead all levels v rest.now) (sym is) (item_out all levels items value text rest.now read
          (found.cut ∙ ap (λ n. codes "," ++ (line_at (n * 2) ++ (codes "]" ++ rest.now))) at));
      breaks = tt;
      shorter = found.shorter;
      took = is;
    }
taken_out depth (value_due pairs key) value whole text rest is found =
    record {
      read = λ all levels at read.
          subst (λ (v : TypedValue). HasRead all levels v rest.now) (sym is) (pair_out all levels pairs key value text rest.now read
          (found.cut ∙ ap (λ n. codes "," ++ (line_at (n * 2) ++ (codes "}" ++ rest.now))) at));
      breaks = tt;
      shorter = found.shorter;
      took = is;
    }
taken_out depth (pairs_open pairs) key whole text rest is found = absurd found

pub taken_ends : {A : Type 0} (depth : ℕ) (level : OpenLevel) (value : TypedValue) (more : Level A) (whole : Value A) (text : List ℕ) (rest : Bor (List ℕ))
    → seen_level more ≡ with_value level value → seen_value whole ≡ closed_value (seen_level more)
    → BehindRead depth (seen_level more) text (Ok (End rest)) → ValueTaken depth level value text (Ok (Ends whole rest))
taken_ends depth level value more whole text rest is ends found =
    taken_out depth level value whole text rest (ends ∙ ap closed_value is) (subst (λ (l : OpenLevel). BehindRead depth l text (Ok (End rest))) is found)

-- neither
taken_nowhere : (A : Type 0) (depth : ℕ) (level : OpenLevel) (value : TypedValue) (text : List ℕ) (error : Stop)
    → BehindRead depth (with_value level value) text (Err error) → ValueTaken {A = A} depth level value text (Err error)
taken_nowhere A depth (pairs_open pairs) key text error lacks =
    record { read = λ whole levels at read. tt; breaks = lead_breaks _ _ _ _ lacks.lacks; shorter = tt; took = tt }
taken_nowhere A depth _ value text error lacks = record { read = λ whole levels at read. tt; breaks = lacks.breaks; shorter = tt; took = tt }

pub taken_lacks : (A : Type 0) (depth : ℕ) (level more : OpenLevel) (value : TypedValue) (text : List ℕ) (error : Stop) → more ≡ with_value level value
    → BehindRead depth more text (Err error) → ValueTaken {A = A} depth level value text (Err error)
taken_lacks A depth level more value text error is lacks =
    taken_nowhere A depth level value text error (subst (λ (l : OpenLevel). BehindRead depth l text (Err error)) is lacks)
