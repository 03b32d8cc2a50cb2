-- The part of several texts that was scanned, whatever follows it.
use Rattle.std.specs.Prelude.{◌≡◌, ℕ, ◌<◌, ◌≤◌, List, [], ◌∷◌, ◌++◌, drop, length, take, get_or}
use Rattle.yaml_json.specs.declared.cuts.Cut.{Cut}
use Rattle.yaml_json.specs.declared.cuts.Mode.TheVariants.{Before}
use Rattle.yaml_json.specs.declared.cuts.Scan.{Scan}
use Rattle.yaml_json.specs.Texts.{onto_first, texts_after, texts_in}

-- some bytes before the first of some texts
abbrev pub all_onto : List ℕ → List (List ℕ) → List (List ℕ)
all_onto [] texts = texts
all_onto (byte ∷ bytes) texts = onto_first byte (all_onto bytes texts)

-- The state of the scan after these bytes, all of one text, is this, whatever follows.
pub record Scanned (done : List ℕ) (scan : Scan) : Type 0 where
  pub texts : (more : List ℕ) → texts_in (done ++ more) ≡ all_onto done (texts_after scan more)
  pub few : scan.levels ≤ length done
  pub fresh : length done ≡ 0 → scan.mode ≡ Before

-- so much of a text was scanned
pub record HasScanned (text : List ℕ) (cut : Cut) : Type 0 where
  pub within : cut.scanned ≤ length text
  pub scanned : Scanned (take cut.scanned text) cut.scan

-- The first text ends here, and the rest begins others, whatever follows them.
pub record CutsAt (text : List ℕ) (end : ℕ) : Type 0 where
  pub some : 0 < end
  pub within : end < length text
  pub cut : (more : List ℕ) → texts_in (text ++ more) ≡ take end text ∷ texts_in (drop end text ++ more)
  pub outer : 128 ≤ get_or text end 0 → 192 ≤ get_or text end 0
