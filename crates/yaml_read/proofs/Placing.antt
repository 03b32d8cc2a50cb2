-- From the place at which the bytes break off to the position of the error.
use Rattle.yaml_read.proofs.Common.{ℕ, None, List, [], ◌++◌, refl, ◌≡◌, subst, sym, inl, inr, codes, IsUtf8, Keys, IsHere, StopsAt, StopsIn, IsPlacedBy, Tells}
use Rattle.yaml_read.proofs.Common.{past_word, ReadError, Stop}
use Rattle.yaml_read.specs.declared.errors.Stop.TheVariants as stop

-- a document's first line is missing
pub marker_stops : (mode : Keys) (bytes : List ℕ) (error : Stop) → past_word (codes "---\n") bytes ≡ None → IsHere bytes error
    → StopsAt mode bytes error
marker_stops mode bytes error none place =
    subst (StopsAt mode bytes) (sym place)
    (inl (record {
      read = [];
      rest = bytes;
      parts = refl;
      place = refl;
      due = codes "---\n";
      more = [];
      begins = (refl, tt);
      none = λ next after is. subst (λ (w : List ℕ). past_word w bytes ≡ None) (sym is.0) none;
    }))

-- after a document's first line
pub text_stops : (mode : Keys) (bytes whole : List ℕ) (error : Stop) → bytes ≡ codes "---\n" ++ whole → StopsIn mode whole error
    → StopsAt mode bytes error
text_stops mode bytes whole (stop.Refused left) is stops = inr (whole, is, stops)
text_stops mode bytes whole (stop.TooDeep left) is stops = (whole, is, stops)
text_stops mode bytes whole stop.Memory is stops = tt

-- the error's position
pub stops_placed : (mode : Keys) (bytes : List ℕ) (reason : Stop) (error : ReadError) → IsUtf8 bytes → Tells bytes reason error
    → StopsAt mode bytes reason → IsPlacedBy mode bytes error
stops_placed mode bytes (stop.Refused left) error utf8 tells stops =
    subst (IsPlacedBy mode bytes) (sym tells.2) (inr (record { utf8 = utf8; left = left; position_is = tells.1; holds = stops }))
stops_placed mode bytes (stop.TooDeep left) error utf8 tells stops =
    subst (IsPlacedBy mode bytes) (sym tells.2) (record { utf8 = utf8; left = left; position_is = tells.1; holds = stops })
stops_placed mode bytes stop.Memory error utf8 tells stops = subst (IsPlacedBy mode bytes) (sym tells) tt
