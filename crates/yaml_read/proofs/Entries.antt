-- A line with a lead, and an entry after its comma.
use Rattle.yaml_read.proofs.Common.{ℕ, ◌*◌, ◌<◌, [], ◌∷◌, ◌++◌, ◌≡◌, ◌∙◌, List, refl, ap, subst, sym, arith, append_assoc, length, codes, line_at, Result, Ok}
use Rattle.yaml_read.proofs.Common.{Err, IfErr, IfOk, Bor, entry_end, line_then, nothing, these_or_those, word_then, EntryLacks, no_lead, no_memory}
use Rattle.yaml_read.proofs.Common.{EntryStands, BreaksAt, IsHere, Cuts, Stop, Entry, Another, End}
use Rattle.yaml_read.specs.Stepped.{EntryRead, EntryShorter, LineEntryRead, no_line}
use Rattle.yaml_read.proofs.Breaking.{behind_word, line_lacks, line_passed, missing}
use Rattle.yaml_read.specs.Opened.{EntryCut}

-- the place at which a line with a lead is incomplete
pub lead_breaks : (depth : ℕ) (lead text : List ℕ) (error : Stop) → EntryLacks depth lead text error
    → BreaksAt (line_then depth (word_then lead nothing)) text error
lead_breaks depth lead text error (no_memory is) = subst (BreaksAt (line_then depth (word_then lead nothing)) text) (sym is) tt
lead_breaks depth lead text error (no_line none lacks) = line_lacks depth text (word_then lead nothing) error (lead ∷ []) lacks (refl, tt)
lead_breaks depth lead text error (no_lead line is none place) =
    line_passed depth text line (word_then lead nothing) error is (missing lead line nothing error [] none place tt)

pub lead_behind : (depth : ℕ) (lead text line : List ℕ) (result : Result (Bor (List ℕ)) Stop) → text ≡ line_at (depth * 2) ++ line → Cuts lead line result
    → IfErr result (IsHere line) → IfErr result (EntryLacks depth lead text)
lead_behind depth lead text line (Ok rest) is cut place = tt
lead_behind depth lead text line (Err error) is cut place = no_lead line is cut place

-- an entry after its comma
pub entry_behind : (depth : ℕ) (lead end text behind : List ℕ) (result : Result Entry Stop) → text ≡ codes "," ++ behind
    → LineEntryRead depth lead end behind result → EntryRead depth lead end text result
entry_behind depth lead end text behind result is entry =
    record { cut = cut result entry.stands; breaks = breaks result entry.breaks; shorter = shorter result entry.shorter }
  where
    cut : (result : Result Entry Stop) → EntryStands (line_at (depth * 2) ++ lead) (line_at (depth * 2) ++ end) behind result
        → IfOk result (EntryCut depth lead end text)
    cut (Ok (Another rest)) stands = is ∙ ap (λ t. codes "," ++ t) (stands ∙ append_assoc (line_at (depth * 2)) lead rest.now)
    cut (Ok (End rest)) stands = is ∙ ap (λ t. codes "," ++ t) (stands ∙ append_assoc (line_at (depth * 2)) end rest.now)
    cut (Err error) stands = tt

    breaks : (result : Result Entry Stop) → IfErr result (BreaksAt (line_then depth (these_or_those (word_then lead nothing) (word_then end nothing))) behind)
        → IfErr result (BreaksAt (entry_end depth lead end) text)
    breaks (Ok entry) off = tt
    breaks (Err error) off =
        behind_word (line_then depth (these_or_those (word_then lead nothing) (word_then end nothing))) (codes ",") text behind error is off

    less : length behind < length text
    less = omega (arith, ap length is)

    shorter : (result : Result Entry Stop) → IfOk result (EntryShorter behind) → IfOk result (EntryShorter text)
    shorter (Ok (Another rest)) short = omega (arith, less, short)
    shorter (Ok (End rest)) short = omega (arith, less, short)
    shorter (Err error) short = tt
