-- Files that are refused among several, and streams that no emitter refuses.
use Rattle.std.proofs.Common.{ℕ, Option, List, [], ◌∷◌, ◌++◌, map, ◌≡◌, inl, inr, refl, ap, subst, sym, ◌∙◌, Some, codes, Bor, ◌<◌, suc, arith, drop}
use Rattle.std.proofs.Common.{drop-cons, length, take, take-append-drop, slice_index_or as get_or, Result, Ok, Err, IfErr, ap₂, Bool}
use Rattle.std.proofs.Math.Path.{subst₂}
use Rattle.yaml_base.{proofs.Common.map-append, proofs.Common.Event, specs.Refusal.IsAccepted, specs.Settings.Settings}
use Rattle.yaml_base.{specs.declared.errors.yaml_error_t.yaml_error_t, specs.declared.errors.yaml_error_t.TheVariants.Memory}
use Rattle.yaml_base.{specs.declared.errors.yaml_error_t.TheVariants.WriteError}
use Rattle.yaml_emitter.specs.{Emits.IsPromised, Promises.FailsOnlyByMemory, Promises.FitsLimit, State.State, Uncut.IsUncut}
use Rattle.yaml_writer.specs.{Unfinished.IsNoStream, Unfinished.IsUnfinished, Unfinished.PassesLimit, Writing.IsStream, Writing.WriterState, Writing.closing}
use Rattle.yaml_program.specs.Streams.{RefusesBehind, RefusesDocument, RefusesEnd, RefusesNext, RefusesSome, Sending, SentBehind}
use Rattle.yaml_program.specs.{Conversions.AreBytesOf, Conversions.names_read, Faults.emitter_status, Faults.failure_status, declared.faults.Failure.Failure}

-- What follows of a failure of status 1 follows of it where it is passed on.
pub refusal_weaker : {N P Q : Type 0} (result : Result (Unit {0}) (N × Failure)) → (P → Q) → IfErr result (λ stop. failure_status stop.1 ≡ 1 → P)
    → IfErr result (λ stop. failure_status stop.1 ≡ 1 → Q)
refusal_weaker (Ok done) follows refused = tt
refusal_weaker (Err stop) follows refused = λ status. follows (refused status)

-- ---- the file that is refused

-- One of some files, and those around it.
cut_at : (bytes_of : List ℕ → Option (List ℕ)) (names : List (List ℕ)) (name : List ℕ) (others : List (List ℕ)) (files : List (List ℕ))
    → AreBytesOf bytes_of (names ++ name ∷ others) files
    → (front : List (List ℕ)) × (file : List ℕ) × (later : List (List ℕ)) × (front ++ file ∷ later ≡ files) × AreBytesOf bytes_of names front
    × (bytes_of name ≡ Some file)
cut_at bytes_of [] name others [] are = absurd are
cut_at bytes_of [] name others (file ∷ files) are = ([], file, files, refl, tt, are.0)
cut_at bytes_of (one ∷ names) name others [] are = absurd are
cut_at bytes_of (one ∷ names) name others (file ∷ files) are =
    let (front, found, later, is, before, known) = cut_at bytes_of names name others files are.1 in
    (file ∷ front, found, later, ap (λ (all : List (List ℕ)). file ∷ all) is, (are.0, before), known)

names_at : (names : List (Bor (List ℕ))) (index : ℕ) (name : Bor (List ℕ)) → index < length names
    → map (λ n. n.now) (take index names) ++ (get_or names index name).now ∷ map (λ n. n.now) (drop (suc index) names) ≡ map (λ n. n.now) names
names_at names index name within =
    sym (ap (map (λ (n : Bor (List ℕ)). n.now)) (sym (take-append-drop index names))
    ∙ map-append (λ (n : Bor (List ℕ)). n.now) (take index names) (drop index names)
    ∙ ap (λ (rest : List (Bor (List ℕ))). map (λ n. n.now) (take index names) ++ map (λ n. n.now) rest) (drop-cons names index name within))

-- There is a name at each place.
some_at : (names : List (Bor (List ℕ))) (index : ℕ) → index < length names → Bor (List ℕ)
some_at [] index within = absurd (omega (arith, within))
some_at (name ∷ names) index within = name

module _ (sent refused : Sending) (bytes_of : List ℕ → Option (List ℕ)) where
  -- After others.
  pub behind_refused : (names : List (Bor (List ℕ))) (index : ℕ) (name : Bor (List ℕ)) (was middle now : WriterState)
      (before held after : Option (List ℕ)) → index < length names
      → ((files : List (List ℕ)) → AreBytesOf bytes_of (map (λ n. n.now) (take index names)) files → SentBehind sent files was before middle held)
      → ((file : List ℕ) → bytes_of (get_or names index name).now ≡ Some file → RefusesNext sent refused file middle held now after)
      → (files : List (List ℕ)) → AreBytesOf bytes_of (map (λ n. n.now) names) files → RefusesBehind sent refused files was before now after
  behind_refused names index name was middle now before held after within behind next files are =
      let (front, file, later, is, others, known) = cut_at bytes_of (map (λ n. n.now) (take index names)) (get_or names index name).now
      (map (λ n. n.now) (drop (suc index) names)) files
      (subst (λ (all : List (List ℕ)). AreBytesOf bytes_of all files) (sym (names_at names index name within)) are) in
      (front, file, later, middle, held, is, behind front others, next file known)

  pub behind_unbegun : (names : List (Bor (List ℕ))) (index : ℕ) (was middle now : WriterState) (before held after : Option (List ℕ))
      → index < length names
      → ((files : List (List ℕ)) → AreBytesOf bytes_of (map (λ n. n.now) (take index names)) files → SentBehind sent files was before middle held)
      → RefusesDocument middle now → (files : List (List ℕ)) → AreBytesOf bytes_of (map (λ n. n.now) names) files
      → RefusesBehind sent refused files was before now after
  behind_unbegun names index was middle now before held after within behind refuses files are =
      behind_refused names index (some_at names index within) was middle now before held after within behind (λ file known. inl refuses) files are

  -- Standard input.
  pub stream_refused : (names : List (Bor (List ℕ))) (was now : WriterState) (before after : Option (List ℕ)) → length names ≡ 0
      → ((file : List ℕ) → bytes_of (codes "-") ≡ Some file → refused file was before now after)
      → (files : List (List ℕ)) → AreBytesOf bytes_of (names_read (map (λ n. n.now) names)) files → RefusesSome sent refused files was before now after
  stream_refused [] was now before after none one [] are = absurd are
  stream_refused [] was now before after none one (file ∷ files) are = inl (one file are.0)
  stream_refused (name ∷ names) was now before after none one files are = absurd (omega arith)

  -- The first of those that are named, or another.
  first_from : (name : List ℕ) (others : List (List ℕ)) (was now : WriterState) (before after : Option (List ℕ))
      → ((file : List ℕ) → bytes_of name ≡ Some file → refused file was before now after)
      → (files : List (List ℕ)) → AreBytesOf bytes_of (names_read (name ∷ others)) files → RefusesSome sent refused files was before now after
  first_from name others was now before after one [] are = absurd are
  first_from name others was now before after one (file ∷ files) are = inl (one file are.0)

  other_from : (name : List ℕ) (others : List (List ℕ)) (was middle now : WriterState) (before held after : Option (List ℕ))
      → ((file : List ℕ) → bytes_of name ≡ Some file → sent file was before middle held)
      → ((files : List (List ℕ)) → AreBytesOf bytes_of others files → RefusesBehind sent refused files middle held now after)
      → (files : List (List ℕ)) → AreBytesOf bytes_of (names_read (name ∷ others)) files → RefusesSome sent refused files was before now after
  other_from name others was middle now before held after one behind [] are = absurd are
  other_from name others was middle now before held after one behind (file ∷ files) are = inr (middle, held, one file are.0, behind files are.1)

  module _ (names : List (Bor (List ℕ))) (name : Bor (List ℕ)) (others : List (Bor (List ℕ))) (is : names ≡ name ∷ others) where
    pub first_refused : (was now : WriterState) (before after : Option (List ℕ))
        → ((file : List ℕ) → bytes_of name.now ≡ Some file → refused file was before now after)
        → (files : List (List ℕ)) → AreBytesOf bytes_of (names_read (map (λ n. n.now) names)) files → RefusesSome sent refused files was before now after
    first_refused was now before after one files are =
        first_from name.now (map (λ n. n.now) others) was now before after one files
        (subst (λ (all : List (Bor (List ℕ))). AreBytesOf bytes_of (names_read (map (λ n. n.now) all)) files) is are)

    pub other_refused : (was middle now : WriterState) (before held after : Option (List ℕ))
        → ((file : List ℕ) → bytes_of name.now ≡ Some file → sent file was before middle held)
        → ((files : List (List ℕ)) → AreBytesOf bytes_of (map (λ n. n.now) others) files → RefusesBehind sent refused files middle held now after)
        → (files : List (List ℕ)) → AreBytesOf bytes_of (names_read (map (λ n. n.now) names)) files → RefusesSome sent refused files was before now after
    other_refused was middle now before held after one behind files are =
        other_from name.now (map (λ n. n.now) others) was middle now before held after one behind files
        (subst (λ (all : List (Bor (List ℕ))). AreBytesOf bytes_of (names_read (map (λ n. n.now) all)) files) is are)

-- ---- a stream that is written

-- An emitter that has the first events of a stream that is written has no error but of memory.
module _ (given : Settings) (all : List Event) (bytes : List ℕ) (stream : IsStream given all bytes) where
  pub never_fails : (first rest : List Event) (state : State) (error : yaml_error_t) → state.given ≡ given → state.events ≡ first → IsPromised state
      → first ++ rest ≡ all → state.error ≡ Some error → emitter_status error ≡ 1 → ⊥
  never_fails first rest state error set are promised begins is status =
      let fits : FitsLimit given first = record {
        more = rest;
        accepted = subst (IsAccepted given.canonical) (sym begins) stream.accepted;
        uncut = subst (IsUncut given) (sym begins) stream.written.uncut;
      } in
      let memory : error ≡ Memory = subst FailsOnlyByMemory is (promised.fits (subst₂ FitsLimit (sym set) (sym are) fits)) in
      let three : 3 ≡ 1 = sym (ap emitter_status memory) ∙ status in
      absurd (omega (arith, three))

-- And its stream is finished.
pub never_unended : (given : Settings) (all : List Event) (bytes : List ℕ) → IsStream given (all ++ closing) bytes → (state : State)
    → state.given ≡ given → state.events ≡ all → RefusesEnd state → ⊥
never_unended given all bytes stream state set are refuses = by_error refuses.error refuses.status refuses.unfinished where
  by_error : (error : yaml_error_t) → emitter_status error ≡ 1 → IsUnfinished state error → ⊥
  by_error Memory status unfinished = absurd (omega (arith, status))
  by_error WriteError status unfinished =
      (subst₂ (λ (g : Settings) (events : List Event). PassesLimit g (events ++ closing)) set are (unfinished.full refl)).whole stream.accepted
      stream.written.uncut
  by_error error status unfinished =
      (subst₂ (λ (g : Settings) (events : List Event). IsNoStream g.canonical (events ++ closing) error) set are (unfinished.refused tt)).unaccepted
      stream.accepted

-- The events after some were given, in the form of the writer.
pub events_given : {before all first : List Event} {canonical given : Bool} (events : Bool → List Event) → all ≡ before ++ events canonical
    → before ≡ first → canonical ≡ given → all ≡ first ++ events given
events_given events is begins same = is ∙ ap₂ (λ (first later : List Event). first ++ later) begins (ap events same)
