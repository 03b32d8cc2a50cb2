-- The reasons why a writer failed that was given the events of a document.
use Rattle.yaml_toml.proofs.Common.{ℕ, ◌+◌, ◌≤◌, ◌<◌, Option, None, Some, Bool, true, List, [], ◌++◌, ◌∷◌, refl, ◌≡◌, append-nil, append_assoc, inl, inr, ap}
use Rattle.yaml_toml.proofs.Common.{subst, sym, ◌∙◌, arith, cond, IfSome, Event, IsPrefix, Settings, State, WriterState, most_open, list_all, Stream, is_sound}
use Rattle.yaml_toml.proofs.Common.{open_count, begins_collection, opening, closing, subst₂, none-some, IsBare, document_nesting, toml_events, fault_error}
use Rattle.yaml_toml.proofs.Common.{toml_writers_error, TomlError, yaml_error_t, Memory, ordered_document, Fault}
use Rattle.std.proofs.lemmas.Option.{same_Some}
use Rattle.yaml_base.proofs.Common.{stream_start, stream_events, sum_by-append, count_by, ends_collection}
use Rattle.yaml_base.specs.declared.errors.yaml_error_t.TheVariants.{WriteError, TooDeep}
use Rattle.yaml_toml.proofs.{TomlTrees.all_events, TomlTrees.root_of, TomlTrees.stream_flat, TomlTrees.toml_stream, YamlOf.new_events}
use Rattle.yaml_toml.proofs.Accepting.{document_shallow, stream_shallow, stream_sound, toml_accepted}
use Rattle.yaml_toml.specs.{Depth.NestsDeeper, Depth.NestsWithin, Walk.WroteToml}
use Rattle.yaml_toml.specs.Failing.{DocumentOverLimit, TomlFailsBy, GaveFirst, StopsInDocument}
use Rattle.yaml_writer.proofs.{Common.plain_start, WhyFailed.NeverPasses, WhyFailed.fails_by, WhyFailed.first_passes, WhyFailed.overflowed_more}
use Rattle.yaml_writer.proofs.{WhyFailed.refused_deeper, WhyFailed.refused_depth, WhyFailed.unfinished_deeper, WhyFailed.unfinished_depth, OpenLevels.gave_none}
use Rattle.yaml_writer.specs.{Failing.HasErrorSaid, Unfinished.IsNoStream, Unfinished.IsUnfinished, Unfinished.PassesLimit, Writing.IsNewWriter}
use Rattle.yaml_emitter.proofs.{Common.IsRefusal, Common.StandsAfter, standing.StandingPromises.promises_refusal}
use Rattle.toml_ordered.specs.Data as toml
use Rattle.toml_ordered.specs.declared.fault.Fault.TheVariants as fault
use Rattle.yaml_toml.specs.declared.error.TomlError.TheVariants as errors

-- the beginning of a stream opens nothing
few_opened : (first : List Event) (depth : ℕ) → ((prefix rest : List Event) → prefix ++ rest ≡ first → open_count prefix ≤ depth) → (prefix rest : List Event)
    → prefix ++ rest ≡ opening ++ first → open_count prefix ≤ depth
few_opened first depth few [] rest is = omega arith
few_opened first depth few (a ∷ []) rest is =
    let whole : a ∷ rest ≡ stream_start None ∷ (plain_start ∷ first) = is in
    let one : a ≡ stream_start None = cc in
    subst (λ (e : Event). open_count (e ∷ []) ≤ depth) (sym one) (omega arith)
few_opened first depth few (a ∷ b ∷ prefix) rest is =
    let whole : a ∷ (b ∷ (prefix ++ rest)) ≡ stream_start None ∷ (plain_start ∷ first) = is in
    let more : prefix ++ rest ≡ first = cc in
    let same : a ∷ (b ∷ prefix) ≡ opening ++ prefix = cc in
    let begun : count_by begins_collection (opening ++ prefix) ≡ 0 + count_by begins_collection prefix =
    sum_by-append (λ x. cond (begins_collection x) 1 0) opening prefix in
    let ended : count_by ends_collection (opening ++ prefix) ≡ 0 + count_by ends_collection prefix =
    sum_by-append (λ x. cond (ends_collection x) 1 0) opening prefix in
    subst (λ (events : List Event). open_count events ≤ depth) (sym same) (omega (arith, begun, ended, few prefix rest more))

module _ (given : Settings) (in_flow : Bool) (depth : ℕ) (text : List ℕ) (root : toml.TomlNodes) (read : ordered_document text ≡ Some root) where
  abbrev events : List Event
  events = toml_events given.canonical in_flow (root_of root)

  abbrev all : List Event
  all = all_events root given.canonical in_flow

  over_limit : PassesLimit given all → DocumentOverLimit given in_flow text
  over_limit passes =
      record { root = root; read = read; passes = passes; cut = λ fits uncut. passes.whole (toml_accepted given.canonical in_flow root fits) uncut }

  abbrev tree : Stream
  tree = toml_stream root given.canonical in_flow

  flat : stream_events tree ≡ all
  flat = stream_flat root given.canonical in_flow

  in_order : list_all (is_sound given.canonical) all ≡ true
  in_order = stream_sound given.canonical in_flow root

  shallow : NeverPasses (document_nesting root) all
  shallow = stream_shallow given.canonical in_flow (document_nesting root) root (omega arith)

  -- ---- an emitter that failed after the first of its events

  module _ (first : List Event) (begins : IsPrefix first events) (few : NeverPasses depth first) (state : State) (set : state.given ≡ given)
      (are : state.events ≡ opening ++ first) (own : StandsAfter state.given state.events state) (error : yaml_error_t) (is : state.error ≡ Some error) where
    stands : StandsAfter given (opening ++ first) state
    stands = subst₂ (λ (g : Settings) (e : List Event). StandsAfter g e state) set are own

    abbrev later : List Event
    later = begins.rest ++ closing

    whole : (opening ++ first) ++ later ≡ all
    whole =
        ap (λ (more : List Event). opening ++ more) (sym (append_assoc first begins.rest closing) ∙ ap (λ (more : List Event). more ++ closing) begins.parts)

    full : error ≡ WriteError → DocumentOverLimit given in_flow text
    full same =
        over_limit (subst (PassesLimit given) whole (overflowed_more _ later (opening ++ first) state stands.so (is ∙ ap (λ (e : yaml_error_t). Some e) same)))

    too_deep : IsRefusal error → (error ≡ TooDeep) × ((most_open < depth) × NestsDeeper most_open text)
    too_deep refusal =
        let refused = promises_refusal given (opening ++ first) state error stands.so is refusal in
        let deeper = refused_deeper given all tree flat in_order (opening ++ first) later whole state error refused in
        let most = document_nesting root in (
          refused_depth given all tree flat in_order (opening ++ first) later whole state error refused,
          (
            deeper depth (few_opened first depth few),
            record { root = root; read = read; deeper = deeper most (first_passes most (opening ++ first) later all whole shallow) },
          ),
        )

    pub failed_after : TomlFailsBy given in_flow depth text error
    failed_after = fails_by depth (DocumentOverLimit given in_flow text) (NestsDeeper most_open text) error full too_deep

  -- ---- a stream that couldn't be finished

  module _ (fits : document_nesting root ≤ depth) (state : State) (set : state.given ≡ given) (are : state.events ≡ opening ++ events)
      (own : StandsAfter state.given state.events state) (error : yaml_error_t) (unfinished : IsUnfinished state error) where
    full_unfinished : error ≡ WriteError → DocumentOverLimit given in_flow text
    full_unfinished same = over_limit (subst₂ (λ (g : Settings) (e : List Event). PassesLimit g (e ++ closing)) set are (unfinished.full same))

    not_accepted : IsRefusal error → (error ≡ TooDeep) × ((most_open < depth) × NestsDeeper most_open text)
    not_accepted refusal =
        let none : IsNoStream given.canonical all error =
        subst₂ (λ (g : Settings) (e : List Event). IsNoStream g.canonical (e ++ closing) error) set are (unfinished.refused refusal) in
        let deeper = unfinished_deeper given all tree flat in_order error none (document_nesting root) shallow in (
          unfinished_depth given all tree flat in_order error none,
          (omega (arith, deeper, fits), record { root = root; read = read; deeper = deeper }),
        )

    by_error : (found : Option yaml_error_t) → state.error ≡ found → TomlFailsBy given in_flow depth text error
    by_error None none = fails_by depth (DocumentOverLimit given in_flow text) (NestsDeeper most_open text) error full_unfinished not_accepted
    by_error (Some earlier) some =
        failed_after events (record { rest = []; parts = append-nil events }) (document_shallow given.canonical in_flow depth root fits) state set are own error
        (some ∙ ap (λ (e : yaml_error_t). Some e) (sym (unfinished.first earlier some)))

    pub unfinished_by : TomlFailsBy given in_flow depth text error
    unfinished_by = by_error state.error refl

-- ---- the events that were given of a text

-- nothing was
gave_nothing : (depth : ℕ) (due : List Event) (was : WriterState) → IsBare was → GaveFirst depth due was was
gave_nothing depth due was bare = record { given = []; begins = record { rest = due; parts = refl }; few = none_open; gave = gave_none was bare }
  where
    none_open : (prefix rest : List Event) → prefix ++ rest ≡ [] → open_count prefix ≤ depth
    none_open [] rest is = omega arith
    none_open (x ∷ prefix) rest is = cc

fault_memory : (found : Fault) → IfSome (fault_error found) (λ code. code ≡ Memory)
fault_memory fault.Memory = refl
fault_memory _ = tt

module _ (depth : ℕ) (in_flow : Bool) (text : List ℕ) (was : WriterState) (error : TomlError) where
  -- no document was read
  pub stops_unread : (found : Fault) → IsBare was → toml_writers_error error ≡ fault_error found → StopsInDocument depth in_flow text was error was
  stops_unread found bare is = record {
    none = λ none. (refl, subst (λ (o : Option yaml_error_t). IfSome o (λ code. code ≡ Memory)) (sym is) (fault_memory found));
    first = λ root read. gave_nothing depth (toml_events was.canonical in_flow (root_of root)) was bare;
  }

  -- one was
  pub stops_read : (now : WriterState) (root : toml.TomlNodes) → ordered_document text ≡ Some root
      → GaveFirst depth (toml_events was.canonical in_flow (root_of root)) was now → StopsInDocument depth in_flow text was error now
  stops_read now root read gave = record {
    none = λ none. absurd (none-some root (sym none ∙ read));
    first = λ other also. subst (λ (r : toml.TomlNodes). GaveFirst depth (toml_events was.canonical in_flow (root_of r)) was now)
        (same_Some root other (sym read ∙ also)) gave;
  }

-- ---- the writer of a text

module _ (given : Settings) (in_flow : Bool) (depth : ℕ) (text : List ℕ) (first now : WriterState) (new : IsNewWriter given first)
    (own : StandsAfter now.emitter.given now.emitter.events now.emitter) where
  by_code : (code : yaml_error_t) → StopsInDocument depth in_flow text first (errors.Emitter code) now → (found : Option toml.TomlNodes)
      → ordered_document text ≡ found → now.emitter.error ≡ Some code → TomlFailsBy given in_flow depth text code
  by_code code stops None none is = inl (stops.none none).1
  by_code code stops (Some root) read is =
      let gave = subst (λ (c : Bool). GaveFirst depth (toml_events c in_flow (root_of root)) first now) new.canonical (stops.first root read) in
      failed_after given in_flow depth text root read gave.given gave.begins gave.few now.emitter (gave.gave.emits.set.given ∙ new.settings)
      (gave.gave.emits.set.events ∙ ap (λ (before : List Event). before ++ gave.given) new.events) own code is

  said : (code : yaml_error_t) → StopsInDocument depth in_flow text first (errors.Emitter code) now → HasErrorSaid first (Some code) now
      → TomlFailsBy given in_flow depth text code
  said code stops (inl memory) = inl memory.0
  said code stops (inr is) = by_code code stops (ordered_document text) refl is

  pub text_failed : (error : TomlError) → StopsInDocument depth in_flow text first error now → HasErrorSaid first (toml_writers_error error) now
      → IfSome (toml_writers_error error) (TomlFailsBy given in_flow depth text)
  text_failed (errors.Emitter code) stops sound = said code stops sound
  text_failed _ stops sound = tt

  pub finish_failed : WroteToml in_flow text first now → NestsWithin depth text → (error : yaml_error_t) → IsUnfinished now.emitter error
      → TomlFailsBy given in_flow depth text error
  finish_failed wrote nests error unfinished =
      let emits = wrote.wrote.emits in
      let fits = subst (λ (root : toml.TomlNodes). document_nesting root ≤ depth)
      (same_Some nests.root wrote.root (sym nests.read ∙ wrote.read)) nests.within in
      unfinished_by given in_flow depth text wrote.root wrote.read fits now.emitter (emits.set.given ∙ new.settings)
      (new_events given in_flow wrote.root first now new emits) own error unfinished
