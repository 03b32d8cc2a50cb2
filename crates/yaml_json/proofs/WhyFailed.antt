-- Why a writer failed that was given the events of a text.
use Rattle.yaml_json.proofs.Common.{value-json_tokens_back, ℕ, ◌<◌, Option, None, Some, Bool, List, [], ◌++◌, ◌⊎◌, refl, ◌≡◌, append-nil, append_assoc, inl}
use Rattle.yaml_json.proofs.Common.{inr, ap, subst, most_open, Settings, RefusedAt, State, BeginsWithinDepth, FailedInText, json_events, tokens_events}
use Rattle.yaml_json.proofs.Common.{WroteText, WriterState, opening, closing, IsNewWriter, Result, yaml_error_t, Memory, sym, ◌∙◌, arith, unwrap_or}
use Rattle.yaml_json.proofs.Common.{value-depth, Json, value, tokens, Token, json_tokens, Event, IsPrefix}
use Rattle.std.proofs.Math.Path.{subst₂}
use Rattle.yaml_json.proofs.{TokenLemmas.some_then, TokenLemmas.value_given, YamlOf.opened_events, Common.depth as nesting}
use Rattle.yaml_json.proofs.Accepting.{json_accepted, never_passes, stream_of, stream_sound, tree_flat, tree_of}
use Rattle.yaml_json.specs.Failing.{JsonFailsBy, NestsPastMost, OverLimit}
use Rattle.yaml_pen.specs.Page.{result_of_error}
use Rattle.yaml_emitter.{specs.Emits.Emits, proofs.Common.IsRefusal, proofs.Common.StandsAfter, proofs.standing.StandingPromises.promises_refusal}
use Rattle.yaml_writer.proofs.WhyFailed.{fails_by, first_passes, overflowed_more, refused_deeper, refused_depth, unfinished_deeper, unfinished_depth}
use Rattle.yaml_writer.specs.Unfinished.{IsNoStream, IsUnfinished, PassesLimit}
use Rattle.yaml_base.specs.declared.errors.yaml_error_t.TheVariants.{WriteError, TooDeep}

-- a text is one value
same_json : (a b : Json) → ◌≡◌ {A = Option (Json × List Token)} (Some (a, [])) (Some (b, [])) → a ≡ b
same_json a b is = ap (λ (o : Option (Json × List Token)). (unwrap_or o (a, [])).0) is

module _ (given : Settings) (in_flow : Bool) (depth : ℕ) (text : List ℕ) where
  abbrev events_of : List Token → List Event
  events_of all = tokens_events given.canonical in_flow all

  text_spelled : (json : Json) → value depth (tokens text) ≡ Some (json, []) → tokens text ≡ json_tokens json
  text_spelled json read = value-json_tokens_back depth (tokens text) [] json read ∙ append-nil (json_tokens json)

  -- the events of the tokens of a text are those of its value
  text_given : (json : Json) → value depth (tokens text) ≡ Some (json, []) → events_of (tokens text) ≡ json_events given.canonical in_flow json
  text_given json read = ap (tokens_events given.canonical in_flow) (text_spelled json read) ∙ value_given json given.canonical in_flow

  over_limit : PassesLimit given (opening ++ events_of (tokens text) ++ closing) → OverLimit given in_flow depth text
  over_limit passes =
      record {
        passes = passes;
        cut = λ json read fits uncut. (subst (λ (events : List Event). PassesLimit given (opening ++ events ++ closing)) (text_given json read) passes).whole
            (json_accepted given.canonical in_flow json fits) uncut;
      }

  -- ---- an emitter that failed after the events of some tokens

  module _ (taken left : List Token) (parts : taken ++ left ≡ tokens text) (state : State) (stands : StandsAfter given (opening ++ events_of taken) state)
      (error : yaml_error_t) (is : state.error ≡ Some error) where
    all_events_given : (opening ++ events_of taken) ++ (events_of left ++ closing) ≡ opening ++ events_of (tokens text) ++ closing
    all_events_given =
        ap (λ (events : List Event). opening ++ events) (sym (append_assoc (events_of taken) (events_of left) closing)
        ∙ ap (λ (events : List Event). events ++ closing)
        (sym (some_then given.canonical in_flow taken left) ∙ ap (tokens_events given.canonical in_flow) parts))

    stream_begins : (json : Json) → IsPrefix taken (json_tokens json) → IsPrefix (opening ++ events_of taken) (stream_of given.canonical in_flow json)
    stream_begins json begins =
        record {
          rest = events_of begins.rest ++ closing;
          parts = ap (λ (events : List Event). opening ++ events) (sym (append_assoc (events_of taken) (events_of begins.rest) closing)
              ∙ ap (λ (events : List Event). events ++ closing)
              (sym (some_then given.canonical in_flow taken begins.rest) ∙ ap (tokens_events given.canonical in_flow) begins.parts
              ∙ value_given json given.canonical in_flow));
        }

    text_begins : (json : Json) → value depth (tokens text) ≡ Some (json, []) → IsPrefix taken (json_tokens json)
    text_begins json read = record { rest = left; parts = parts ∙ text_spelled json read }

    full : error ≡ WriteError → OverLimit given in_flow depth text
    full same =
        over_limit (subst (PassesLimit given) all_events_given
        (overflowed_more given (events_of left ++ closing) (opening ++ events_of taken) state stands.so (is ∙ ap (λ (e : yaml_error_t). Some e) same)))

    refused : IsRefusal error → RefusedAt given (opening ++ events_of taken) error state
    refused refusal = promises_refusal given (opening ++ events_of taken) state error stands.so is refusal

    module _ (json : Json) (begins : IsPrefix taken (json_tokens json)) (refusal : IsRefusal error) where
      abbrev stream : IsPrefix (opening ++ events_of taken) (stream_of given.canonical in_flow json)
      stream = stream_begins json begins

      is_depth : error ≡ TooDeep
      is_depth =
          refused_depth given (stream_of given.canonical in_flow json) (tree_of given.canonical in_flow json) (tree_flat given.canonical in_flow json)
          (stream_sound given.canonical in_flow json) (opening ++ events_of taken) stream.rest stream.parts state error (refused refusal)

      deeper : most_open < nesting json
      deeper =
          let most = nesting json in
          refused_deeper _ _ (tree_of given.canonical in_flow json) (tree_flat given.canonical in_flow json) (stream_sound given.canonical in_flow json) _
          stream.rest stream.parts _ _ (refused refusal) most
          (first_passes most (opening ++ events_of taken) stream.rest _ stream.parts (never_passes given.canonical in_flow json most (omega arith)))

    too_deep : BeginsWithinDepth depth taken → IsRefusal error → (error ≡ TooDeep) × ((most_open < depth) × NestsPastMost depth text)
    too_deep found refusal =
        let fits = found.nested in
        let deep = deeper found.json found.begins refusal in (
          is_depth found.json found.begins refusal,
          (omega (arith, fits, deep), λ json read. deeper json (text_begins json read) refusal),
        )

    failed_after : BeginsWithinDepth depth taken → JsonFailsBy given in_flow depth text error
    failed_after found = fails_by depth (OverLimit given in_flow depth text) (NestsPastMost depth text) error full (too_deep found)

  -- ---- the writer of a text, which was new

  module _ (first now : WriterState) (error : yaml_error_t) (new : IsNewWriter given first)
      (stands : StandsAfter now.emitter.given now.emitter.events now.emitter) where
    -- it was given these events
    module _ (events : Bool → List Event) (answer : Result (Unit {0}) yaml_error_t)
        (emits : Emits first.emitter (events first.canonical) answer now.emitter) where
      by_given : (P : Settings → List Event → Type 0) → P now.emitter.given now.emitter.events → P given (opening ++ events given.canonical)
      by_given P = subst₂ P (emits.set.given ∙ new.settings) (opened_events events emits.set.events new.events new.canonical)

    pub text_failed : FailedInText depth in_flow text first error now → JsonFailsBy given in_flow depth text error
    text_failed (taken, (failed, begins)) =
        let stood = by_given (λ c. tokens_events c in_flow taken) (result_of_error now.emitter.error) failed.gave.gave.emits
        (λ g all. StandsAfter g all now.emitter) stands in
        by_error failed.gave.is_error
        (λ is. failed_after taken failed.left failed.parts now.emitter stood error is begins) where
          by_error : (error ≡ Memory) ⊎ (now.emitter.error ≡ Some error) → (now.emitter.error ≡ Some error → JsonFailsBy given in_flow depth text error)
              → JsonFailsBy given in_flow depth text error
          by_error (inl memory) follows = inl memory
          by_error (inr is) follows = follows is

    module _ (wrote : WroteText depth in_flow text first now) (unfinished : IsUnfinished now.emitter error) where
      by_json : (P : Settings → List Event → Type 0) → P now.emitter.given now.emitter.events
          → P given (opening ++ json_events given.canonical in_flow wrote.json)
      by_json = by_given (λ c. json_events c in_flow wrote.json) (result_of_error now.emitter.error) wrote.wrote.emits

      whole : BeginsWithinDepth depth (tokens text)
      whole =
          record {
            json = wrote.json;
            nested = value-depth depth (tokens text) [] wrote.json wrote.read;
            begins = record { rest = []; parts = append-nil (tokens text) ∙ text_spelled wrote.json wrote.read };
          }

      full_unfinished : error ≡ WriteError → OverLimit given in_flow depth text
      full_unfinished same =
          over_limit (subst (λ (events : List Event). PassesLimit given (opening ++ events ++ closing)) (sym (text_given wrote.json wrote.read))
          (by_json (λ g all. PassesLimit g (all ++ closing)) (unfinished.full same)))

      not_accepted : IsRefusal error → (error ≡ TooDeep) × ((most_open < depth) × NestsPastMost depth text)
      not_accepted refusal =
          let most = nesting wrote.json in
          let all = stream_of given.canonical in_flow wrote.json in
          let tree = tree_of given.canonical in_flow wrote.json in
          let flat = tree_flat given.canonical in_flow wrote.json in
          let in_order = stream_sound given.canonical in_flow wrote.json in
          let none = by_json (λ g all. IsNoStream g.canonical (all ++ closing) error) (unfinished.refused refusal) in
          let deep = unfinished_deeper given all tree flat in_order error none most (never_passes given.canonical in_flow wrote.json most (omega arith)) in
          let fits = value-depth depth (tokens text) [] wrote.json wrote.read in (
            unfinished_depth given all tree flat in_order error none,
            (omega (arith, fits, deep), λ json read. subst (λ (j : Json). most_open < nesting j) (same_json wrote.json json (sym wrote.read ∙ read)) deep),
          )

      by_error : (found : Option yaml_error_t) → now.emitter.error ≡ found → JsonFailsBy given in_flow depth text error
      by_error None none = fails_by depth (OverLimit given in_flow depth text) (NestsPastMost depth text) error full_unfinished not_accepted
      by_error (Some earlier) some =
          failed_after (tokens text) [] (append-nil (tokens text)) now.emitter (subst (λ (events : List Event). StandsAfter given (opening ++ events)
          now.emitter) (sym (text_given wrote.json wrote.read)) (by_json (λ g all. StandsAfter g all now.emitter) stands)) error (some ∙ ap
          (λ (e : yaml_error_t). Some e) (sym (unfinished.first earlier some))) whole

      pub finish_failed : JsonFailsBy given in_flow depth text error
      finish_failed = by_error now.emitter.error refl
