-- Documents that were dumped with their types read back as their graphs with all tags.
use Rattle.yaml_dump.proofs.Common.{unwrap_or, Option, None, Some, false, true, List, [], map, ◌∷◌, refl, ◌≡◌, ap, subst, sym, ◌∙◌, false≢true}
use Rattle.yaml_dump.proofs.Common.{list_all, dumped_stream, Text, Event, Settings, IsDumpOf, Graph, DocumentTree, State, arith, nat_tests}
use Rattle.yaml_base.proofs.Common.{ℕ, option_map, is_some, and_parts, and_from, scalar_tag, Stream, stream_events}
use Rattle.yaml_base.proofs.Common.{IsAccepted, agrees, stream_trees, bytes_written, list_layout, encoding_asked, has_scalar_texts}
use Rattle.yaml_base.proofs.Common.{settings_for, resolved_by_core, resolved_by_11, reads_alike}
use Rattle.std.proofs.Common.{take_all}
use Rattle.yaml_base.specs.{graphs.Meetings.string_tag, streams.StreamContent.is_same_text, values.CanonicalTags.Schema}
use Rattle.yaml_emitter.specs.{Emits.IsPromised}
use Rattle.yaml_writer.proofs.TypedTrees.{typed_stream, stream_typed, typed_read}
use Rattle.yaml_writer.specs.TypedEvents.{typed_event, document_by, says_tag, ReadsTags}
use Rattle.yaml_dump.proofs.{GraphLemmas.stream_accepted, GraphTreeLemmas.has_kept_tag, GraphTreeLemmas.dumped_keep, GraphTreeLemmas.dumped_trees_unfold}
use Rattle.yaml_dump.specs.TypedDumps.{TypesReadBack, TypedDumpsReadBack}

-- ---- each event of dumped graphs has its node's tag

some_tag : (tag : Option Text) (text : Text) → is_same_text (Some text) tag ≡ true → is_some tag ≡ true
some_tag tag text h = grind (arith, nat_tests)

says_kept : (event : Event) → has_kept_tag false event ≡ true → says_tag event ≡ true
says_kept event h = grind (arith, nat_tests, some_tag, unwrap_or, scalar_tag, string_tag)

all_say : (events : List Event) → list_all (has_kept_tag false) events ≡ true → list_all says_tag events ≡ true
all_say [] h = refl
all_say (event ∷ events) h = grind (arith, nat_tests, and_parts, has_kept_tag, list_all, and_from, says_tag, says_kept, all_say events)

-- ---- the events that were given are written whole

module _ (graphs : List Graph) (events : List Event) (state : State) (dumped : IsDumpOf graphs events) (promised : IsPromised state)
    (was : state.events ≡ map typed_event events) (texts : list_all has_scalar_texts state.events ≡ true) (none : state.error ≡ None)
    (alike : reads_alike state.given.portable state.given.canonical state.events ≡ true) where
  abbrev given : Settings
  given = state.given

  abbrev typed : List Event
  typed = state.events

  abbrev stream : Stream
  stream = (dumped_stream graphs events dumped).stream

  is : stream_events stream ≡ events
  is = (dumped_stream graphs events dumped).is

  accepted : IsAccepted given.canonical typed
  accepted = stream_accepted state promised none (typed_stream stream) (stream_typed stream ∙ ap (map typed_event) is ∙ sym was)

  bytes : state.page.output ≡ bytes_written (settings_for given typed) (list_layout (settings_for given typed) typed)
  bytes = grind (arith, nat_tests, given, typed, accepted, take_all, given.limit, bytes_written, settings_for, list_layout)

  -- so by a schema all tags are read
  agree : (schema : Schema) → ReadsTags schema
      → agrees true events (option_map (map (document_by schema)) (stream_trees given.breaks12 state.page.output)) ≡ true
  agree schema reads =
      ap (λ (output : List ℕ). agrees true events (option_map (map (document_by schema)) (stream_trees given.breaks12 output))) bytes
      ∙ subst
      (λ (all : List Event).
      agrees true all
      (option_map (map (document_by schema))
      (stream_trees given.breaks12 (bytes_written (settings_for given typed) (list_layout (settings_for given typed) typed))))
      ≡ true)
      is
      (reads given (encoding_asked typed) stream typed (ap (map typed_event) is ∙ sym was) accepted texts alike
      (subst (λ (all : List Event). list_all says_tag all ≡ true) (sym is) (all_say events (dumped_keep false graphs events dumped))))

  read_back : (found : Option (List DocumentTree)) → stream_trees given.breaks12 state.page.output ≡ found
      → agrees true events (option_map (map (document_by resolved_by_11)) found) ≡ true
      → agrees true events (option_map (map (document_by resolved_by_core)) found) ≡ true → TypesReadBack given.breaks12 graphs state.page.output
  read_back None read by_11 by_core = absurd (false≢true by_11)
  read_back (Some documents) read by_11 by_core =
      record {
        documents = documents;
        read = read;
        by_11 = dumped_trees_unfold true graphs events (map (document_by resolved_by_11) documents) dumped by_11;
        by_core = dumped_trees_unfold true graphs events (map (document_by resolved_by_core) documents) dumped by_core;
      }

  pub types_read : TypesReadBack given.breaks12 graphs state.page.output
  types_read =
      read_back (stream_trees given.breaks12 state.page.output) refl (agree resolved_by_11 typed_read.0) (agree resolved_by_core typed_read.1)

pub typed_dumps_read : TypedDumpsReadBack
typed_dumps_read = types_read
