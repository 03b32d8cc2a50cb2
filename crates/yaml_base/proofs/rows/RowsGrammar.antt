-- Refusals, places and ready events, computed.
use Rattle.yaml_base.proofs.Common.{Option, None, Some, codes, nat_lt, pos, length, replicate, Bool, false, not, true, List, [], map, ◌++◌, ◌∷◌, refl, ◌≡◌, ap}
use Rattle.yaml_base.proofs.Common.{Text, any_style, any_layout, flow, Version, TagDirective, DocumentStart, Collection, Event, stream_start, stream_end}
use Rattle.yaml_base.proofs.Common.{document_start, document_end, alias, scalar, sequence_start, sequence_end, mapping_start, mapping_end, no_documents, Level}
use Rattle.yaml_base.proofs.Common.{within_document, written, some_if, most_open, refusal_at, refusal}
use Rattle.yaml_base.{proofs.rows.Cases.Gives, proofs.rows.Cases.GivesOfThree, specs.declared.errors.yaml_error_t.yaml_error_t}
use Rattle.yaml_base.specs.declared.errors.yaml_error_t.TheVariants.{AliasAlphabet, AliasEmpty, AnchorAlphabet, AnchorEmpty, DuplicateDirective}
use Rattle.yaml_base.specs.declared.errors.yaml_error_t.TheVariants.{ExpectedDocumentEnd, ExpectedDocumentStart, ExpectedNode, ExpectedNothing}
use Rattle.yaml_base.specs.declared.errors.yaml_error_t.TheVariants.{ExpectedStreamStart, IncompatibleVersion, NoTagNorImplicit, TagEmpty, TagHandleAlphabet}
use Rattle.yaml_base.specs.declared.errors.yaml_error_t.TheVariants.{TagHandleEmpty, TagHandleEnd, TagHandleStart, TagPrefixEmpty, TooDeep}

abbrev plain_start : DocumentStart
plain_start = record { version = None; directives = []; implicit = true }

abbrev a_scalar : Event
a_scalar = scalar (record { anchor = None; tag = None; value = codes "a"; plain_implicit = true; quoted_implicit = true; style = any_style })

abbrev a_collection : Collection
a_collection = record { anchor = None; tag = None; implicit = true; style = any_layout }

-- one event of each kind
abbrev kinds : List Event
kinds =
    stream_start None ∷ stream_end ∷ document_start plain_start ∷ document_end true ∷ alias (codes "a") ∷ a_scalar
    ∷ sequence_start a_collection ∷ sequence_end ∷ mapping_start a_collection ∷ mapping_end ∷ []

abbrev refusals_after : List Event → List (Option yaml_error_t)
refusals_after before = map (refusal false before) kinds

abbrev opened : List Event
opened = stream_start None ∷ document_start plain_start ∷ []

refusals : Gives refusals_after (
    ([], None ∷ replicate 9 (Some ExpectedStreamStart))  -- new emitter
    ∷ (stream_start None ∷ [], Some ExpectedDocumentStart ∷ None ∷ None ∷ replicate 7 (Some ExpectedDocumentStart))  -- between documents
    ∷ (opened, replicate 4 (Some ExpectedNode) ++ (None ∷ None ∷ None ∷ Some ExpectedNode ∷ None ∷ Some ExpectedNode ∷ []))  -- at root
    ∷ (opened ++ sequence_start a_collection ∷ [], replicate 4 (Some ExpectedNode) ++ (None ∷ None ∷ None ∷ None ∷ None ∷ Some ExpectedNode ∷ []))  -- at item
    ∷ (opened ++ mapping_start a_collection ∷ [], replicate 4 (Some ExpectedNode) ++ (None ∷ None ∷ None ∷ Some ExpectedNode ∷ None ∷ None ∷ []))  -- at key
    ∷ (
      opened ++ mapping_start a_collection ∷ a_scalar ∷ [],
      replicate 4 (Some ExpectedNode) ++ (None ∷ None ∷ None ∷ Some ExpectedNode ∷ None ∷ Some ExpectedNode ∷ []),
    )  -- at value
    ∷ (opened ++ a_scalar ∷ [], replicate 3 (Some ExpectedDocumentEnd) ++ (None ∷ replicate 6 (Some ExpectedDocumentEnd)))  -- after root
    ∷ (stream_start None ∷ stream_end ∷ [], replicate 10 (Some ExpectedNothing))  -- after stream
    ∷ [])
refusals = refl

abbrev directed : Option Version → List TagDirective → Event
directed version directives = document_start (record { version = version; directives = directives; implicit = true })

abbrev between : List Event
between = stream_start None ∷ []

abbrev directive : Text → Text → TagDirective
directive handle prefix = record { handle = handle; prefix = prefix }

refused_directives : Gives (refusal false between) (
    (directed (Some (record { major = pos 1; minor = pos 3 })) [], Some IncompatibleVersion)  -- version 1 3
    ∷ (directed (Some (record { major = pos 1; minor = pos 2 })) [], None)  -- version 1 2
    ∷ (directed None (directive [] (codes "p") ∷ []), Some TagHandleEmpty)  -- empty handle
    ∷ (directed None (directive (codes "e!") (codes "p") ∷ []), Some TagHandleStart)  -- handle without first mark
    ∷ (directed None (directive (codes "!e") (codes "p") ∷ []), Some TagHandleEnd)  -- handle without last mark
    ∷ (directed None (directive (codes "!.!") (codes "p") ∷ []), Some TagHandleAlphabet)  -- handle with a dot
    ∷ (directed None (directive (codes "!e!") [] ∷ []), Some TagPrefixEmpty)  -- empty prefix
    ∷ (
      directed None (directive (codes "!e!") (codes "p") ∷ directive (codes "!") (codes "r") ∷ directive (codes "!e!") (codes "q") ∷ []),
      Some DuplicateDirective,
    )  -- handle twice
    ∷ (directed None (directive (codes "!") (codes "p") ∷ directive (codes "!!") (codes "p") ∷ []), None)  -- default handles given
    ∷ [])
refused_directives = refl

abbrev named : Option Text → Option Text → Bool → Bool → Event
named anchor tag plain_implicit quoted_implicit =
    scalar (record { anchor = anchor; tag = tag; value = codes "a"; plain_implicit = plain_implicit; quoted_implicit = quoted_implicit; style = any_style })

refused_names : GivesOfThree refusal (
    (false, opened, named (Some []) None true true, Some AnchorEmpty)  -- empty anchor
    ∷ (false, opened, named (Some (codes "a.b")) None true true, Some AnchorAlphabet)  -- anchor with a dot
    ∷ (false, opened, alias [], Some AliasEmpty)  -- empty alias
    ∷ (false, opened, alias (codes "a b"), Some AliasAlphabet)  -- alias with a space
    -- names are looked at before the place, also at the very first event
    ∷ (false, [], alias [], Some AliasEmpty)  -- empty alias first
    ∷ (false, opened, named None (Some []) false false, Some TagEmpty)  -- empty tag
    ∷ (false, opened, named None (Some []) true false, None)  -- empty tag with a flag
    ∷ (true, opened, named None (Some []) true false, Some TagEmpty)  -- empty tag in canonical mode
    ∷ (false, opened, sequence_start (record { anchor = None; tag = Some []; implicit = false; style = any_layout }), Some TagEmpty)  -- empty collection tag
    ∷ (false, opened, named None None false false, Some NoTagNorImplicit)  -- no tag and no flag
    ∷ (false, opened, mapping_start (record { anchor = None; tag = None; implicit = false; style = any_layout }), None)  -- no collection tag
    ∷ [])
refused_names = refl

nested_too_deep :
    (levels : List Level) → length levels ≡ 1000000
    → refusal_at false (within_document None no_documents plain_start levels) (sequence_start a_collection) ≡ Some TooDeep
nested_too_deep levels full = ap (λ count. some_if (not (nat_lt count most_open)) TooDeep) full

nested_just_enough :
    (levels : List Level) → length levels ≡ 999999
    → refusal_at false (within_document None no_documents plain_start levels) (sequence_start a_collection) ≡ None
nested_just_enough levels full = ap (λ count. some_if (not (nat_lt count most_open)) TooDeep) full

abbrev flow_sequence : Option Text → Event
flow_sequence anchor = sequence_start (record { anchor = anchor; tag = None; implicit = true; style = flow })

ready_events : Gives written (
    -- two starts one after another: the inner one waits
    (opened ++ flow_sequence (Some (codes "a")) ∷ flow_sequence None ∷ named None None true true ∷ [], 3)  -- inner start waits
    -- two items after a sequence's start make it ready
    ∷ (opened ++ sequence_start a_collection ∷ a_scalar ∷ a_scalar ∷ [], 5)  -- two items make ready
    ∷ (opened ++ sequence_start a_collection ∷ a_scalar ∷ [], 2)  -- one item waits
    ∷ (opened ++ sequence_start a_collection ∷ sequence_end ∷ [], 4)  -- end makes ready
    ∷ (opened ++ mapping_start a_collection ∷ a_scalar ∷ a_scalar ∷ [], 2)  -- mapping awaits three
    ∷ (opened, 1)  -- document awaits one
    ∷ [])
ready_events = refl
