-- An event is refused for a missing node only if a node is missing.
use Rattle.yaml_base.proofs.Common.{if◌then◌else◌, ◌==◌, is_some, is_none, option_and_then, Option, None, Some, nat_lt, length, Bool, false, not, true, ◌&&◌}
use Rattle.yaml_base.proofs.Common.{◌||◌, List, [], ◌++◌, ◌∷◌, refl, ◌≡◌, ap, sym, ◌∙◌, list_all, option_or, Text, is_alpha, Version, TagDirective, Event}
use Rattle.yaml_base.proofs.Common.{document_start, alias, scalar, sequence_start, mapping_start, scalar_tag, collection_tag, Partial, before_stream}
use Rattle.yaml_base.proofs.Common.{within_document, push, pushed, some_if, name_or_tag_fault, content_fault}
use Rattle.yaml_base.proofs.Common.{expected, place_fault, most_open, begins_collection, open_levels, depth_fault, refusal_at, name_fault, anchor_fault}
use Rattle.yaml_base.proofs.Common.{alias_fault, tag_fault, version_fault, exclamation_mark, handle_fault, prefix_fault, directive_fault, gives_handle}
use Rattle.yaml_base.proofs.Common.{next_directive_fault, directives_fault_after, lacks_tag_and_flags}
use Rattle.yaml_base.{proofs.Accepted.stands_from_begins, proofs.Completions.pushed-append, specs.Refusal.properties_fault, specs.Tags.equals_integer}
use Rattle.yaml_base.{specs.Tags.last_from, specs.Tags.without_last, specs.declared.errors.yaml_error_t.yaml_error_t}
use Rattle.yaml_base.specs.declared.errors.yaml_error_t.TheVariants.{AliasAlphabet, AliasEmpty, AnchorAlphabet, AnchorEmpty, DuplicateDirective, ExpectedNode}
use Rattle.yaml_base.specs.declared.errors.yaml_error_t.TheVariants.{IncompatibleVersion, NoTagNorImplicit, TagHandleAlphabet, TagHandleEnd, TagHandleStart}
use Rattle.yaml_base.specs.declared.errors.yaml_error_t.TheVariants.{TooDeep}
use Rattle.yaml_writer.specs.Unfinished.{RefusesOne, awaits_more, MissesNode}

-- a refusal that names no missing node
abbrev NamesNone : Option yaml_error_t → Type 0
NamesNone fault = fault ≡ Some ExpectedNode → ⊥

either : (first second : Option yaml_error_t) → NamesNone first → NamesNone second → NamesNone (option_or first second)
either None second one other = other
either (Some error) second one other = one

chosen : (x : Bool) (first second : Option yaml_error_t) → NamesNone first → NamesNone second → NamesNone (if x then first else second)
chosen true first second one other = one
chosen false first second one other = other

-- A fault if a test fails, and another if it holds.
unless : (x : Bool) (error : yaml_error_t) → NamesNone (Some error) → NamesNone (if x then None else Some error)
unless true error none is = cc
unless false error none is = none is

where_wrong : (x : Bool) (error : yaml_error_t) → NamesNone (Some error) → NamesNone (some_if x error)
where_wrong true error none is = none is
where_wrong false error none is = cc

of_some : {A : Type 0} (fault : A → Option yaml_error_t) → ((x : A) → NamesNone (fault x)) → (x : Option A) → NamesNone (option_and_then fault x)
of_some fault none None is = cc
of_some fault none (Some x) is = none x is

-- ---- names and tags

in_name : (if_empty if_other : yaml_error_t) → NamesNone (Some if_empty) → NamesNone (Some if_other) → (name : Text)
    → NamesNone (name_fault if_empty if_other name)
in_name if_empty if_other empty other [] is = empty is
in_name if_empty if_other empty other (c ∷ rest) is = by (list_all is_alpha (c ∷ rest)) is
  where
    by : (x : Bool) → NamesNone (if x then None else Some if_other)
    by x = unless x if_other other

in_anchor : (name : Text) → NamesNone (anchor_fault name)
in_anchor = in_name AnchorEmpty AnchorAlphabet (λ is. cc) (λ is. cc)

in_alias : (name : Text) → NamesNone (alias_fault name)
in_alias = in_name AliasEmpty AliasAlphabet (λ is. cc) (λ is. cc)

in_tag : (tag : Text) → NamesNone (tag_fault tag)
in_tag [] is = cc
in_tag (c ∷ rest) is = cc

in_properties : (anchor tag : Option Text) → NamesNone (properties_fault anchor tag)
in_properties anchor tag =
    either (option_and_then anchor_fault anchor) (option_and_then tag_fault tag) (of_some anchor_fault in_anchor anchor) (of_some tag_fault in_tag tag)

in_names : (canonical : Bool) (event : Event) → NamesNone (name_or_tag_fault canonical event)
in_names canonical (alias name) = in_alias name
in_names canonical (scalar content) = in_properties content.anchor (scalar_tag canonical content)
in_names canonical (sequence_start start) = in_properties start.anchor (collection_tag canonical start)
in_names canonical (mapping_start start) = in_properties start.anchor (collection_tag canonical start)
in_names canonical event = λ is. cc

-- ---- versions and directives

in_version : (version : Version) → NamesNone (version_fault version)
in_version version =
    unless (equals_integer 1 version.major && (equals_integer 1 version.minor || equals_integer 2 version.minor)) IncompatibleVersion (λ is. cc)

in_handle : (handle : Text) → NamesNone (handle_fault handle)
in_handle [] = λ is. cc
in_handle (c ∷ rest) =
    let alphabet : Option yaml_error_t = if list_all is_alpha (without_last rest) then None else Some TagHandleAlphabet in
    let ending : Option yaml_error_t = if not (last_from c rest == exclamation_mark) then Some TagHandleEnd else alphabet in
    chosen (not (c == exclamation_mark)) (Some TagHandleStart) ending (λ is. cc)
    (chosen (not (last_from c rest == exclamation_mark)) (Some TagHandleEnd) alphabet (λ is. cc)
    (unless (list_all is_alpha (without_last rest)) TagHandleAlphabet (λ is. cc)))

in_prefix : (prefix : Text) → NamesNone (prefix_fault prefix)
in_prefix [] is = cc
in_prefix (c ∷ rest) is = cc

in_directive : (before : List TagDirective) (directive : TagDirective) → NamesNone (next_directive_fault before directive)
in_directive before directive =
    either (directive_fault directive) (if gives_handle directive.handle before then Some DuplicateDirective else None)
    (either (handle_fault directive.handle) (prefix_fault directive.prefix) (in_handle directive.handle) (in_prefix directive.prefix))
    (chosen (gives_handle directive.handle before) (Some DuplicateDirective) None (λ is. cc) (λ is. cc))

in_directives : (before rest : List TagDirective) → NamesNone (directives_fault_after before rest)
in_directives before [] = λ is. cc
in_directives before (directive ∷ rest) =
    either (next_directive_fault before directive) (directives_fault_after (before ++ directive ∷ []) rest) (in_directive before directive)
    (in_directives (before ++ directive ∷ []) rest)

in_content : (canonical : Bool) (event : Event) → NamesNone (content_fault canonical event)
in_content canonical (scalar content) =
    where_wrong (lacks_tag_and_flags (is_some (scalar_tag canonical content)) content.plain_implicit content.quoted_implicit) NoTagNorImplicit (λ is. cc)
in_content canonical (document_start start) =
    either (option_and_then version_fault start.version) (directives_fault_after [] start.directives) (of_some version_fault in_version start.version)
    (in_directives [] start.directives)
in_content canonical event = λ is. cc

in_depth : (partial : Partial) (event : Event) → NamesNone (depth_fault partial event)
in_depth partial event = where_wrong (begins_collection event && not (nat_lt (length (open_levels partial)) most_open)) TooDeep (λ is. cc)

-- ---- places

-- the place alone names a missing node
by_place : (names place others : Option yaml_error_t) → NamesNone names → NamesNone others
    → option_or names (option_or place others) ≡ Some ExpectedNode → place ≡ Some ExpectedNode
by_place None None others one other is = absurd (other is)
by_place None (Some error) others one other is = is
by_place (Some error) place others one other is = absurd (one is)

open_place : (partial : Partial) → Some (expected partial) ≡ Some ExpectedNode → awaits_more (Some partial) ≡ true
open_place (within_document encoding before start levels) is = refl
open_place _ is = cc

-- A place with such an error is open, and the event can't come there.
at_place : (partial : Partial) (next : Option Partial) → some_if (is_none next) (expected partial) ≡ Some ExpectedNode
    → (awaits_more (Some partial) ≡ true) × (next ≡ None)
at_place partial None is = (open_place partial is, refl)
at_place partial (Some next) is = cc

placed : (canonical : Bool) (partial : Partial) (event : Event) → refusal_at canonical partial event ≡ Some ExpectedNode
    → (awaits_more (Some partial) ≡ true) × (push partial event ≡ None)
placed canonical partial event is =
    at_place partial (push partial event)
    (by_place (name_or_tag_fault canonical event) (place_fault partial event) (option_or (content_fault canonical event) (depth_fault partial event))
    (in_names canonical event)
    (either (content_fault canonical event) (depth_fault partial event) (in_content canonical event) (in_depth partial event)) is)

-- an event that is refused for want of a node leaves one out
pub misses : (canonical : Bool) (all : List Event) → RefusesOne canonical all ExpectedNode → MissesNode all
misses canonical all one =
    let stands = stands_from_begins canonical one.prefix one.begins in
    let at = placed canonical stands.partial one.event
    (ap (λ p. option_and_then (λ partial. refusal_at canonical partial one.event) p) (sym stands.is_partial) ∙ one.refusal) in
    record {
      prefix = one.prefix;
      event = one.event;
      later = one.later;
      parts = one.parts;
      awaits = ap awaits_more stands.is_partial ∙ at.0;
      none =
          pushed-append one.prefix (one.event ∷ []) before_stream
          ∙ ap (λ p. option_and_then (λ partial. pushed partial (one.event ∷ [])) p) stands.is_partial
          ∙ ap (λ p. option_and_then (λ partial. pushed partial []) p) at.1;
    }
