-- The spelling of tags: of an empty one, and the handles in spellings. And which counts are short.
use Rattle.yaml_emitter.proofs.Common.{ℕ, ◌+◌, option_map, Option, None, Some, Bool, false, not, true, ◌&&◌, List, [], ◌∷◌, refl, ◌≡◌, ap, sym, ◌∙◌, zero-add}
use Rattle.yaml_emitter.proofs.Common.{or_parts, list_any, Text, is_break, TagDirective, is_short, tag_fault, Spelling, verbatim, spelling, some_handle_breaks}
use Rattle.yaml_base.specs.{Tags.behind, Tags.spelling_by, declared.errors.yaml_error_t.yaml_error_t}
use Rattle.yaml_emitter.specs.WrittenAtoms.{spelling_breaks}

nothing_behind : (prefix : Text) → behind prefix [] ≡ None
nothing_behind [] = refl
nothing_behind (c ∷ rest) = refl

empty_spelled : (directives : List TagDirective) → verbatim [] ≡ spelling directives []
empty_spelled [] = refl
empty_spelled (directive ∷ rest) =
    empty_spelled rest
    ∙ ap (λ (suffix : Option Text). spelling_by directive.handle suffix (spelling rest [])) (sym (nothing_behind directive.prefix))

-- a tag that is refused is empty, and would be spelled as it is
pub refused_spelled : (directives : List TagDirective) (tag : Text) (fault : yaml_error_t) → Some fault ≡ tag_fault tag → verbatim tag ≡ spelling directives tag
refused_spelled directives [] fault is = empty_spelled directives
refused_spelled directives (c ∷ rest) fault is = cc

by_breaks : (handle : Text) (suffix : Option Text) (otherwise : Spelling)
    → list_any is_break handle ≡ false → spelling_breaks (Some otherwise) ≡ false → spelling_breaks (Some (spelling_by handle suffix otherwise)) ≡ false
by_breaks handle None otherwise here there = there
by_breaks handle (Some suffix) otherwise here there = here

-- a tag's handle is one of those in force
spelled_sound : (directives : List TagDirective) (tag : Text) → some_handle_breaks directives ≡ false → spelling_breaks (Some (spelling directives tag)) ≡ false
spelled_sound [] tag none = refl
spelled_sound (directive ∷ rest) tag none =
    let parts = or_parts (list_any is_break directive.handle) (some_handle_breaks rest) none in
    by_breaks directive.handle (behind directive.prefix tag) (spelling rest tag) parts.0 (spelled_sound rest tag parts.1)

pub spelled_handle : (directives : List TagDirective) (tag : Option Text) (spelled : Option Spelling)
    → spelled ≡ option_map (spelling directives) tag → some_handle_breaks directives ≡ false → spelling_breaks spelled ≡ false
spelled_handle directives None spelled is none = ap spelling_breaks is
spelled_handle directives (Some tag) spelled is none = ap spelling_breaks is ∙ spelled_sound directives tag none

-- without a value nothing is added
pub short_collection : {empty : Bool} (name tag : ℕ) → empty ≡ true → is_short (0 + name + tag) ≡ (empty && is_short (name + tag))
short_collection {empty} name tag is = ap (λ n. is_short (n + tag)) (zero-add name) ∙ ap (λ e. e && is_short (name + tag)) (sym is)

-- a key outside canonical mode is simple exactly if its node is
pub simple_where : (key canonical : Bool) {simple : Bool} → key ≡ true → canonical ≡ false → simple ≡ (key && (not canonical && simple))
simple_where key canonical {simple} is_key plain = sym (ap (λ k. k && (not canonical && simple)) is_key ∙ ap (λ c. not c && simple) plain)
