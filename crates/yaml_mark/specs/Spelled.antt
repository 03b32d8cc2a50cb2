-- The result of a tag's analysis, by the tag's bytes.
use Rattle.std.specs.Prelude.{◌≡◌, ℕ, ◌<◌, Bool, Some, List, length, take, drop, slice_get, chars, encode_utf8_all, is_some, bytes_eq, nat_lt, ◌&&◌}
use Rattle.std.specs.Prelude.{MatchOption}
use Rattle.std.specs.Str.{IsCharBoundary}
use Rattle.yaml_base.specs.Event.{TagDirective}
use Rattle.yaml_base.specs.Tags.{Spelling, shorthand, verbatim, behind}
use Rattle.yaml_mark.specs.declared.tags.tag_t.{tag_t}

-- true if a directive's prefix is shorter than a tag of these bytes and begins it
abbrev pub fits : List ℕ → TagDirective → Bool
fits tag directive = is_some (behind directive.prefix (chars tag))

-- true if a prefix of these bytes is shorter than a tag and begins it
abbrev pub begins_and_is_shorter : List ℕ → List ℕ → Bool
begins_and_is_shorter prefix tag = nat_lt (length prefix) (length tag) && bytes_eq prefix (take (length prefix) tag)

-- a tag is cut at a place: before it is the prefix of the directive of that number, after it the suffix
pub record IsCutAt (directives : List TagDirective) (tag : List ℕ) (number place : ℕ) (spelled_as : Spelling) : Type 0 where
  pub directive : TagDirective
  pub given : slice_get directives number ≡ Some directive
  pub prefix : take place tag ≡ encode_utf8_all directive.prefix
  pub shorter : place < length tag
  pub boundary : IsCharBoundary tag place
  pub spelling : spelled_as ≡ shorthand directive.handle (chars (drop place tag))

-- an answer means this spelling
abbrev pub StandsFor : List TagDirective → List ℕ → tag_t → Spelling → Type 0
StandsFor directives tag answer spelled_as =
    MatchOption answer.directive
    ((answer.prefix_length ≡ 0) × (spelled_as ≡ verbatim (chars tag)))
    (λ number. IsCutAt directives tag number answer.prefix_length spelled_as)
