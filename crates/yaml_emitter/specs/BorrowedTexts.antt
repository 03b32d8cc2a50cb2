-- Borrowed texts, as the definitions see them.
use Rattle.std.specs.Prelude.{◌≡◌, ℕ, Option, List, Result, Ok, Err, String, option_map, option_copied, chars}
use Rattle.std.specs.Borrow.{Bor}
use Rattle.yaml_base.specs.Characters.{Text}
use Rattle.yaml_base.specs.Tags.{Spelling, shorthand, verbatim}
use Rattle.yaml_base.specs.Event.{Scalar, Collection, CollectionStyle}
use Rattle.yaml_base.specs.Seen.{seen_scalar_style, seen_text}
use Rattle.yaml_base.specs.declared.errors.yaml_error_t.{yaml_error_t}
use Rattle.yaml_base.specs.declared.errors.yaml_error_t.TheVariants.{Memory}
use Rattle.yaml_emitter.specs.declared.writing.contents.ScalarContent.{ScalarContent}
use Rattle.yaml_emitter.specs.declared.writing.contents.CollectionContent.{CollectionContent}
use Rattle.yaml_emitter.specs.declared.writing.spelling.SpelledTag.{SpelledTag}
use Rattle.yaml_emitter.specs.declared.writing.spelling.SpelledTag.TheVariants.{Shorthand, Verbatim}

-- the characters of a borrowed text, if there is one
abbrev pub seen_name : Option (Bor (List ℕ)) → Option Text
seen_name name = option_map chars (option_copied name)

-- the result of copying a text: a copy, or the memory error
abbrev pub CopiesText : {A : Type 0} → Text → Result (String A) yaml_error_t → Type 0
CopiesText text (Ok copy) = seen_text copy ≡ text
CopiesText text (Err error) = error ≡ Memory

-- a tag's spelling by its characters
abbrev pub seen_spelling : SpelledTag → Spelling
seen_spelling (Shorthand handle suffix) = shorthand (chars handle.now) (chars suffix.now)
seen_spelling (Verbatim tag) = verbatim (chars tag.now)

-- a scalar by its characters
abbrev pub seen_scalar : ScalarContent → Scalar
seen_scalar content =
    record {
      anchor = seen_name content.anchor;
      tag = seen_name content.tag;
      value = chars content.value.now;
      plain_implicit = content.plain_implicit;
      quoted_implicit = content.quoted_implicit;
      style = seen_scalar_style content.style;
    }

-- a collection's start by its characters, with this style
abbrev pub seen_collection : CollectionContent → CollectionStyle → Collection
seen_collection content style =
    record { anchor = seen_name content.anchor; tag = seen_name content.tag; implicit = content.implicit; style = style }
