-- The effect of a call that writes on a pen.
use Rattle.std.specs.Prelude.{◌≡◌, None, Some, Result, ◌++◌, IsSome}
use Rattle.yaml_base.specs.Characters.{Text}
use Rattle.yaml_base.specs.LineBreaks.{with_breaks_written}
use Rattle.yaml_base.specs.Cursor.{Cursor, Rendered}
use Rattle.yaml_base.specs.Prefix.{IsPrefix}
use Rattle.yaml_base.specs.declared.errors.yaml_error_t.{yaml_error_t}
use Rattle.yaml_base.specs.declared.errors.yaml_error_t.TheVariants.{Memory}
use Rattle.yaml_pen.specs.Page.{Page, encoded, result_of_error, IsReady, IsFlushedOutput}

-- the settings of a page stay, and so does the number of taken bytes
pub record KeepsSettings (before after : Page) : Type 0 where
  pub encoding : after.encoding ≡ before.encoding
  pub line_break : after.line_break ≡ before.line_break
  pub limit : after.limit ≡ before.limit
  pub taken : after.taken ≡ before.taken

-- a text grew by a prefix of the named text
pub record AppendsPrefixOf (before named after : Text) : Type 0 where
  pub prefix : Text
  pub rest : Text
  pub parts : named ≡ prefix ++ rest
  pub grown : after ≡ before ++ prefix

-- nothing that was written is lost: the text before is a prefix of the text after, the output before of the output after
pub record Grows (before after : Page) : Type 0 where
  pub text : IsPrefix before.text after.text
  pub output : IsPrefix before.output after.output

-- the text that a layout puts at a page's cursor, with the page's line breaks
abbrev pub named_text : (Cursor → Rendered) → Page → Text
named_text render page = with_breaks_written page.line_break (render page.cursor).text

-- all of the text that a layout puts at the cursor is written, and the cursor is the one after it
pub record WroteAll (render : Cursor → Rendered) (before after : Page) : Type 0 where
  pub no_error : before.error ≡ None
  pub text : after.text ≡ before.text ++ named_text render before
  pub cursor : after.cursor ≡ (render before.cursor).cursor

-- a call that writes the text that a layout puts at the cursor, or fails on the way: the answer tells the pen's error;
-- settings stay; the text grows by a prefix of the named text, and by all of it if there is no error; the output grows
-- too; a pen that failed before stays as it is; the output is a prefix of the bytes
pub record Wrote (render : Cursor → Rendered) (before after : Page) (answer : Result (Unit {0}) yaml_error_t) : Type 0 where
  pub answered : answer ≡ result_of_error after.error
  pub ready : IsReady after
  pub settings : KeepsSettings before after
  pub sound_output : IsFlushedOutput (encoded after) after.output after.limit after.error
  pub grew : AppendsPrefixOf before.text (named_text render before) after.text
  pub output : IsPrefix before.output after.output
  pub all : after.error ≡ None → WroteAll render before after
  pub stopped : IsSome before.error → after ≡ before

-- a flush: only output and error change, and the output only grows; after Ok it is all bytes of the text so far; after
-- the limit's error it is their first bytes up to the limit; if memory is refused, it is as it was; a pen that failed
-- before stays as it is
pub record Flushed (before after : Page) (answer : Result (Unit {0}) yaml_error_t) : Type 0 where
  pub answered : answer ≡ result_of_error after.error
  pub kept : after ≡ record before { output = after.output; error = after.error }
  pub output : IsPrefix before.output after.output
  pub sound_output : IsFlushedOutput (encoded after) after.output after.limit after.error
  pub all : after.error ≡ None → (before.error ≡ None) × (after.output ≡ encoded after)
  pub nothing : before.error ≡ None → after.error ≡ Some Memory → after.output ≡ before.output
  pub stopped : IsSome before.error → after ≡ before
