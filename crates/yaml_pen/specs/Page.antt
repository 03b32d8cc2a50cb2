-- Pens as contracts see them.
use Rattle.std.specs.Prelude.{◌≡◌, ℕ, ℤ, pos, negsuc, ◌<◌, ◌≤◌, ◌⊎◌, Bool, true, false, Option, None, Some, Result, Ok, Err, List, [], IsSome, length, drop}
use Rattle.std.specs.Prelude.{if◌then◌else◌}
use Rattle.yaml_base.specs.Characters.{Text}
use Rattle.yaml_base.specs.Settings.{Encoding, utf8, LineBreak, line_feed_break}
use Rattle.yaml_base.specs.Cursor.{Cursor, first_cursor}
use Rattle.yaml_base.specs.Encoding.{encode, cut}
use Rattle.yaml_base.specs.declared.errors.yaml_error_t.{yaml_error_t}
use Rattle.yaml_base.specs.declared.errors.yaml_error_t.TheVariants.{WriteError, Memory}

-- the maximum number of bytes that the buffer holds before they are flushed
abbrev pub buffer_size : ℕ
buffer_size = 16384

-- the settings (no encoding before the stream is begun), whether the byte order mark still has to be written, the text
-- so far without the byte order mark, the cursor after it (its column unbounded), the flushed bytes, the number of
-- them, from the first on, that the caller has taken, and the first error
pub record Page : Type 0 where
  pub encoding : Option Encoding
  pub bom_due : Bool
  pub line_break : LineBreak
  pub limit : ℕ
  pub text : Text
  pub cursor : Cursor
  pub output : List ℕ
  pub taken : ℕ
  pub error : Option yaml_error_t

-- the bytes of the text so far
abbrev pub encoded : Page → List ℕ
encoded page = encode page.encoding page.text

-- the output that the caller hasn't taken
abbrev pub output_left : Page → List ℕ
output_left page = drop page.taken page.output

-- a page with its output all taken
abbrev pub all_taken : Page → Page
all_taken page = record page { taken = length page.output }

-- true of the encodings that begin with a byte order mark: UTF-16
abbrev pub has_bom : Option Encoding → Bool
has_bom None = false
has_bom (Some utf8) = false
has_bom (Some _) = true

-- the bytes written so far; none before the byte order mark
abbrev pub written_bytes : Page → List ℕ
written_bytes page = if page.bom_due then [] else encoded page

-- no byte is written and nothing failed
pub record IsUntouched (page : Page) : Type 0 where
  pub no_bytes : written_bytes page ≡ []
  pub no_error : page.error ≡ None

-- a pen that is begun, after the byte order mark that its encoding needs
pub record IsReady (page : Page) : Type 0 where
  pub begun : IsSome page.encoding
  pub bom_written : page.bom_due ≡ false

-- the result of a call by the pen's error
abbrev pub result_of_error : Option yaml_error_t → Result (Unit {0}) yaml_error_t
result_of_error None = Ok tt
result_of_error (Some error) = Err error

-- the flushed part of these bytes: a prefix within the limit; after the limit was passed, all that it leaves; a pen
-- fails by its limit and by memory alone
pub record IsFlushedOutput (bytes : List ℕ) (output : List ℕ) (limit : ℕ) (error : Option yaml_error_t) : Type 0 where
  pub prefix : output ≡ cut (length output) bytes
  pub within : length output ≤ limit
  pub full : error ≡ Some WriteError → (limit < length bytes) × (output ≡ cut limit bytes)
  pub named : (error ≡ None) ⊎ (error ≡ Some WriteError) ⊎ (error ≡ Some Memory)

-- a pen that was made with this limit
abbrev pub new_page : ℕ → Page
new_page limit =
    record {
      encoding = None;
      bom_due = false;
      line_break = line_feed_break;
      limit = limit;
      text = [];
      cursor = first_cursor;
      output = [];
      taken = 0;
      error = None;
    }

-- true of a number that isn't negative
abbrev pub natural : ℤ → ℕ
natural (pos n) = n
natural (negsuc _) = 0
