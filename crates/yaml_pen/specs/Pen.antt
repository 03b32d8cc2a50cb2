-- The meaning of a pen's fields.
use Rattle.std.specs.Prelude.{◌≡◌, ℕ, Bool, true, None, List, unwrap_or, min}
use Rattle.std.specs.Str.{all_scalars}
use Rattle.yaml_base.specs.Cursor.{column_after}
use Rattle.yaml_base.specs.Settings.{line_feed_break}
use Rattle.yaml_base.specs.Seen.{seen_encoding, seen_break}
use Rattle.yaml_base.specs.declared.encodings.yaml_encoding_t.{yaml_encoding_t}
use Rattle.yaml_base.specs.declared.encodings.yaml_break_t.{yaml_break_t}
use Rattle.yaml_pen.specs.Page.{Page, IsFlushedOutput, written_bytes, has_bom}
use Rattle.yaml_pen.specs.Outlet.{OutletState}
use Rattle.yaml_base.specs.Decode.{decode}

-- the page of a pen's fields: the text is that of the bytes, and the column is that of the text
abbrev pub page_of : yaml_encoding_t → Bool → yaml_break_t → OutletState → Bool → Bool → Page
page_of encoding bom_due line_break bytes whitespace indention =
    let text = decode (seen_encoding encoding) bytes.all in
    record {
      encoding = seen_encoding encoding;
      bom_due = bom_due;
      line_break = unwrap_or (seen_break line_break) line_feed_break;
      limit = bytes.limit;
      text = text;
      cursor = record { column = column_after text 0; whitespace = whitespace; indention = indention };
      output = bytes.output;
      taken = bytes.taken;
      error = bytes.error;
    }

-- the bytes are those of the page's text, and the pen's column is the cursor's up to a bound; only UTF-16 has a byte
-- order mark, before which nothing failed
pub record IsPen (page : Page) (all : List ℕ) (stored : ℕ) : Type 0 where
  pub bytes : all ≡ written_bytes page
  pub scalars : all_scalars page.text ≡ true
  pub column : stored ≡ min page.cursor.column 4294967295
  pub sound_output : IsFlushedOutput all page.output page.limit page.error
  pub unfailed : page.bom_due ≡ true → page.error ≡ None
  pub marks : page.bom_due ≡ true → has_bom page.encoding ≡ true
