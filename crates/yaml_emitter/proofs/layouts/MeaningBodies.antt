-- A body in a layout reads as its value.
use Rattle.yaml_emitter.proofs.Common.{ℕ, ◌≤◌, Option, None, Some, Bool, false, true, refl, ◌≡◌, arith, all_scalars, Text, Cursor, ScalarStyle, any_style}
use Rattle.yaml_emitter.proofs.Common.{plain, single_quoted, double_quoted, literal, folded, render_body, body_at, Place, deeper, BodyMeans}
use Rattle.yaml_emitter.proofs.Common.{Effective, Charset, allows_plain, allowances}
use Rattle.yaml_base.{proofs.Charsets.plain_still, proofs.Charsets.single_still, proofs.Charsets.block_still, proofs.Charsets.literal_still}
use Rattle.yaml_base.{proofs.Common.allows_literal, specs.scalars.BlockHeader.Encloses}
use Rattle.yaml_emitter.proofs.layouts.MeaningStyles.{Allows, AllowsUnder}
use Rattle.yaml_scalar.proofs.{DoubleReads.double-reads, DoubleReads.double-indented, PlainReads.plain-reads, PlainReads.plain-indented}
use Rattle.yaml_scalar.proofs.{SingleReads.single-reads, SingleReads.single-indented, blocks.BlockLines.literal-kept, blocks.BlockLines.folded-kept}

-- an indent that settings come to
pub record IsIndent (indent : ℕ) : Type 0 where
  pub low : 2 ≤ indent
  pub high : indent ≤ 9

-- a scalar is indented from the entries around it by the indent
encloses : (indent : ℕ) (column : Option ℕ) → Encloses (deeper indent column) indent column
encloses indent None = omega arith
encloses indent (Some column) = refl

pub plain_context : (charset : Charset) (flow : Bool) (value : Text)
    → Allows (allowances charset value) flow plain → allows_plain charset flow value ≡ true
plain_context charset true value h = h
plain_context charset false value h = h

-- true for a character that may be unescaped, by the line breaks alone
abbrev pub charset_by_breaks : Effective → Charset
charset_by_breaks s = record { unicode = s.unicode; breaks12 = s.breaks12 }

-- the condition of a style on a value, by the line breaks alone
abbrev pub AllowsByBreaks : Effective → (flow : Bool) → Text → ScalarStyle → Type 0
AllowsByBreaks s flow value literal = allows_literal (charset_by_breaks s) value ≡ true
AllowsByBreaks s flow value style = Allows (allowances (charset_by_breaks s) value) flow style

-- a style that a value allows, it allows so too
pub allows_still : (s : Effective) (flow : Bool) (value : Text) (style : ScalarStyle) → AllowsUnder s flow value style → AllowsByBreaks s flow value style
allows_still s true value plain h = plain_still s.unicode s.breaks12 s.portable true value h
allows_still s false value plain h = plain_still s.unicode s.breaks12 s.portable false value h
allows_still s flow value single_quoted h = single_still s.unicode s.breaks12 s.portable value h
allows_still s flow value literal h = literal_still s.unicode s.breaks12 s.portable value h.literal
allows_still s flow value folded h = block_still s.unicode s.breaks12 s.portable value h
allows_still s flow value _ h = h

pub body_means : (s : Effective) (place : Place) (style : ScalarStyle) (limit : Option ℕ) (value : Text) (cursor : Cursor)
    → IsIndent s.indent → all_scalars value ≡ true → AllowsUnder s place.in_flow value style
    → BodyMeans s (body_at place style value (render_body style s limit (deeper s.indent place.column) value cursor))
body_means s place any_style limit value cursor is scalars h = absurd h
body_means s place plain limit value cursor is scalars h =
    let low : 2 ≤ deeper s.indent place.column = omega (arith, is.low) in
    let allowed = plain_context (charset_by_breaks s) place.in_flow value (allows_still s place.in_flow value plain h) in
    record {
      reads = plain-reads (charset_by_breaks s) place.in_flow limit (deeper s.indent place.column) value cursor s.line_break allowed;
      indented = plain-indented limit (deeper s.indent place.column) value cursor s.line_break low;
    }
body_means s place single_quoted limit value cursor is scalars h =
    let low : 2 ≤ deeper s.indent place.column = omega (arith, is.low) in
    record {
      reads = single-reads (charset_by_breaks s) limit (deeper s.indent place.column) value cursor s.line_break
          (allows_still s place.in_flow value single_quoted h);
      indented = single-indented limit (deeper s.indent place.column) value cursor s.line_break low;
    }
body_means s place double_quoted limit value cursor is scalars h =
    let low : 2 ≤ deeper s.indent place.column = omega (arith, is.low) in
    record {
      reads = double-reads s.breaks12 s.unicode limit (deeper s.indent place.column) value cursor s.line_break low scalars;
      indented = double-indented s.unicode limit (deeper s.indent place.column) value cursor s.line_break low scalars;
    }
body_means s place literal limit value cursor is scalars h =
    let above : s.indent ≤ deeper s.indent place.column = omega arith in
    let allowed = allows_still s place.in_flow value literal h in
    let kept = literal-kept (charset_by_breaks s) value allowed (deeper s.indent place.column) s.indent is.low is.high above cursor place.column
    (encloses s.indent place.column) s.line_break in
    record { reads = kept.reads; indented = kept.indented }
body_means s place folded limit value cursor is scalars h =
    let above : s.indent ≤ deeper s.indent place.column = omega arith in
    let allowed = allows_still s place.in_flow value folded h in
    let kept = folded-kept (charset_by_breaks s) value allowed (deeper s.indent place.column) s.indent is.low is.high above cursor limit place.column
    (encloses s.indent place.column) s.line_break in
    record { reads = kept.reads; indented = kept.indented }
