-- The bodies of every accepted list's layout are tidy.
use Rattle.yaml_base.proofs.Common.{suc, ℕ, ◌≤◌, unwrap_or, Option, not, true, List, [], ◌∷◌, refl, ◌≡◌, ap, arith, and_from, list_all, Text, is_printable}
use Rattle.yaml_base.proofs.Common.{Cursor, ScalarStyle, any_style, plain, single_quoted, double_quoted, literal, folded, Event, render_body, charset_of}
use Rattle.yaml_base.proofs.Common.{body_at, Place, deeper, Effective, effective, BodyIsTidy, BodiesAreTidy, has_deep_lines, is_tidy_style, is_special}
use Rattle.yaml_base.proofs.Common.{is_tidy_character, list_any, false, Bool}
use Rattle.yaml_emitter.proofs.layouts.{Meaning.list_holds, Meaning.is_indent, MeaningStyles.AllowsUnder}
use Rattle.yaml_emitter.proofs.layouts.MeaningBodies.{IsIndent, plain_context, charset_by_breaks, allows_still}
use Rattle.yaml_emitter.proofs.layouts.RawTexts.{special_bodies, raw_bodies, is_special_raw, raw_shown, lacks_fewer, all_meet, special_printable}
use Rattle.yaml_scalar.proofs.{TidyBlocks.literal_deep, TidyBlocks.folded_deep, TidyLines.single_even, TidyLines.plain_even, TidyLines.plain_edges}
use Rattle.yaml_scalar.proofs.{TidyQuoted.double_even}

-- one column deeper than the entries around a scalar
abbrev depth_of : Option ℕ → ℕ
depth_of column = suc (unwrap_or column 0)

module _ (s : Effective) (is : IsIndent s.indent) (place : Place) where
  -- a scalar's indentation is that deep
  enough : depth_of place.column ≤ deeper s.indent place.column
  enough = omega (arith, is.low)

  -- if no character is special, all meet a test that such characters meet
  all_shown : (test : ℕ → Bool) → ((c : ℕ) → is_printable c ≡ true → test c ≡ true) → (text : Text) → list_any (is_special (charset_of s)) text ≡ false
      → list_all test text ≡ true
  all_shown test printable text h =
      all_meet test text
      (lacks_fewer (is_special (charset_of s)) (λ c. not (test c)) (λ c e. ap not (printable c (special_printable (charset_of s) c e))) text h)

  -- a body's characters are those of its style
  shown : (style : ScalarStyle) (limit : Option ℕ) (value : Text) (cursor : Cursor) → AllowsUnder s place.in_flow value style
      → list_all (is_tidy_character style) (render_body style s limit (deeper s.indent place.column) value cursor).text ≡ true
  shown any_style limit value cursor allowed = absurd allowed
  shown plain limit value cursor allowed =
      all_shown (is_tidy_character plain) (λ c e. e) (render_body plain s limit (deeper s.indent place.column) value cursor).text
      (special_bodies s is place limit value cursor plain refl allowed)
  shown single_quoted limit value cursor allowed =
      all_shown (is_tidy_character single_quoted) (λ c e. e) (render_body single_quoted s limit (deeper s.indent place.column) value cursor).text
      (special_bodies s is place limit value cursor single_quoted refl allowed)
  shown double_quoted limit value cursor allowed =
      all_shown (is_tidy_character double_quoted) (λ c e. e) (render_body double_quoted s limit (deeper s.indent place.column) value cursor).text
      (special_bodies s is place limit value cursor double_quoted refl allowed)
  shown folded limit value cursor allowed =
      all_shown (is_tidy_character folded) (λ c e. e) (render_body folded s limit (deeper s.indent place.column) value cursor).text
      (special_bodies s is place limit value cursor folded refl allowed)
  shown literal limit value cursor allowed =
      let text = (render_body literal s limit (deeper s.indent place.column) value cursor).text in
      all_meet (is_tidy_character literal) text
      (lacks_fewer (is_special_raw s.literal_blanks (charset_of s)) (λ c. not (is_tidy_character literal c))
      (λ c e. ap not (raw_shown s.literal_blanks (charset_of s) c e)) text
      (raw_bodies s is place limit value cursor literal allowed))

  -- the other conditions of a tidy body
  record KeepsTo (style : ScalarStyle) (text : Text) : Type 0 where
    pub deep : has_deep_lines s.breaks12 (depth_of place.column) text ≡ true
    pub tidy : is_tidy_style style s.breaks12 text ≡ true

  -- so does a body that a value allows
  keeps_to : (style : ScalarStyle) (limit : Option ℕ) (value : Text) (cursor : Cursor) → AllowsUnder s place.in_flow value style
      → KeepsTo style (render_body style s limit (deeper s.indent place.column) value cursor).text
  keeps_to any_style limit value cursor allowed = absurd allowed
  keeps_to plain limit value cursor allowed =
      let context = plain_context (charset_by_breaks s) place.in_flow value (allows_still s place.in_flow value plain allowed) in
      let even = plain_even (charset_by_breaks s) place.in_flow (depth_of place.column) limit (deeper s.indent place.column) value cursor enough context in
      let edges = plain_edges (charset_by_breaks s) place.in_flow limit (deeper s.indent place.column) value cursor context in
      record { deep = even.deep; tidy = and_from _ _ even.even edges }
  keeps_to single_quoted limit value cursor allowed =
      let even = single_even (charset_by_breaks s) (depth_of place.column) limit (deeper s.indent place.column) value cursor enough
      (allows_still s place.in_flow value single_quoted allowed) in
      record { deep = even.deep; tidy = even.even }
  keeps_to double_quoted limit value cursor allowed =
      let even = double_even s.breaks12 s.unicode (depth_of place.column) limit (deeper s.indent place.column) value cursor enough in
      record { deep = even.deep; tidy = even.even }
  keeps_to literal limit value cursor allowed = record {
    deep = literal_deep (charset_by_breaks s) (depth_of place.column) (deeper s.indent place.column) s.indent value cursor enough is.high
        (allows_still s place.in_flow value literal allowed);
    tidy = refl;
  }
  keeps_to folded limit value cursor allowed = record {
    deep = folded_deep (charset_by_breaks s) (depth_of place.column) limit (deeper s.indent place.column) s.indent value cursor enough is.high
        (allows_still s place.in_flow value folded allowed);
    tidy = refl;
  }

  -- a body that a value allows is tidy
  pub body_tidy : (style : ScalarStyle) (limit : Option ℕ) (value : Text) (cursor : Cursor) → AllowsUnder s place.in_flow value style
      → BodyIsTidy s (body_at place style value (render_body style s limit (deeper s.indent place.column) value cursor))
  body_tidy style limit value cursor allowed =
      let keeps = keeps_to style limit value cursor allowed in
      and_from _ _ (and_from _ _ (shown style limit value cursor allowed) keeps.deep) keeps.tidy

-- whatever the events hold
all_good : (events : List Event) → list_all (λ (event : Event). true) events ≡ true
all_good [] = refl
all_good (event ∷ rest) = all_good rest

-- The bodies of every accepted list are tidy.
pub bodies_are_tidy : BodiesAreTidy
bodies_are_tidy given encoding events accepted =
    let s = effective given encoding in
    let is = is_indent given.indent in
    list_holds s (BodyIsTidy s) (λ (event : Event). true)
    (λ place style limit content cursor good allowed. body_tidy s is place style limit content.value cursor allowed)
    given.canonical events accepted (all_good events)
