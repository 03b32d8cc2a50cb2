-- The style that is chosen for a scalar is one that its value allows at its place.
use Rattle.yaml_emitter.proofs.Common.{allowed_by_quotes, allowed_by_blanks, if◌then◌else◌, Bool, false, not, true, ◌&&◌, ◌||◌, refl, ◌≡◌, and_parts, any_style}
use Rattle.yaml_emitter.proofs.Common.{ScalarStyle, plain, single_quoted, double_quoted, literal, folded, Allowances, requested_style, quoted_style, fits_plain}
use Rattle.yaml_emitter.proofs.Common.{fitting_style, chosen, is_some, subst, sym, ◌∙◌, false≢true, Text, Scalar, scalar_tag, charset_of, style_asked_at, Place}
use Rattle.yaml_emitter.proofs.Common.{choice_of, Effective, is_empty, allowances, inl, inr}
use Rattle.yaml_base.proofs.{Charsets.literal_of_block, Common.allows_block, Common.allows_literal, Common.is_literal, Common.is_block, Common.true≢false}
use Rattle.yaml_base.proofs.Common.{◌⊎◌}
use Rattle.yaml_base.specs.{Places.is_root, scalars.BlockHeader.begins_blank}

-- the condition of a style on a value
abbrev pub Allows : Allowances → (flow : Bool) → ScalarStyle → Type 0
Allows allowed flow any_style = ⊥
Allows allowed flow plain = (if flow then allowed.flow_plain_allowed else allowed.block_plain_allowed) ≡ true
Allows allowed flow single_quoted = allowed.single_quoted_allowed ≡ true
Allows allowed flow double_quoted = Unit {0}
Allows allowed flow literal = allowed.block_allowed ≡ true
Allows allowed flow folded = allowed.block_allowed ≡ true

quoted_allowed : (allowed : Allowances) (flow : Bool) → Allows allowed flow (quoted_style allowed)
quoted_allowed allowed flow = go allowed.single_quoted_allowed refl
  where
    go : (b : Bool) → allowed.single_quoted_allowed ≡ b → Allows allowed flow (if b then single_quoted else double_quoted)
    go true e = e
    go false e = tt

block_allowed : (allowed : Allowances) (flow fits : Bool) (style : ScalarStyle) → (fits ≡ true → Allows allowed flow style)
    → Allows allowed flow (if fits then style else double_quoted)
block_allowed allowed flow true style h = h refl
block_allowed allowed flow false style h = tt

plain_allowed : (allowed : Allowances) (flow fits : Bool) → (fits ≡ true → Allows allowed flow plain)
    → Allows allowed flow (if fits then plain else quoted_style allowed)
plain_allowed allowed flow true h = h refl
plain_allowed allowed flow false h = quoted_allowed allowed flow

fitting_allowed : (allowed : Allowances) (flow plain_fits block_fits : Bool) (style : ScalarStyle)
    → (plain_fits ≡ true → Allows allowed flow plain) → (block_fits ≡ true → allowed.block_allowed ≡ true)
    → Allows allowed flow (fitting_style allowed plain_fits block_fits style)
fitting_allowed allowed flow plain_fits block_fits plain p b = plain_allowed allowed flow plain_fits p
fitting_allowed allowed flow plain_fits block_fits single_quoted p b = quoted_allowed allowed flow
fitting_allowed allowed flow plain_fits block_fits literal p b = block_allowed allowed flow block_fits literal b
fitting_allowed allowed flow plain_fits block_fits folded p b = block_allowed allowed flow block_fits folded b
fitting_allowed allowed flow plain_fits block_fits _ p b = tt

-- Plain is chosen only if the context allows it, the block styles only if the value does, and any never.
pub chosen_allowed : (allowed : Allowances) (asked : ScalarStyle) (empty tag_written plain_implicit quoted_implicit flow simple canonical : Bool)
    → Allows allowed flow (chosen allowed asked empty tag_written plain_implicit quoted_implicit flow simple canonical).style
chosen_allowed allowed asked empty tag_written plain_implicit quoted_implicit flow simple canonical =
    fitting_allowed allowed flow
    (fits_plain allowed empty tag_written plain_implicit flow simple)
    (allowed.block_allowed && not flow && not simple)
    (requested_style (canonical || (simple && allowed.multiline)) asked)
    (λ e. (and_parts _ _ (and_parts _ _ e).0).0)
    (λ e. (and_parts _ _ (and_parts _ _ e).0).0)

-- A value allows without single quotes at most the styles that it allows with them.
pub allowed_with_single : (double_quotes : Bool) (allowed : Allowances) (flow : Bool) (style : ScalarStyle)
    → Allows (allowed_by_quotes double_quotes allowed) flow style → Allows allowed flow style
allowed_with_single double_quotes allowed flow single_quoted h = (and_parts (not double_quotes) allowed.single_quoted_allowed h).1
allowed_with_single double_quotes allowed flow _ h = h

-- The styles that a scalar's value allows under settings

-- literal takes it if blanks are literal, and if they aren't, block styles do
pub record AllowsLiteral (s : Effective) (value : Text) : Type 0 where
  pub literal : allows_literal (charset_of s) value ≡ true
  pub block : s.literal_blanks ≡ false → allows_block (charset_of s) value ≡ true

-- the condition of a style on a value
abbrev pub AllowsUnder : Effective → (flow : Bool) → Text → ScalarStyle → Type 0
AllowsUnder s flow value literal = AllowsLiteral s value
AllowsUnder s flow value style = Allows (allowances (charset_of s) value) flow style

-- the condition of block styles
under_of : (s : Effective) (flow : Bool) (value : Text) (style : ScalarStyle) → Allows (allowances (charset_of s) value) flow style
    → AllowsUnder s flow value style
under_of s flow value literal h = record { literal = literal_of_block (charset_of s) value h; block = λ off. h }
under_of s flow value _ h = h

-- if literal is asked for, it is chosen only if it fits, or else double quotes are
module _ (s : Effective) (flow : Bool) (value : Text) (allowed : Allowances) (plain_fits : Bool) where
  asks_literal : (must fits : Bool) → (fits ≡ true → AllowsLiteral s value)
      → AllowsUnder s flow value (fitting_style allowed plain_fits fits (requested_style must literal))
  asks_literal false true h = h refl
  asks_literal _ _ h = tt

  asks_double : (must fits : Bool) → AllowsUnder s flow value (fitting_style allowed plain_fits fits (requested_style must double_quoted))
  asks_double true fits = tt
  asks_double false fits = tt

  literal_under : (must fits : Bool) (asked : ScalarStyle) → (asked ≡ literal) ⊎ (asked ≡ double_quoted) → (fits ≡ true → AllowsLiteral s value)
      → AllowsUnder s flow value (fitting_style allowed plain_fits fits (requested_style must asked))
  literal_under must fits asked (inl e) h =
      subst (λ (a : ScalarStyle). AllowsUnder s flow value (fitting_style allowed plain_fits fits (requested_style must a))) (sym e)
      (asks_literal must fits h)
  literal_under must fits asked (inr e) h =
      subst (λ (a : ScalarStyle). AllowsUnder s flow value (fitting_style allowed plain_fits fits (requested_style must a))) (sym e) (asks_double must fits)

-- a root that is to be no block scalar asks for double quotes
asked_literal : (root portable blank : Bool) (style : ScalarStyle) → is_literal style ≡ true
    → ((if is_block style && root && portable && blank then double_quoted else style) ≡ literal)
    ⊎ ((if is_block style && root && portable && blank then double_quoted else style) ≡ double_quoted)
asked_literal root portable blank literal is = by (root && portable && blank)
  where
    by : (x : Bool) → ((if x then double_quoted else literal) ≡ literal) ⊎ ((if x then double_quoted else literal) ≡ double_quoted)
    by true = inr refl
    by false = inl refl
asked_literal root portable blank any_style is = absurd (false≢true is)
asked_literal root portable blank plain is = absurd (false≢true is)
asked_literal root portable blank single_quoted is = absurd (false≢true is)
asked_literal root portable blank double_quoted is = absurd (false≢true is)
asked_literal root portable blank folded is = absurd (false≢true is)

-- the style that is chosen for a scalar at its place is one that its value allows there
pub choice_allowed : (s : Effective) (place : Place) (simple : Bool) (content : Scalar)
    → AllowsUnder s place.in_flow content.value (choice_of s place simple content).style
choice_allowed s place simple content = by (is_literal content.style && s.literal_blanks) refl
  where
    allowed : (blanks : Bool) → Allowances
    allowed blanks = allowed_by_quotes s.double_quotes (allowed_by_blanks blanks (charset_of s) content.value)

    asked : ScalarStyle
    asked = style_asked_at s place content

    tag : Bool
    tag = is_some (scalar_tag s.canonical content)

    style : (blanks : Bool) → ScalarStyle
    style blanks =
        (chosen (allowed blanks) asked (is_empty content.value) tag content.plain_implicit content.quoted_implicit place.in_flow simple s.canonical).style

    by : (x : Bool) → (is_literal content.style && s.literal_blanks) ≡ x → AllowsUnder s place.in_flow content.value (style x)
    by false e =
        under_of s place.in_flow content.value (style false)
        (allowed_with_single s.double_quotes (allowances (charset_of s) content.value) place.in_flow (style false)
        (chosen_allowed (allowed false) asked (is_empty content.value) tag content.plain_implicit content.quoted_implicit place.in_flow simple s.canonical))
    by true e =
        let both = and_parts (is_literal content.style) s.literal_blanks e in
        literal_under s place.in_flow content.value (allowed true)
        (fits_plain (allowed true) (is_empty content.value) tag content.plain_implicit place.in_flow simple)
        (s.canonical || (simple && (allowed true).multiline)) ((allowed true).block_allowed && not place.in_flow && not simple) asked
        (asked_literal (is_root place) s.portable (begins_blank content.value) content.style both.0)
        (λ fits. record {
          literal = (and_parts (allowed true).block_allowed (not place.in_flow)
              (and_parts ((allowed true).block_allowed && not place.in_flow) (not simple) fits).0).0;
          block = λ off. absurd (true≢false (sym both.1 ∙ off));
        })
