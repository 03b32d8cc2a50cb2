-- The pairs of a mapping in a block, if each of them fits: their lines split into one entry for a pair with a simple key and two for another, lie
-- inside the columns around, and read as their trees.
use Rattle.yaml_base.proofs.Common.{ℕ, ◌==◌, Some, codes, length, Bool, false, not, true, List, [], ◌++◌, ◌∷◌, refl, ◌≡◌, ap}
use Rattle.yaml_base.proofs.{stream_documents.StreamNoComment.no_key, stream_lines.StreamCuts.none_not_some}
use Rattle.yaml_base.proofs.Common.{sym, ◌∙◌, eqb-true, and_from, Text, space, Cursor, Rendered, indicator, TagDirective, Node, Pairs}
use Rattle.yaml_base.proofs.Common.{entry_place, as_key, as_value, Place, has_no_pairs, Effective, Tree, marker_of}
use Rattle.yaml_base.proofs.stream_lines.StreamClosed.{closed, indicator_cursor, margin_cursor, spaces_line, lines_behind}
use Rattle.yaml_base.{proofs.stream_lines.StreamSections.is_markerless, proofs.stream_nodes.StreamTexts.node_own}
use Rattle.yaml_base.{specs.streams.StreamNodes.kind_of_entry}
use Rattle.yaml_base.proofs.Common.{lines_of, ends_indicator, begins_with_indicator, spaces, key_of_line, simple_entry, Rules}
use Rattle.yaml_base.proofs.stream_lines.StreamLineLaws.{OneLine, unbroken_line}
use Rattle.yaml_base.proofs.stream_lines.StreamInside.{begins_entry}
use Rattle.yaml_base.proofs.stream_nodes.StreamFits.{Opens, Fits}

-- the effect of a simple key's text on the reader, before `:` and a text that an indicator opens: a line begins with it, no indicator of an entry
-- does, it is no marker, and it is cut off as the key
pub record KeyFits (rules : Rules) (text : Text) (tree : Tree) : Type 0 where
  pub first : ℕ
  pub tail : Text
  pub is : text ≡ first ∷ tail
  pub shows : (first == space) ≡ false
  pub one_line : OneLine rules.breaks12 text
  pub no_dash : (after : Text) → ends_indicator after ≡ true → begins_with_indicator 0x2D (text ++ (0x3A ∷ after)) ≡ false
  pub simple : (after : Text) → ends_indicator after ≡ true → kind_of_entry (text ++ (0x3A ∷ after)) ≡ simple_entry
  pub markerless : (after : Text) → ends_indicator after ≡ true → is_markerless (marker_of (text ++ (0x3A ∷ after))) ≡ true
  pub cut : (after : Text) → ends_indicator after ≡ true
      → key_of_line rules (text ++ (0x3A ∷ after)) ≡ Some (record { key = tree; length = length text; after = after })

-- the place of a key, and of a value
abbrev pub key_place : Pairs → ℕ → Place
key_place pairs e = entry_place false (as_key (has_no_pairs pairs)) e

abbrev pub value_place : (simple : Bool) → ℕ → Place
value_place simple e = entry_place false (as_value simple) e

-- the cursor after the `:` of a simple key
abbrev pub colon_cursor : Cursor → Cursor
colon_cursor cursor = (indicator (codes ":") false false false cursor).cursor

-- the rendered text of a simple key
abbrev pub simple_key : Pairs → Node → Effective → List TagDirective → ℕ → Rendered
simple_key pairs key s directives e = node_own key s directives (key_place pairs e) (margin_cursor e)

-- the cursor at which a key begins, and its value
abbrev pub key_cursor : (simple : Bool) → ℕ → Cursor
key_cursor true e = margin_cursor e
key_cursor false e = indicator_cursor e

abbrev pub value_cursor : (simple : Bool) → ℕ → (key : Rendered) → Cursor
value_cursor true e key = colon_cursor key.cursor
value_cursor false e key = indicator_cursor e

-- a pair from its column on and up to its line's end
abbrev pub pair_text : (simple : Bool) → ℕ → (key value : Rendered) → Text
pair_text true e key value = spaces e ++ (key.text ++ (0x3A ∷ closed value))
pair_text false e key value = (spaces e ++ (0x3F ∷ closed key)) ++ (spaces e ++ (0x3A ∷ closed value))

-- a key fits at its place, the first one or another
abbrev pub KeyFitsAt : (simple : Bool) → Rules → ℕ → (first : Bool) → (size : ℕ) → Rendered → Tree → Type 0
KeyFitsAt true rules e first size key tree = KeyFits rules key.text tree
KeyFitsAt false rules e first size key tree = Fits rules size key tree (entry_place false (as_key first) e) (indicator_cursor e)

-- a value fits after its key
abbrev pub ValueFits : (simple : Bool) → Rules → ℕ → (size : ℕ) → (key value : Rendered) → Tree → Type 0
ValueFits x rules e size key value tree = Fits rules size value tree (value_place x e) (value_cursor x e key)

-- the lines of a simple key and the text that its `:` opens
pub keyed_lines : (rules : Rules) (text t : Text) (tree : Tree) (e : ℕ) → KeyFits rules text tree → (o : Opens rules.breaks12 t)
    → lines_of rules.breaks12 (spaces e ++ (text ++ (0x3A ∷ t))) ≡ record { text = spaces e ++ (text ++ (0x3A ∷ o.head)); ending = o.ending } ∷ o.rest
keyed_lines rules text t tree e key o =
    lines_behind _ _ _ _ o.ending o.rest (spaces_line rules.breaks12 e) (lines_behind _ text _ _ o.ending o.rest key.one_line
    (lines_behind rules.breaks12 (0x3A ∷ []) t o.head o.ending o.rest (unbroken_line rules.breaks12 (0x3A ∷ []) refl) o.is))

-- no key begins with `#`
pub key_uncommented : (rules : Rules) (text : Text) (tree : Tree) (key : KeyFits rules text tree) → (key.first == 0x23) ≡ false
key_uncommented rules text tree key = by (key.first == 0x23) refl
  where
    by : (x : Bool) → (key.first == 0x23) ≡ x → x ≡ false
    by false e = refl
    by true e =
        absurd (none_not_some (sym (no_key rules [] (key.tail ++ (0x3A ∷ [])))
        ∙ ap (λ c. key_of_line rules (c ∷ (key.tail ++ (0x3A ∷ [])))) (sym (eqb-true key.first 0x23 e))
        ∙ ap (λ t. key_of_line rules (t ++ (0x3A ∷ []))) (sym key.is) ∙ key.cut [] refl))

-- a key begins an entry
pub keyed_begins : (rules : Rules) (text after : Text) (tree : Tree) → KeyFits rules text tree → ends_indicator after ≡ true
    → begins_entry false (text ++ (0x3A ∷ after)) ≡ true
keyed_begins rules text after tree key h =
    ap (λ t. begins_entry false (t ++ (0x3A ∷ after))) key.is
    ∙ and_from _ _ (ap not key.shows) (and_from _ _ (ap not (key_uncommented rules text tree key))
    (ap not (ap (λ t. begins_with_indicator 0x2D (t ++ (0x3A ∷ after))) (sym key.is) ∙ key.no_dash after h)))
