-- The view of the fields of a line, which are read one after another.
use Rattle.std.specs.Prelude.{ℕ, suc, ◌≡◌, ⊤, Option, None, Some, List, [], ◌∷◌, length, option_map, codes}
use Rattle.std.specs.Borrow.{Bor}
use Rattle.std.specs.List.{onto_first}
use Rattle.std.specs.Str.{chars, IsUtf8}
use Rattle.yaml_base.specs.Characters.{Text}
use Rattle.yaml_base.specs.scripts.Script as notation
use Rattle.yaml_base.specs.scripts.Script.{bare, quoted, outside, inside, escaped, pieces_from}
use Rattle.yaml_tool.specs.Cuts.{EndsIn, prefix_of}
use Rattle.yaml_tool.specs.declared.fields.FieldState.{FieldState}
use Rattle.yaml_tool.specs.declared.fields.FieldState.TheVariants.{Outside, Inside, Escaped}

-- the state at a character of a line
abbrev pub seen_field_state : FieldState → notation.FieldState
seen_field_state Outside = outside
seen_field_state Inside = inside
seen_field_state Escaped = escaped

-- the pieces with these characters before the first
abbrev pub prepend_to_first_piece : Text → List Text → List Text
prepend_to_first_piece [] pieces = pieces
prepend_to_first_piece (c ∷ prefix) pieces = onto_first c (prepend_to_first_piece prefix pieces)

-- the text ends with `end`, and no character before that separates fields or changes the state
pub record SkipsRunTo (standing : notation.FieldState) (text end : List ℕ) : Type 0 where
  pub ends : EndsIn text end
  pub is_end : IsUtf8 end
  pub run : pieces_from standing (chars text) ≡ prepend_to_first_piece (chars (prefix_of text end)) (pieces_from standing (chars end))

-- ---- the rest of a line

-- the fields after a field: none at the end of the line, or those after the separator
abbrev pub later_fields : Option (Bor (List ℕ)) → Option (List notation.Field)
later_fields None = Some []
later_fields (Some rest) = notation.fields_read (chars rest.now)

-- the length of the rest, with its separator
abbrev pub left_length : Option (Bor (List ℕ)) → ℕ
left_length None = 0
left_length (Some rest) = suc (length rest.now)

-- a field before others, if these have a meaning
abbrev pub prepend_field : notation.Field → Option (List notation.Field) → Option (List notation.Field)
prepend_field field fields = option_map (λ others. field ∷ others) fields

-- ---- the next field

-- there is a field, or the line has no meaning
abbrev pub FieldOrUnparsed : Option (List notation.Field) → Type 0
FieldOrUnparsed (Some []) = ⊥
FieldOrUnparsed _ = ⊤

-- there is no first field that is a word
abbrev pub HasNoWord : Option (List notation.Field) → Type 0
HasNoWord (Some (bare word ∷ rest)) = ⊥
HasNoWord _ = ⊤

-- there is no first field that is a text
abbrev pub HasNoText : Option (List notation.Field) → Type 0
HasNoText (Some (quoted text ∷ rest)) = ⊥
HasNoText _ = ⊤

-- the field that means no text
abbrev pub no_text : notation.Field
no_text = bare (codes "-")

-- the field of a text, or of none
abbrev pub field_of : Option Text → notation.Field
field_of None = no_text
field_of (Some text) = quoted text

-- there is no first field that is a text or means none
abbrev pub HasNoChoice : Option (List notation.Field) → Type 0
HasNoChoice (Some (field ∷ rest)) = notation.text_or_none field ≡ None
HasNoChoice _ = ⊤

-- the only field, if it is a word
abbrev pub only_word : List notation.Field → Option Text
only_word (bare word ∷ []) = Some word
only_word _ = None
