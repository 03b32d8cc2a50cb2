-- The lines of plain and single-quoted scalars character by character, as they are written.
use Rattle.std.specs.Prelude.{ℕ, Bool, true, false, Option, [], ◌∷◌, ◌++◌, ◌==◌, ◌||◌, ◌&&◌, not, if◌then◌else◌}
use Rattle.yaml_base.specs.scalars.Analysis.{is_empty}
use Rattle.yaml_base.specs.Characters.{Text, line_feed}
use Rattle.yaml_base.specs.declared.scalars.CharacterKind.{CharacterKind}
use Rattle.yaml_base.specs.declared.scalars.CharacterKind.TheVariants.{Space, Break, Other}
use Rattle.yaml_base.specs.Cursor.{Cursor, Rendered, is_past_width, render_nothing, render_text, render_then}
use Rattle.yaml_base.specs.scalars.Plain.{indentation, is_same_kind, kind_of}
use Rattle.yaml_base.specs.scalars.SingleQuoted.{quotes_doubled}

-- a text as it is written between quotes, or without them
abbrev pub written_as : (quoted : Bool) → Text → Text
written_as true text = quotes_doubled text
written_as false text = text

-- true if there is a first character, of this kind
abbrev pub begins_kind : CharacterKind → Text → Bool
begins_kind kind [] = false
begins_kind kind (c ∷ rest) = is_same_kind kind (kind_of c)

-- a character's text, by its kind, the kind of the character before it and the rest
abbrev pub step_text :
    (written : Text → Text) (folds : Bool) (indent : ℕ) (before kind : CharacterKind) (c : ℕ) (rest : Text) → Text
step_text written folds indent before Space c rest =
    if folds && not (is_same_kind before Space || (is_empty rest || begins_kind Space rest))
    then line_feed ∷ indentation indent
    else c ∷ []
step_text written folds indent before Break c rest =
    (if c == line_feed && not (is_same_kind before Break) then line_feed ∷ [] else [])
    ++ (c ∷ (if begins_kind Break rest then [] else indentation indent))
step_text written folds indent before Other c rest = written (c ∷ [])

-- the text of one character of a value, by the kind before it and the rest
abbrev pub render_line_step :
    (written : Text → Text) (limit : Option ℕ) (indent : ℕ) (before : CharacterKind) (c : ℕ) (rest : Text) → Cursor → Rendered
render_line_step written limit indent before c rest cursor =
    render_text (step_text written (is_past_width limit cursor) indent before (kind_of c) c rest) cursor

-- the text of a value from some character on; its start counts as if a space preceded it
abbrev pub render_steps :
    (written : Text → Text) (limit : Option ℕ) (indent : ℕ) (before : CharacterKind) → Text → Cursor → Rendered
render_steps written limit indent before [] cursor = render_nothing cursor
render_steps written limit indent before (c ∷ rest) cursor =
    render_then (render_line_step written limit indent before c rest cursor) (render_steps written limit indent (kind_of c) rest)
