-- The layout of a plain scalar, and the lines that it shares with single quotes.
-- Source, unless a definition names its own: libyaml's emitter, in this project's steps.
use Rattle.std.specs.Prelude.{ℕ, Bool, true, false, Option, List, [], ◌∷◌, ◌++◌, ◌==◌, ◌||◌, ◌&&◌, not, replicate, if◌then◌else◌}
use Rattle.yaml_base.specs.Characters.{Text, is_break, is_space, line_feed, space}
use Rattle.yaml_base.specs.scalars.Analysis.{begins_with, is_empty}
use Rattle.yaml_base.specs.Cursor.{Cursor, Rendered, render_nothing, render_then, render_text, with_flags, space_if, is_past_width}
use Rattle.yaml_base.specs.declared.scalars.CharacterKind.{CharacterKind}
use Rattle.yaml_base.specs.declared.scalars.CharacterKind.TheVariants.{Space, Break, Other}

-- the kind of a character
abbrev pub kind_of : ℕ → CharacterKind
kind_of c = if is_space c then Space else if is_break c then Break else Other

-- true if two kinds are the same
abbrev pub is_same_kind : CharacterKind → CharacterKind → Bool
is_same_kind Space Space = true
is_same_kind Break Break = true
is_same_kind Other Other = true
is_same_kind _ _ = false

-- a longest stretch of characters of one kind
pub record Run : Type 0 where
  pub kind : CharacterKind
  pub text : Text

-- a character before runs: it joins the first of them if that is of its kind
abbrev pub cons_run : ℕ → List Run → List Run
cons_run c [] = record { kind = kind_of c; text = c ∷ [] } ∷ []
cons_run c (first ∷ more) =
    if is_same_kind (kind_of c) first.kind then record first { text = c ∷ first.text } ∷ more
    else record { kind = kind_of c; text = c ∷ [] } ∷ first ∷ more

-- a value cut into its runs of spaces, of breaks and of other characters
abbrev pub runs : Text → List Run
runs [] = []
runs (c ∷ rest) = cons_run c (runs rest)

-- true of a run of one character
abbrev pub is_single_character : Text → Bool
is_single_character (c ∷ []) = true
is_single_character _ = false

-- indentation is spaces (YAML 1.1, section 6.1 Indentation Spaces, s-indent(n))
abbrev pub indentation : ℕ → Text
indentation indent = replicate indent space

-- a run's text: a lone space past the limit, neither first nor last, becomes a break and the indentation; the first break of a run is
-- written twice if it is LF, and the indentation follows; other characters are written as they are (YAML 1.1, section 6.5 Line Folding,
-- b-l-folded-any(n,s); which space folds is libyaml's rule)
abbrev pub run_text : (written : Text → Text) (folds : Bool) (indent : ℕ) → CharacterKind → Text → Text
run_text written folds indent Space text =
    if folds && is_single_character text then line_feed ∷ indentation indent else text
run_text written folds indent Break text =
    (if begins_with (λ c. c == line_feed) text then line_feed ∷ [] else []) ++ (text ++ indentation indent)
run_text written folds indent Other text = written text

-- true if no run follows
abbrev pub is_last : List Run → Bool
is_last [] = true
is_last _ = false

-- runs one after another; no fold is at an edge
abbrev pub render_runs : (written : Text → Text) (limit : Option ℕ) (indent : ℕ) (edge : Bool) → List Run → Cursor → Rendered
render_runs written limit indent edge [] cursor = render_nothing cursor
render_runs written limit indent edge (run ∷ more) cursor =
    let folds = is_past_width limit cursor && not (edge || is_last more) in
    render_then (render_text (run_text written folds indent run.kind run.text) cursor) (render_runs written limit indent false more)

-- the body of a plain scalar, whose characters mean themselves (YAML 1.1, section 9.1.3 Plain, ns-plain(n,c))
abbrev pub plain_body : (limit : Option ℕ) (indent : ℕ) (value : Text) → Cursor → Rendered
plain_body limit indent value cursor =
    with_flags false false (render_runs (λ text. text) limit indent true (runs value) cursor)

-- a separating space if one is needed, and the body; the empty value needs none in a block
abbrev pub render_plain : (flow : Bool) (limit : Option ℕ) (indent : ℕ) (value : Text) → Cursor → Rendered
render_plain flow limit indent value cursor =
    render_then (render_text (space_if (flow || not (is_empty value)) cursor) cursor) (plain_body limit indent value)
