-- The layout of a single-quoted scalar; its folds are where `Plain` has them.
-- Source, unless a definition names its own: libyaml's emitter.
use Rattle.std.specs.Prelude.{ℕ, true, false, Option, [], ◌∷◌, ◌++◌, ◌==◌, codes, if◌then◌else◌}
use Rattle.yaml_base.specs.Characters.{Text}
use Rattle.yaml_base.specs.Cursor.{Cursor, Rendered, render_then, render_text, indicator, space_if}
use Rattle.yaml_base.specs.scalars.Plain.{runs, render_runs}

-- a text whose every `'` is written twice (YAML 1.1, section 9.1.2 Single Quoted, c-quoted-quote)
abbrev pub quotes_doubled : Text → Text
quotes_doubled [] = []
quotes_doubled (c ∷ rest) = (if c == 39 then 39 ∷ 39 ∷ [] else c ∷ []) ++ quotes_doubled rest

-- an opening or closing quote (YAML 1.1, section 5.3 Indicator Characters, c-single-quote)
abbrev pub single_quote : Cursor → Rendered
single_quote cursor = indicator (codes "'") false false false cursor

-- the value's lines between two quotes (YAML 1.1, section 9.1.2 Single Quoted, c-single-quoted(n,c))
abbrev pub single_quoted_body : (limit : Option ℕ) (indent : ℕ) (value : Text) → Cursor → Rendered
single_quoted_body limit indent value cursor =
    render_then (single_quote cursor) (λ after_quote.
    render_then (render_runs quotes_doubled limit indent true (runs value) after_quote) single_quote)

-- a separating space if one is needed, and the body
abbrev pub render_single_quoted : (limit : Option ℕ) (indent : ℕ) (value : Text) → Cursor → Rendered
render_single_quoted limit indent value cursor =
    render_then (render_text (space_if true cursor) cursor) (single_quoted_body limit indent value)
