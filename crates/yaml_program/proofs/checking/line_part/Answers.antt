use Rattle.std.proofs.Common.{ℕ, List, ◌≡◌, Bool, true, false, IfSome, None, if◌then◌else◌, refl}
use Rattle.std.{specs.Char.is_ascii, specs.List.list_all, specs.Str.IsUtf8, proofs.lemmas.Str.IsUtf8-from_ascii}
use Rattle.yaml_base.{proofs.AsciiWords.ascii_of, specs.Quoting.quoted_text, specs.Quoting.quoted_ascii}
use Rattle.yaml_program.proofs.checking.line_part.Goals as goal

-- What isn't UTF-8 isn't ASCII, so its text in a message isn't known.
unknown : (line part : List ℕ) → (IsUtf8 line → ⊥) → IfSome (quoted_text line) (λ shown. part ≡ shown)
unknown line part not_utf8 = by (list_all is_ascii line) (λ all. not_utf8 (IsUtf8-from_ascii line (ascii_of line all)))
  where
    by : (b : Bool) → (b ≡ true → ⊥) → IfSome (if b then quoted_ascii line else None) (λ shown. part ≡ shown)
    by true never = absurd (never refl)
    by false never = tt

pub returns-in-Err-clause-shown : goal.returns-in-Err-clause-shown
returns-in-Err-clause-shown c kept = unknown c.args.line.now _ (c.in-Err.ensures.cases.0)
