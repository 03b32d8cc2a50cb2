-- The texts of values in a part, and lines of such texts.
use Rattle.std.proofs.Common.{ℕ, Option, None, Some, List, [], ◌∷◌, ◌++◌, ◌≡◌, ap, sym, ◌∙◌, append_assoc, append-nil, subst, IfSome, codes, false, refl}
use Rattle.std.specs.{Fmt.WritesText, Fmt.InlineText.AppendsIfIntact, Fmt.InlineText.IsIntact, Fmt.InlineText.inline_text, List.FoldsTo, List.concat}
use Rattle.std.specs.{declared.fmt.InlineText.InlineText}
use Rattle.yaml_base.specs.{Quoting.quoted_text, declared.places.Position.Position}
use Rattle.yaml_program.specs.Messages.{IsNameLine, Tells, Told, failure_line, message_line, numbers_text}
use Rattle.yaml_program.specs.{declared.messages.Loss.Loss, declared.messages.Messages.Messages}

module _ {n : ℕ} where
  after_calls : (start : InlineText n) (texts : List (List ℕ)) (part : InlineText n) → FoldsTo AppendsIfIntact start texts part → IsIntact start
      → inline_text part ≡ inline_text start ++ concat texts
  after_calls start [] part is intact = ap inline_text (sym is) ∙ sym (append-nil (inline_text start))
  after_calls start (text ∷ texts) part (next, one, rest) intact =
      after_calls next texts part rest (one intact).0 ∙ ap (λ (l : List ℕ). l ++ concat texts) (one intact).1
      ∙ append_assoc (inline_text start) text (concat texts)

  -- A part that holds all of a value's text.
  pub part_shown : (output : Option (List ℕ)) (start part : InlineText n) → IsIntact start → inline_text start ≡ []
      → WritesText AppendsIfIntact start output part → IfSome output (λ shown. inline_text part ≡ shown)
  part_shown None start part intact empty writes = tt
  part_shown (Some shown) start part intact empty writes =
      after_calls start writes.parts part writes.calls intact ∙ ap (λ (l : List ℕ). l ++ concat writes.parts) empty ∙ writes.whole

-- A line of which a part may have been lost before it was told.
pub tells : {W : Type 0} (contents : W → Option (List ℕ)) (was now : Messages W) (loss : Loss) (line : List ℕ) (IsLine : List ℕ → Type 0)
    → (loss.is_some ≡ false → was.loss.is_some ≡ false) → (loss.is_some ≡ false → IsLine line) → Told contents (record was { loss = loss }) now line
    → Tells contents was now IsLine
tells contents was now loss line IsLine kept is_line told =
    record {
      line = line;
      is_line = λ whole. is_line (told.kept whole);
      told = record {
        words = told.words;
        ended = told.ended;
        kept = λ whole. kept (told.kept whole);
        whole = told.whole;
        first = told.first;
      };
    }

-- The line of a failure at a position, or without one.
module _ (program operation place reason : List ℕ) (at : Option Position) where
  pub placed_line : (shown numbers why : List ℕ) (position : Position) → at ≡ Some position → shown ≡ place → numbers ≡ numbers_text position
      → why ≡ reason → concat (shown ∷ numbers ∷ why ∷ codes "\n" ∷ []) ≡ failure_line program operation place reason at
  placed_line shown numbers why position is shows numbered says =
      subst (λ (p : Option Position). concat (shown ∷ numbers ∷ why ∷ codes "\n" ∷ []) ≡ failure_line program operation place reason p) (sym is)
      (rw (shows, numbered, says) refl)

  pub words_line : (doing shown why line : List ℕ) → at ≡ None → doing ≡ operation → shown ≡ place → why ≡ reason
      → line ≡ message_line program (doing ++ shown ++ codes ": " ++ why) → line ≡ failure_line program operation place reason at
  words_line doing shown why line none does shows says is =
      let same : message_line program (doing ++ shown ++ codes ": " ++ why) ≡ message_line program (operation ++ place ++ codes ": " ++ reason) =
      rw (does, shows, says) refl in
      subst (λ (p : Option Position). line ≡ failure_line program operation place reason p) (sym none) (is ∙ same)

-- A message about a file.
pub named_line : (program name second third part shown line : List ℕ) → IfSome (quoted_text name) (λ text. part ≡ text) → shown ≡ part
    → line ≡ message_line program (shown ++ second ++ third ++ []) → IsNameLine program name (second ++ third) line
named_line program name second third part shown line shows same is = (
  part,
  shows,
  is ∙ ap (message_line program)
      (append-nil (shown ++ second ++ third) ∙ append_assoc shown second third ∙ ap (λ (text : List ℕ). text ++ (second ++ third)) same),
)
