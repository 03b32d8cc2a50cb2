-- Copies of an ASCII character that is no break, line feeds, and LF before spaces.
use Rattle.yaml_pen.proofs.Common.{suc, zero, ℕ, ◌-◌, ◌<◌, ◌≤◌, replicate, false, ◌++◌, ◌∷◌, refl, ◌≡◌, ap, sym, ◌∙◌, arith, list_any, IsAscii, line_feed, space}
use Rattle.yaml_pen.proofs.Common.{is_break, column_after, render_text, with_breaks_written, LineBreak, line_feed_break, Page}
use Rattle.std.proofs.lemmas.{List.Elements.All-replicate, List.replicate-append-replicate, Str.Ascii.IsAscii-from_all}
use Rattle.yaml_pen.proofs.Writing.{Names, unbroken-written}

-- each is below 128
pub copies_ascii : (count character : ℕ) → character < 128 → IsAscii (replicate count character)
copies_ascii count character is = IsAscii-from_all (replicate count character) (All-replicate (λ b. b < 128) count character is)

-- none is a break
pub copies_unbroken : (count character : ℕ) → is_break character ≡ false → list_any is_break (replicate count character) ≡ false
copies_unbroken zero character is = refl
copies_unbroken (suc count) character is = grind (arith, is, copies_unbroken count character is)

-- a part of them, and the others
pub copies_split : (count part character : ℕ) → part ≤ count
    → replicate count character ≡ replicate part character ++ replicate (count - part) character
copies_split count part character le = sym (replicate-append-replicate part (count - part) character ∙ ap (λ n. replicate n character) (omega arith))

-- LF and spaces are ASCII, and stay as they are if LF does
pub line_start_ascii : (count : ℕ) → IsAscii (line_feed ∷ replicate count space)
line_start_ascii count zero = omega arith
line_start_ascii count (suc i) = copies_ascii count space (omega arith) i

pub line_start_names : (count : ℕ) (page : Page) → page.line_break ≡ line_feed_break
    → Names (line_feed ∷ replicate count space) (render_text (line_feed ∷ replicate count space)) page
line_start_names count page is =
    record {
      text = ap (λ (b : LineBreak). with_breaks_written b (line_feed ∷ replicate count space)) is
          ∙ ap (λ l. line_feed ∷ l) (unbroken-written line_feed_break (replicate count space) (copies_unbroken count space refl));
      cursor = refl;
    }

-- line feeds stay as they are if LF does, and end at column 0
line_feeds_written : (count : ℕ) → with_breaks_written line_feed_break (replicate count line_feed) ≡ replicate count line_feed
line_feeds_written zero = refl
line_feeds_written (suc count) = ap (λ l. line_feed ∷ l) (line_feeds_written count)

pub line_feeds_names : (count : ℕ) (page : Page) → page.line_break ≡ line_feed_break
    → Names (replicate count line_feed) (render_text (replicate count line_feed)) page
line_feeds_names count page is =
    record { text = ap (λ (b : LineBreak). with_breaks_written b (replicate count line_feed)) is ∙ line_feeds_written count; cursor = refl }

line_feeds_from_start : (count : ℕ) → column_after (replicate count line_feed) 0 ≡ 0
line_feeds_from_start zero = refl
line_feeds_from_start (suc count) = line_feeds_from_start count

pub line_feeds_column : (count column : ℕ) → 0 < count → column_after (replicate count line_feed) column ≡ 0
line_feeds_column zero column some = absurd (omega (arith, some))
line_feeds_column (suc count) column some = line_feeds_from_start count
