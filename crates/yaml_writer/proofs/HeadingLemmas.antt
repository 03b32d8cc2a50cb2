-- Headings are passed over; and they are written character by character.
use Rattle.yaml_writer.proofs.Common.{ℕ, ◌==◌, if◌then◌else◌, codes, None, Bool, false, not, true, ◌&&◌, ◌||◌, List, [], ◌++◌, ◌∷◌, refl, ◌≡◌}
use Rattle.yaml_writer.proofs.Common.{and_from, append_assoc, ap, arith, eqb-true, list_all, list_all-append, sym, ◌∙◌, encode_utf8_all, Text}
use Rattle.std.specs.Prelude.{Some, IsUtf8, chars, encode_utf8, option_and_then}
use Rattle.std.proofs.lemmas.Str.{IsUtf8-append, chars-append, chars_from_encodes, encodes-append, encodes-chars, scalars-chars}
use Rattle.yaml_base.proofs.{AllPass.all_pass, BreakLaws.rendered-cons, Decoding.text_bytes-utf8, stream_lines.StreamBytes.is_shown}
use Rattle.yaml_base.proofs.{Common.and-false, Common.documents_of, Common.nat_tests, Common.literal, stream_lines.StreamBytes.tidy_rendered}
use Rattle.yaml_base.specs.Settings.{utf8}
use Rattle.yaml_base.specs.LineBreaks.{is_read_break, is_rendered_text, with_line_breaks_read}
use Rattle.yaml_base.specs.reading.ReadBytes.{characters_read}
use Rattle.yaml_base.specs.streams.StreamReader.{after_comments, may_stand_raw, text_trees, without_heading}
use Rattle.yaml_base.specs.Characters.{is_break, is_printable, line_feed, space, tab}
use Rattle.yaml_emitter.proofs.canonical.CanonicalBytes.{characters_back}
use Rattle.yaml_writer.specs.Headings.{HeadingsArePassedOver, comment_end, comment_lines, comment_start, commented, commented_bytes, in_comment, spot_after}
use Rattle.yaml_writer.specs.declared.headings.LineSpot.{LineSpot}
use Rattle.yaml_writer.specs.declared.headings.LineSpot.TheVariants.{Start, Within}

-- ---- the lines that were written are passed over

-- A character of a comment breaks its line if it is LF.
breaks_alike : (breaks12 : Bool) (c : ℕ) → is_read_break breaks12 (in_comment c) ≡ (c == line_feed)
breaks_alike breaks12 c = grind (arith, nat_tests)

abbrev is_within : LineSpot → Bool
is_within Start = false
is_within Within = true

within_after : (feed : Bool) → is_within (if feed then Start else Within) ≡ not feed
within_after true = refl
within_after false = refl

line : (breaks12 : Bool) (x : ℕ) (feed : Bool) (behind : Text) → is_read_break breaks12 x ≡ feed
    → after_comments breaks12 true (x ∷ behind) ≡ after_comments breaks12 (not feed) behind
line breaks12 x feed behind is = ap (λ (b : Bool). after_comments breaks12 (not b) behind) is

first_line : (breaks12 : Bool) (x : ℕ) (feed : Bool) (behind : Text) → is_read_break breaks12 x ≡ feed
    → after_comments breaks12 false ((if feed then codes "#" else codes "# ") ++ x ∷ behind) ≡ after_comments breaks12 (not feed) behind
first_line true x true behind is = line true x true behind is
first_line true x false behind is = line true x false behind is
first_line false x true behind is = line false x true behind is
first_line false x false behind is = line false x false behind is

passes : (breaks12 : Bool) (heading : Text) (spot : LineSpot) (text : Text)
    → after_comments breaks12 (is_within spot) (commented spot heading ++ text) ≡ without_heading breaks12 text
passes breaks12 [] Start text = refl
passes breaks12 [] Within text = refl
passes breaks12 (c ∷ rest) Start text =
    ap (without_heading breaks12) (append_assoc (comment_start Start c) (in_comment c ∷ commented (spot_after c) rest) text)
    ∙ first_line breaks12 (in_comment c) (c == line_feed) (commented (spot_after c) rest ++ text) (breaks_alike breaks12 c)
    ∙ ap (λ (w : Bool). after_comments breaks12 w (commented (spot_after c) rest ++ text)) (sym (within_after (c == line_feed)))
    ∙ passes breaks12 rest (spot_after c) text
passes breaks12 (c ∷ rest) Within text =
    line breaks12 (in_comment c) (c == line_feed) (commented (spot_after c) rest ++ text) (breaks_alike breaks12 c)
    ∙ ap (λ (w : Bool). after_comments breaks12 w (commented (spot_after c) rest ++ text)) (sym (within_after (c == line_feed)))
    ∙ passes breaks12 rest (spot_after c) text

-- ---- each is a character of streams, and each of their breaks is LF

shown_by : (c : ℕ) (feed printable broken : Bool) → (c == line_feed) ≡ feed → is_printable c ≡ printable
    → is_shown (if feed || (printable && not broken) then c else space) ≡ true
shown_by c true printable broken feeds prints = ap is_shown (eqb-true c line_feed feeds)
shown_by c false true false feeds prints = ap (λ (b : Bool). b || c == tab) prints
shown_by c false _ _ feeds prints = refl

character_shown : (c : ℕ) → is_shown (in_comment c) ≡ true
character_shown c = shown_by c (c == line_feed) (is_printable c) (is_break c) refl refl

start_shown : (feed : Bool) (rest : Text) → list_all is_shown ((if feed then codes "#" else codes "# ") ++ rest) ≡ list_all is_shown rest
start_shown true rest = refl
start_shown false rest = refl

shown : (heading : Text) (spot : LineSpot) → list_all is_shown (commented spot heading) ≡ true
shown [] Start = refl
shown [] Within = refl
shown (c ∷ rest) Start =
    start_shown (c == line_feed) (in_comment c ∷ commented (spot_after c) rest) ∙ and_from _ _ (character_shown c) (shown rest (spot_after c))
shown (c ∷ rest) Within = and_from _ _ (character_shown c) (shown rest (spot_after c))

shown_raw : (c : ℕ) → is_shown c ≡ true → may_stand_raw c ≡ true
shown_raw c is = grind (arith, nat_tests)

raw_behind : (lines text : Text) → list_all is_shown lines ≡ true → list_all may_stand_raw (lines ++ text) ≡ list_all may_stand_raw text
raw_behind lines text is =
    list_all-append may_stand_raw lines text
    ∙ ap (λ (raw : Bool). raw && list_all may_stand_raw text) (all_pass is_shown may_stand_raw shown_raw lines is)

-- reading line breaks leaves a rendered text before another
breaks_read_behind : (lines text : Text) → is_rendered_text lines ≡ true → with_line_breaks_read (lines ++ text) ≡ lines ++ with_line_breaks_read text
breaks_read_behind [] text is = refl
breaks_read_behind (c ∷ rest) text is =
    let parts = rendered-cons c rest is in
    grind (arith, nat_tests, and-false, breaks_read_behind rest text parts.2)

-- ---- so a stream after them is read as by itself

trees_behind : (breaks12 : Bool) (heading text : Text) → text_trees breaks12 (comment_lines heading ++ text) ≡ text_trees breaks12 text
trees_behind breaks12 heading text =
    let lines = comment_lines heading in
    let is = shown heading Start in
    let read = λ (raw : Bool) (t : Text). if raw then documents_of breaks12 (without_heading breaks12 t) else None in
    ap (λ (raw : Bool). read raw (with_line_breaks_read (lines ++ text))) (raw_behind lines text is)
    ∙ ap (read (list_all may_stand_raw text)) (breaks_read_behind lines text (tidy_rendered literal lines is))
    ∙ ap (λ (t : Text). if list_all may_stand_raw text then documents_of breaks12 t else None) (passes breaks12 heading Start (with_line_breaks_read text))

-- the characters of a stream in UTF-8
read_alone : (bytes : List ℕ) → IsUtf8 bytes → characters_read bytes ≡ Some (chars bytes)
read_alone bytes is =
    ap characters_read (sym (text_bytes-utf8 (chars bytes) ∙ encodes-chars bytes is)) ∙ characters_back utf8 (chars bytes) (scalars-chars bytes is)

-- The characters of a heading's bytes and of the bytes after it.
read_behind : (heading : Text) (bytes : List ℕ) → IsUtf8 (encode_utf8_all heading) → IsUtf8 bytes
    → characters_read (encode_utf8_all heading ++ bytes) ≡ Some (heading ++ chars bytes)
read_behind heading bytes first is =
    let lines = encode_utf8_all heading in
    read_alone (lines ++ bytes) (IsUtf8-append lines bytes first is)
    ∙ ap (λ (t : Text). Some t) (chars-append lines bytes first ∙ ap (λ (t : Text). t ++ chars bytes) (sym (chars_from_encodes heading lines first refl)))

pub headings_passed : HeadingsArePassedOver
headings_passed = record {
  passed = trees_behind;
  bytes = λ breaks12 heading bytes first is.
      ap (option_and_then (text_trees breaks12)) (read_behind (comment_lines heading) bytes first is)
      ∙ trees_behind breaks12 heading (chars bytes)
      ∙ sym (ap (option_and_then (text_trees breaks12)) (read_alone bytes is));
}

-- ---- written character by character

start_by : (feed : Bool) → encode_utf8_all (if feed then codes "#" else codes "# ") ≡ (if feed then codes "#" else codes "# ")
unfolding lib.Utf8.encode
start_by true = refl
start_by false = refl

start_bytes : (spot : LineSpot) (c : ℕ) → encode_utf8_all (comment_start spot c) ≡ comment_start spot c
start_bytes Start c = start_by (c == line_feed)
start_bytes Within c = refl

pub next_commented : (old new : List ℕ) (spot : LineSpot) (c : ℕ) (rest : Text) (all : List ℕ) → new ≡ old ++ commented_bytes spot c
    → old ++ encode_utf8_all (commented spot (c ∷ rest)) ≡ all → new ++ encode_utf8_all (commented (spot_after c) rest) ≡ all
next_commented old new spot c rest all pushed stood =
    let more = encode_utf8_all (commented (spot_after c) rest) in
    let split : encode_utf8_all (commented spot (c ∷ rest)) ≡ commented_bytes spot c ++ more =
    encodes-append (comment_start spot c) (in_comment c ∷ commented (spot_after c) rest)
    ∙ ap (λ (b : List ℕ). b ++ encode_utf8_all (in_comment c ∷ commented (spot_after c) rest)) (start_bytes spot c)
    ∙ sym (append_assoc (comment_start spot c) (encode_utf8 (in_comment c)) more) in
    ap (λ (b : List ℕ). b ++ more) pushed ∙ append_assoc old (commented_bytes spot c) more ∙ ap (λ (b : List ℕ). old ++ b) (sym split) ∙ stood

pub last_commented : (old new : List ℕ) (spot : LineSpot) (all : List ℕ) → new ≡ old ++ comment_end spot
    → old ++ encode_utf8_all (commented spot []) ≡ all → new ≡ all
unfolding lib.Utf8.encode
last_commented old new Start all pushed stood = pushed ∙ stood
last_commented old new Within all pushed stood = pushed ∙ stood
