-- The text of a node's events consists of Unicode scalar values, so its bytes are UTF-8.
use Rattle.yaml_read.proofs.Common.{ℕ, Bool, true, false, not, Option, None, Some, List, [], ◌∷◌, ◌++◌, refl, ◌≡◌, ap, sym, ◌∙◌, All, All-head, All-tail}
use Rattle.yaml_read.proofs.Common.{if◌then◌else◌, agree_below_at, arith, bytes_eq, codes, length, list_all, ltb-true, nat_lt, nat_tests, all_scalars, is_alpha}
use Rattle.yaml_read.proofs.Common.{line_feed, space, Text, percent_escaped, name_fault, spelled, verbatim, Event, spelling_by, behind, yaml_error_t}
use Rattle.yaml_read.proofs.Common.{anchor_text, tag_text, in_quotes, all_pass, escaped_stands, stands_written, IsUtf8, Pending}
use Rattle.yaml_read.proofs.Common.{item_awaited, key_awaited, value_awaited, BeginsNode, is_alias, is_scalar, is_sequence, is_mapping, IsInNode, begins_node}
use Rattle.yaml_read.proofs.Common.{HasRunText, root_ends, more_come, IsAnchor, closing_text, event_text, lead_text, outside, trail_text, AreRunBytes}
use lib.Utf8.{scalar}
use Rattle.yaml_base.{proofs.Common.suffix_escaped, proofs.Common.spelling, proofs.Common.string_tag, specs.Tags.default_directives}
use Rattle.yaml_base.{proofs.PercentLaws.suffix_stands}
use Rattle.yaml_read.proofs.Scalars.{end_scalars, joined_scalars, line_scalars, quotes_scalars, spaces_scalars}
use Rattle.yaml_read.proofs.Encoded.{word_encoded}

-- characters of ASCII are Unicode scalar values
ascii_scalar : (c : ℕ) → nat_lt c 128 ≡ true → scalar c ≡ true
ascii_scalar c few = agree_below_at scalar (λ d. true) 128 c refl (ltb-true c 128 few)

alpha_scalar : (c : ℕ) → is_alpha c ≡ true → scalar c ≡ true
alpha_scalar c h = ascii_scalar c (grind (arith, nat_tests))

written_scalar : (c : ℕ) → stands_written c ≡ true → scalar c ≡ true
written_scalar c h = ascii_scalar c (grind (arith, nat_tests))

-- ---- parts of a node's beginning

name_scalars : (empty other : yaml_error_t) (name : Text) → name_fault empty other name ≡ None → all_scalars name ≡ true
name_scalars empty other [] sound = refl
name_scalars empty other (c ∷ rest) sound = by (list_all is_alpha (c ∷ rest)) refl sound
  where
    by : (b : Bool) → list_all is_alpha (c ∷ rest) ≡ b → (if b then None else Some other) ≡ None → all_scalars (c ∷ rest) ≡ true
    by true letters is = all_pass is_alpha scalar alpha_scalar (c ∷ rest) letters
    by false letters is = cc

anchor_scalars : (anchor : Option Text) → IsAnchor anchor → all_scalars (anchor_text anchor) ≡ true
anchor_scalars anchor h1 = grind (arith, joined_scalars, space, name_scalars)

suffix_scalars : (text : Text) → all_scalars (suffix_escaped false text) ≡ true
suffix_scalars text = all_pass stands_written scalar written_scalar (suffix_escaped false text) (suffix_stands false text)

escaped_scalars : (text : Text) → all_scalars (percent_escaped text) ≡ true
escaped_scalars text = all_pass stands_written scalar written_scalar (percent_escaped text) (escaped_stands text)

spelled_scalars : (tag : Text) → all_scalars (spelled false (spelling default_directives tag)) ≡ true
spelled_scalars tag = by (behind (codes "!") tag) (behind (codes "tag:yaml.org,2002:") tag)
  where
    by : (first second : Option Text)
        → all_scalars (spelled false (spelling_by (codes "!") first (spelling_by (codes "!!") second (verbatim tag)))) ≡ true
    by (Some suffix) second = suffix_scalars suffix
    by None (Some suffix) = suffix_scalars suffix
    by None None = joined_scalars (percent_escaped tag) (codes ">") (escaped_scalars tag) refl

tag_scalars : (tag : Text) (bare : Bool) → all_scalars (tag_text (Some tag) bare) ≡ true
tag_scalars tag bare = joined_scalars (spelled false (spelling default_directives tag)) (space ∷ []) (spelled_scalars tag) refl

properties_scalars : (anchor : Option Text) (tag : Text) (bare : Bool) → IsAnchor anchor
    → all_scalars (anchor_text anchor ++ tag_text (Some tag) bare) ≡ true
properties_scalars anchor tag bare is = joined_scalars (anchor_text anchor) (tag_text (Some tag) bare) (anchor_scalars anchor is) (tag_scalars tag bare)

-- ---- the text around a node

lead_scalars : (levels : List Pending) → all_scalars (lead_text levels) ≡ true
lead_scalars levels = grind (arith, spaces_scalars, length, item_awaited, line_scalars, key_awaited, codes, value_awaited)

trail_scalars : (levels : List Pending) → all_scalars (trail_text levels) ≡ true
trail_scalars levels = grind arith

closing_scalars : (levels : List Pending) → all_scalars (closing_text levels) ≡ true
closing_scalars levels = grind (arith, end_scalars, length, codes)

between : (levels : List Pending) (text : Text) → all_scalars text ≡ true → all_scalars (lead_text levels ++ (text ++ trail_text levels)) ≡ true
between levels text h = grind (arith, joined_scalars, lead_text, trail_text, lead_scalars, trail_scalars)

behind_end : (levels : List Pending) → all_scalars (closing_text levels ++ trail_text (outside levels)) ≡ true
behind_end levels = joined_scalars (closing_text levels) (trail_text (outside levels)) (closing_scalars levels) (trail_scalars (outside levels))

-- ---- events

opening_scalars : (levels : List Pending) (event : Event) → BeginsNode event → all_scalars (event_text levels event) ≡ true
opening_scalars levels event (is_alias name sound) = between levels (codes "*" ++ name) (name_scalars _ _ name sound)
opening_scalars levels event (is_scalar anchor tag value parts) =
    let bare = not (bytes_eq tag string_tag) in
    between levels (anchor_text anchor ++ tag_text (Some tag) bare ++ in_quotes value)
    (joined_scalars (anchor_text anchor ++ tag_text (Some tag) bare) (in_quotes value) (properties_scalars anchor tag bare parts.anchor_sound)
    (quotes_scalars value parts.value_scalars))
opening_scalars levels event (is_sequence anchor tag parts) =
    joined_scalars (lead_text levels) _ (lead_scalars levels)
    (joined_scalars (anchor_text anchor ++ tag_text (Some tag) false) (codes "[") (properties_scalars anchor tag false parts.anchor_sound) refl)
opening_scalars levels event (is_mapping anchor tag parts) =
    joined_scalars (lead_text levels) _ (lead_scalars levels)
    (joined_scalars (anchor_text anchor ++ tag_text (Some tag) false) (codes "{") (properties_scalars anchor tag false parts.anchor_sound) refl)

event_scalars : (levels : List Pending) (event : Event) → IsInNode event → all_scalars (event_text levels event) ≡ true
event_scalars levels event (begins_node other begins) = opening_scalars levels event begins
event_scalars levels event _ = behind_end levels

run_scalars : (levels : List Pending) (events : List Event) (text : Text) → HasRunText levels events text → All IsInNode events → all_scalars text ≡ true
run_scalars levels events text (root_ends before event whole come none is) all = ap all_scalars is ∙ event_scalars levels _ (All-head IsInNode event [] all)
run_scalars levels events text (more_come before next event later rest whole come some is run) all =
    ap all_scalars is ∙ joined_scalars (event_text levels event) rest (event_scalars levels _ (All-head IsInNode event later all))
    (run_scalars _ _ _ run (All-tail IsInNode event later all))

-- the bytes of a document's events are UTF-8
pub run_utf8 : (bytes : List ℕ) (events : List Event) → AreRunBytes bytes events → IsUtf8 bytes
run_utf8 bytes events run =
    let behind = run.node ++ line_feed ∷ [] in (
      codes "---\n" ++ behind,
      (
        joined_scalars run.node (line_feed ∷ []) (run_scalars [] events run.node run.run run.in_node) refl,
        word_encoded (codes "---\n") behind refl ∙ sym run.parts,
      ),
    )
