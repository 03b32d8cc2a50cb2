-- Worked rows: the text of prefixes, their completion, and outputs as bytes.
use Rattle.yaml_base.proofs.Common.{None, Some, codes, true, List, [], ◌∷◌, refl, ◌≡◌, Text, literal, any_layout, block, flow, Event, stream_start, stream_end}
use Rattle.yaml_base.proofs.Common.{sequence_start, sequence_end, mapping_start, mapping_end, output_of, empty_scalar, completion, written, utf16_little}
use Rattle.yaml_base.proofs.Common.{utf16_big, both_break, Settings, effective}
use Rattle.yaml_base.{proofs.rows.Cases.Gives, proofs.rows.Cases.GivesOfTwo, specs.Pieces.text_after}
use Rattle.yaml_base.proofs.rows.RowEvents.{plain_settings, canonical_settings, unicode_settings, untagged, leaf, in_style, implicit_start, stream_of, alone}

-- the text of the events of a list that are ready
abbrev ready_text : Settings → List Event → Text
ready_text settings events = text_after (effective settings None) events (written events)

abbrev begun : List Event → List Event
begun events = stream_start None ∷ implicit_start ∷ events

completions : Gives completion (
    ([], stream_start None ∷ stream_end ∷ [])  -- nothing completed
    ∷ (begun [], alone (empty_scalar ∷ []))  -- root completed
    ∷ (begun (sequence_start (in_style block) ∷ []), alone (sequence_start (in_style block) ∷ empty_scalar ∷ sequence_end ∷ []))  -- sequence start completed
    -- mapping start completed
    ∷ (
      begun (sequence_start (in_style block) ∷ mapping_start (in_style flow) ∷ []),
      alone (sequence_start (in_style block) ∷ mapping_start (in_style flow) ∷ empty_scalar ∷ empty_scalar ∷ mapping_end ∷ sequence_end ∷ []),
    )
    ∷ (
      begun (mapping_start (in_style flow) ∷ leaf (codes "k") ∷ []),
      alone (mapping_start (in_style flow) ∷ leaf (codes "k") ∷ empty_scalar ∷ mapping_end ∷ []),
    )  -- value completed
    ∷ (alone (leaf [] ∷ []), alone (leaf [] ∷ []))  -- whole list completed
    ∷ [])
completions = refl

-- an anchor is written, its bracket waits
anchor_alone :
    ready_text plain_settings
    (begun (sequence_start (record { anchor = Some (codes "a"); tag = None; implicit = true; style = flow })
    ∷ sequence_start (in_style flow) ∷ leaf (codes "x") ∷ []))
    ≡ codes "&a"
anchor_alone = refl

ready_texts : GivesOfTwo ready_text (
    (plain_settings, begun (sequence_start (in_style flow) ∷ leaf (codes "a") ∷ leaf (codes "b") ∷ []), codes "[a, b")  -- open flow sequence
    -- open canonical sequence
    ∷ (canonical_settings, begun (sequence_start (in_style any_layout) ∷ leaf (codes "a") ∷ leaf (codes "b") ∷ []), codes "---\n[\n  \"a\",\n  \"b\"")
    -- an empty sequence as a key is simple, a sequence that goes on isn't
    -- key that ends
    ∷ (plain_settings, begun (mapping_start (in_style block) ∷ sequence_start (in_style block) ∷ sequence_end ∷ leaf (codes "v") ∷ []), codes "[]: v")
    ∷ (
      plain_settings,
      begun (mapping_start (in_style block) ∷ sequence_start (in_style block) ∷ leaf (codes "a") ∷ leaf (codes "b") ∷ []),
      codes "? - a\n  - b",
    )  -- key that goes on
    ∷ [])
unfolding lib.Utf8.encode
ready_texts = refl

outputs : GivesOfTwo output_of (
    (record plain_settings { limit = 2 }, alone (leaf (codes "foo") ∷ []), codes "fo")  -- limited
    ∷ (record plain_settings { line_break = Some both_break }, alone (untagged (codes "a\n") literal ∷ []), codes "|\r\n  a\r\n")  -- both breaks
    -- lower byte first
    ∷ (record unicode_settings { encoding = Some utf16_little }, alone (leaf (0x1F600 ∷ []) ∷ []), 0xFF ∷ 0xFE ∷ 0x3D ∷ 0xD8 ∷ 0x00 ∷ 0xDE ∷ 0x0A ∷ 0x00 ∷ [])
    -- upper byte first
    ∷ (record plain_settings { encoding = Some utf16_big; limit = 6 }, alone (leaf (codes "a") ∷ []), 0xFE ∷ 0xFF ∷ 0x00 ∷ 0x61 ∷ 0x00 ∷ 0x0A ∷ [])
    ∷ (record plain_settings { encoding = Some utf16_big; limit = 3 }, alone (leaf (codes "a") ∷ []), 0xFE ∷ 0xFF ∷ 0x00 ∷ [])  -- upper byte first limited
    -- the stream's own encoding, if the caller sets none
    ∷ (plain_settings, stream_start (Some utf16_big) ∷ stream_end ∷ [], 0xFE ∷ 0xFF ∷ [])  -- encoding of the stream
    ∷ (plain_settings, stream_of [], [])  -- empty stream
    ∷ [])
unfolding lib.Utf8.encode
outputs = refl
