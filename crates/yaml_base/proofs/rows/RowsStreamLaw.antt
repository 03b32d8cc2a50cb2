-- Which lists of events readers of YAML read alike, computed.
use Rattle.yaml_base.proofs.Common.{None, Some, codes, false, true, [], ◌++◌, ◌∷◌, refl, ◌≡◌, plain, double_quoted, flow, reads_alike, agrees, stream_trees}
use Rattle.std.specs.{Char.encode_utf8, Str.chars, Str.is_utf8}
use Rattle.yaml_base.proofs.rows.RowEvents.{untagged, leaf, tagged, sequence, document_of, stream_of, alone}

-- a root that is written as nothing, without `---`; not so one in quotes, one after another document, one with a tag, none at all
lost_documents : (reads_alike false false (alone (leaf [] ∷ [])) ≡ false)
    × (reads_alike false false (alone (untagged [] plain ∷ [])) ≡ false)
    × (reads_alike false false (alone (untagged [] double_quoted ∷ [])) ≡ true)
    × (reads_alike false false (alone (leaf (codes "a") ∷ [])) ≡ true)
    × (reads_alike false true (alone (leaf [] ∷ [])) ≡ true)
    × (reads_alike false false (stream_of (document_of (leaf (codes "a") ∷ []) ++ document_of (leaf [] ∷ []))) ≡ true)
    × (reads_alike false false (alone (tagged None (Some (codes "!t")) [] ∷ [])) ≡ true)
    × (reads_alike false false (stream_of []) ≡ true)
lost_documents = (refl, refl, refl, refl, refl, refl, refl, refl)

-- flow indicators after a handle, also inside collections; not so in a verbatim tag
flow_indicators : (reads_alike false false (alone (tagged None (Some (codes "!a,b")) (codes "x") ∷ [])) ≡ false)
    × (reads_alike false false (alone (sequence flow (leaf (codes "a") ∷ tagged None (Some (codes "tag:yaml.org,2002:[")) (codes "x") ∷ []))) ≡ false)
    × (reads_alike false false (alone (tagged None (Some (codes "a,b")) (codes "x") ∷ [])) ≡ true)
flow_indicators = (refl, refl, refl)

-- in portable mode neither kind is left out
all_portable : (reads_alike true false (alone (leaf [] ∷ [])) ≡ true)
    × (reads_alike true false (alone (tagged None (Some (codes "!a,b")) (codes "x") ∷ [])) ≡ true)
all_portable = (refl, refl)

-- the documents that were read agree with the events from which they were written, and with no others
agreement : (agrees false (alone (leaf (codes "a") ∷ [])) (stream_trees false (codes "a\n")) ≡ true)
    × (agrees false (alone (leaf (codes "a") ∷ [])) (stream_trees false (codes "'a'\n")) ≡ true)
    × (agrees false (alone (leaf (codes "a") ∷ [])) (stream_trees false (codes "b\n")) ≡ false)
    × (agrees false (alone (tagged None (Some (codes "!t")) (codes "a") ∷ [])) (stream_trees false (codes "!t a\n")) ≡ true)
    × (agrees false (alone (tagged None (Some (codes "!t")) (codes "a") ∷ [])) (stream_trees false (codes "a\n")) ≡ false)
    × (agrees false (alone (leaf (codes "a") ∷ [])) (stream_trees false (codes "! 'a'\n")) ≡ false)
    × (agrees false (alone (leaf (codes "a") ∷ [])) (stream_trees false (codes "a\n--- b\n")) ≡ false)
    × (agrees false (alone (leaf (codes "a") ∷ [])) None ≡ false)
unfolding chars is_utf8 encode_utf8
agreement = (refl, refl, refl, refl, refl, refl, refl, refl)
