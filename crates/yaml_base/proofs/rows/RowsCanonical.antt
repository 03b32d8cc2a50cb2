-- Canonical bytes read back, computed: each row a text or its bytes, and the content.
use Rattle.yaml_base.proofs.Common.{None, Some, codes, pos, false, true, [], ◌++◌, ◌∷◌, refl, ◌≡◌, Text, canonical_content, tagged, untagged, Content}
use Rattle.yaml_base.proofs.Common.{scalar_content, sequence_content, mapping_content, no_contents, contents_and, no_content_pairs, content_pairs_and}
use Rattle.yaml_base.{proofs.Common.DocumentContent, proofs.rows.Cases.Gives, specs.reading.Content.alias_content}
use Rattle.std.specs.{Char.encode_utf8, Str.chars, Str.is_utf8}

-- a document without version and directives
abbrev root : Content → DocumentContent
root content = record { version = None; directives = []; root = content }

-- an untagged scalar that may go without a tag
abbrev scalar_of : Text → Content
scalar_of value = scalar_content None (untagged true) value

two_documents : canonical_content false (codes "---\n\"a\"\n...\n%YAML 1.1\n---\n\"b\"\n")
    ≡ Some (root (scalar_of (codes "a")) ∷ record { version = Some (record { major = pos 1; minor = pos 1 }); directives = []; root = scalar_of (codes "b") }
    ∷ [])
unfolding chars is_utf8 encode_utf8
two_documents = refl

a_mapping : canonical_content false (codes "---\n!!map {\n  ? &a !!str \"k\"\n  : *a,\n}\n")
    ≡ Some (root (mapping_content None (Some (codes "tag:yaml.org,2002:map"))
    (content_pairs_and no_content_pairs (scalar_content (Some (codes "a")) (tagged (codes "tag:yaml.org,2002:str")) (codes "k")) (alias_content (codes "a"))))
    ∷ [])
unfolding chars is_utf8 encode_utf8
a_mapping = refl

nested_collections : canonical_content false (codes "---\n[\n  {},\n  \"a\",\n]\n")
    ≡ Some (root (sequence_content None None (contents_and (contents_and no_contents (mapping_content None None no_content_pairs)) (scalar_of (codes "a"))))
    ∷ [])
unfolding chars is_utf8 encode_utf8
nested_collections = refl

own_directive : canonical_content false (codes "%TAG !e! %21x\n---\n!e!y \"x\"\n")
    ≡ Some (record {
      version = None;
      directives = record { handle = codes "!e!"; prefix = codes "!x" } ∷ [];
      root = scalar_content None (tagged (codes "!xy")) (codes "x");
    } ∷ [])
unfolding chars is_utf8 encode_utf8
own_directive = refl

-- texts that the emitter never writes: blanks and breaks anywhere between tokens, and none if none is needed
written_otherwise : canonical_content false (codes " \t\n---\"a\"---[*a,[],]...")
    ≡ Some (root (scalar_of (codes "a"))
    ∷ root (sequence_content None None (contents_and (contents_and no_contents (alias_content (codes "a"))) (sequence_content None None no_contents))) ∷ [])
unfolding chars is_utf8 encode_utf8
written_otherwise = refl

contents : Gives (canonical_content false) (
    (codes "---\n\"a\"\n", Some (root (scalar_of (codes "a")) ∷ []))  -- a scalar
    ∷ ([], Some [])  -- no documents at all
    ∷ (codes "---\n\"aaaaaa\n  \\ b\"\n", Some (root (scalar_of (codes "aaaaaa  b")) ∷ []))  -- a folded text
    ∷ (codes "---\n! \"a\"\n", Some (root (scalar_content None (untagged false) (codes "a")) ∷ []))  -- the bare tag
    ∷ (codes "---\n!<%21> \"x\"\n", Some (root (scalar_content None (tagged (codes "!")) (codes "x")) ∷ []))  -- a verbatim tag
    ∷ (codes "---\n!%C3%A9 \"x\"\n", Some (root (scalar_content None (tagged (0x21 ∷ 0xE9 ∷ [])) (codes "x")) ∷ []))  -- percent forms
    -- utf16 upper first
    ∷ (0xFE ∷ 0xFF ∷ 0 ∷ 0x2D ∷ 0 ∷ 0x2D ∷ 0 ∷ 0x2D ∷ 0 ∷ 0x0A ∷ 0 ∷ 0x22 ∷ 0 ∷ 0x61 ∷ 0 ∷ 0x22 ∷ 0 ∷ 0x0A ∷ [], Some (root (scalar_of (codes "a")) ∷ []))
    ∷ (
      0xFF ∷ 0xFE ∷ 0x2D ∷ 0 ∷ 0x2D ∷ 0 ∷ 0x2D ∷ 0 ∷ 0x0A ∷ 0 ∷ 0x22 ∷ 0 ∷ 0x3D ∷ 0xD8 ∷ 0 ∷ 0xDE ∷ 0x22 ∷ 0 ∷ 0x0A ∷ 0 ∷ [],
      Some (root (scalar_of (0x1F600 ∷ [])) ∷ []),
    )  -- utf16 lower first
    ∷ [])
unfolding chars is_utf8 encode_utf8
contents = refl

-- U+2028 is a break, and under the rules of YAML 1.2 it isn't
line_separators : (canonical_content false (codes "---" ++ 0xE2 ∷ 0x80 ∷ 0xA8 ∷ codes "\"a\"") ≡ Some (root (scalar_of (codes "a")) ∷ []))
    × (canonical_content true (codes "---" ++ 0xE2 ∷ 0x80 ∷ 0xA8 ∷ codes "\"a\"") ≡ None)
unfolding chars is_utf8 encode_utf8
line_separators = (refl, refl)

-- no reading: a comma is missing, a `"` isn't escaped, an escape is unknown, a percent form is cut, `---` is missing, text trails
broken : (canonical_content false (codes "---\n[\"a\"]\n") ≡ None)
    × (canonical_content false (codes "---\n\"a\"b\"\n") ≡ None)
    × (canonical_content false (codes "---\n\"\\q\"\n") ≡ None)
    × (canonical_content false (codes "---\n!a%2 \"x\"\n") ≡ None)
    × (canonical_content false (codes "\"a\"\n") ≡ None)
    × (canonical_content false (codes "---\n\"a\" b\n") ≡ None)
unfolding chars is_utf8 encode_utf8
broken = (refl, refl, refl, refl, refl, refl)

-- nor have: two versions, an unknown handle, a tag before an anchor, the bare tag before a collection, `...` twice, a
-- key alone, a tag that ends at a break, a directive without a document, bytes that aren't UTF-8, a lone surrogate, a mark in UTF-8
broken_otherwise : (canonical_content false (codes "%YAML 1.1\n%YAML 1.1\n---\n\"a\"\n") ≡ None)
    × (canonical_content false (codes "---\n!e!t \"x\"\n") ≡ None)
    × (canonical_content false (codes "---\n!!str &a \"x\"\n") ≡ None)
    × (canonical_content false (codes "---\n! [ ]\n") ≡ None)
    × (canonical_content false (codes "---\n\"a\"\n...\n...\n") ≡ None)
    × (canonical_content false (codes "---\n{? \"a\",}\n") ≡ None)
    × (canonical_content false (codes "---\n!!str\n\"x\"\n") ≡ None)
    × (canonical_content false (codes "%YAML 1.1\n") ≡ None)
    × (canonical_content false (0xFF ∷ []) ≡ None)
    × (canonical_content false (0xFF ∷ 0xFE ∷ 0 ∷ 0xD8 ∷ []) ≡ None)
    × (canonical_content false (0xEF ∷ 0xBB ∷ 0xBF ∷ codes "---\n\"a\"\n") ≡ None)
unfolding chars is_utf8 encode_utf8
broken_otherwise = (refl, refl, refl, refl, refl, refl, refl, refl, refl, refl, refl)
