-- Worked rows: the text of whole streams.
use Rattle.yaml_base.proofs.Common.{None, Some, codes, negsuc, pos, replicate, false, true, [], ◌++◌, ◌∷◌, refl, ◌≡◌, any_style, single_quoted, double_quoted}
use Rattle.yaml_base.proofs.Common.{literal, folded, any_layout, block, flow, document_start, document_end, alias, scalar, sequence_start, sequence_end}
use Rattle.yaml_base.proofs.rows.RowEvents.{canonical_settings, unicode_settings, of_width, of_indent, untagged, leaf, tagged, in_style, sequence, mapping}
use Rattle.yaml_base.proofs.{Common.mapping_start, Common.mapping_end, rows.Cases.Gives, rows.Cases.GivesOfTwo}
use Rattle.yaml_base.proofs.rows.RowEvents.{document_of, stream_of, alone, rendered_under, rendered}

tag_directive : rendered (stream_of
    (document_of (leaf (codes "a") ∷ [])
    ++ (document_start (record { version = None; directives = record { handle = codes "!e!"; prefix = codes "tag:e.com,2000:" } ∷ []; implicit = true })
    ∷ tagged None (Some (codes "tag:e.com,2000:t")) (codes "x") ∷ document_end true ∷ []))) ≡ codes "a\n...\n%TAG !e! tag:e.com,2000:\n--- !e!t x\n"
tag_directive = refl

shared_node : rendered (alone (sequence_start (in_style block) ∷ sequence_start (in_style block) ∷ scalar
    (record { anchor = Some (codes "id001"); tag = None; value = codes "a"; plain_implicit = true; quoted_implicit = true; style = any_style }) ∷ alias
    (codes "id001") ∷ sequence_end ∷ sequence_end ∷ [])) ≡ codes "- - &id001 a\n  - *id001\n"
shared_node = refl

anchored_root_sequence : rendered (alone
    (sequence_start (record { anchor = Some (codes "id001"); tag = None; implicit = true; style = block }) ∷ alias (codes "id001") ∷ sequence_end ∷ []))
    ≡ codes "&id001\n- *id001\n"
anchored_root_sequence = refl

version : rendered (stream_of (document_start (record { version = Some (record { major = pos 1; minor = pos 1 }); directives = []; implicit = true }) ∷ leaf
    (codes "foo") ∷ document_end true ∷ [])) ≡ codes "%YAML 1.1\n--- foo\n"
version = refl

anchored_undented_sequence : rendered
    (alone (mapping block (leaf (codes "a") ∷ sequence_start (record { anchor = Some (codes "x"); tag = None; implicit = true; style = block }) ∷ leaf
    (codes "b") ∷ sequence_end ∷ []))) ≡ codes "a: &x\n- b\n"
unfolding lib.Utf8.encode
anchored_undented_sequence = refl

streams : Gives rendered (
    -- an empty value at the root
    (alone (leaf (codes "") ∷ []), codes "\n")  -- empty root
    ∷ (alone (leaf (codes "foo") ∷ []), codes "foo\n")  -- word
    -- final breaks that are kept leave the document open
    ∷ (alone (untagged (codes "a\n\n") literal ∷ []), codes "|+\n  a\n\n...\n")  -- kept breaks
    ∷ (alone (untagged (codes "\n") literal ∷ []), codes "|2+\n\n...\n")  -- break alone
    ∷ (alone (untagged (codes "a\nb\n\n c\n") folded ∷ []), codes ">\n  a\n\n  b\n\n   c\n")  -- folded lines
    ∷ (alone (leaf (codes "a:") ∷ []), codes "'a:'\n")  -- colon last
    ∷ (alone (mapping block (alias (codes "a") ∷ leaf (codes "v") ∷ [])), codes "*a : v\n")  -- alias key
    ∷ (alone (mapping block ((sequence block ([])) ++ (leaf (codes "v") ∷ []))), codes "[]: v\n")  -- empty sequence key
    ∷ (alone (mapping block (leaf (replicate 129 120) ∷ leaf (codes "v") ∷ [])), codes "? " ++ (replicate 129 120 ++ codes "\n: v\n"))  -- long key
    ∷ (alone (mapping block (leaf (replicate 128 120) ∷ leaf (codes "v") ∷ [])), replicate 128 120 ++ codes ": v\n")  -- short key
    ∷ (alone (tagged None (Some (codes "!")) (codes "x") ∷ []), codes "!<%21> x\n")  -- tag of a mark alone
    ∷ (alone (tagged None (Some (codes "!a!b")) (codes "x") ∷ []), codes "!a%21b x\n")  -- tag with a mark
    ∷ (alone (tagged None (Some (codes "tag:yaml.org,2002:")) (codes "x") ∷ []), codes "!<tag:yaml.org,2002:> x\n")  -- tag of a prefix alone
    ∷ (alone (tagged None (Some (codes "tag:yaml.org,2002:int")) (codes "5") ∷ []), codes "!!int 5\n")  -- default tag
    ∷ (alone (tagged None (Some (codes "!foo")) (codes "x") ∷ []), codes "!foo x\n")  -- own tag
    ∷ (stream_of [], [])  -- nothing
    -- a sequence as a value that begins on a new line isn't indented
    ∷ (alone (mapping block (leaf (codes "a") ∷ sequence block (leaf (codes "b") ∷ leaf (codes "c") ∷ []))), codes "a:\n- b\n- c\n")  -- undented sequence
    ∷ (alone (sequence flow (leaf (codes "a") ∷ leaf (codes "b") ∷ [])), codes "[a, b]\n")  -- flow sequence
    ∷ (alone (leaf (0xE9 ∷ []) ∷ []), codes "\"\\xE9\"\n")  -- past ascii
    ∷ (alone (untagged (codes "a\nb") single_quoted ∷ []), codes "'a\n\n  b'\n")  -- single with break
    ∷ (alone (leaf (codes "- x") ∷ []), codes "'- x'\n")  -- dash first
    ∷ (
      stream_of (document_start (record { version = None; directives = []; implicit = false }) ∷ leaf (codes "foo") ∷ document_end false ∷ []),
      codes "--- foo\n...\n",
    )  -- explicit marks
    ∷ (alone (mapping flow (alias (codes "a") ∷ leaf (codes "v") ∷ [])), codes "{*a : v}\n")  -- flow alias key
    ∷ (alone (sequence block (untagged (codes " a") literal ∷ [])), codes "- |2-\n   a\n")  -- literal item
    ∷ (alone (mapping block ((sequence block (leaf (codes "b") ∷ [])) ++ (leaf (codes "v") ∷ []))), codes "? - b\n: v\n")  -- sequence as key
    ∷ (alone (sequence block (mapping block (leaf (codes "a") ∷ leaf (codes "b") ∷ []))), codes "- a: b\n")  -- mapping in sequence
    ∷ (alone (mapping block (leaf (codes "a") ∷ mapping block (leaf (codes "b") ∷ leaf (codes "c") ∷ []))), codes "a:\n  b: c\n")  -- mapping in mapping
    ∷ (alone (sequence flow (leaf (codes "") ∷ [])), codes "['']\n")  -- empty value in flow
    ∷ (alone (mapping block (leaf (codes "a") ∷ leaf (codes "") ∷ [])), codes "a:\n")  -- empty value
    ∷ (alone (mapping block (leaf (codes "") ∷ leaf (codes "v") ∷ [])), codes "'': v\n")  -- empty key
    -- a mark before a document that follows an open one
    -- open document goes on
    ∷ (stream_of (document_of (untagged (codes "a\n\n") literal ∷ []) ++ document_of (leaf (codes "b") ∷ [])), codes "|+\n  a\n\n--- b\n")
    ∷ (alone (leaf (0 ∷ 7 ∷ 0x22 ∷ 0x5C ∷ 0x85 ∷ 0x7F ∷ []) ∷ []), codes "\"\\0\\a\\\"\\\\\\N\\x7F\"\n")  -- five escapes
    ∷ (alone (leaf (0x1F600 ∷ []) ∷ []), codes "\"\\U0001F600\"\n")  -- long escape
    ∷ (alone (mapping flow ((sequence flow (leaf (codes "a") ∷ [])) ++ (leaf (codes "v") ∷ []))), codes "{? [a] : v}\n")  -- complex flow key
    ∷ [])
unfolding lib.Utf8.encode
streams = refl

canonical_mapping : rendered_under canonical_settings
    (alone (mapping_start (record { anchor = None; tag = Some (codes "tag:yaml.org,2002:map"); implicit = true; style = any_layout }) ∷ scalar
    (record {
      anchor = Some (codes "a");
      tag = Some (codes "tag:yaml.org,2002:str");
      value = codes "k";
      plain_implicit = true;
      quoted_implicit = true;
      style = any_style;
    }) ∷ alias (codes "a") ∷ mapping_end ∷ [])) ≡ codes "---\n!!map {\n  ? &a !!str \"k\"\n  : *a,\n}\n"
canonical_mapping = refl

canonical_bare_tag : rendered_under canonical_settings
    (alone (scalar (record { anchor = None; tag = None; value = codes "a"; plain_implicit = true; quoted_implicit = false; style = any_style }) ∷ []))
    ≡ codes "---\n! \"a\"\n"
canonical_bare_tag = refl

streams_by_settings : GivesOfTwo rendered_under (
    (of_width (pos 5), alone (untagged (codes " aaaaaa b") folded ∷ []), codes ">2-\n   aaaaaa b\n")  -- spaced line unfolded
    ∷ (of_width (pos 5), alone (untagged (codes "aaaaaa  b") double_quoted ∷ []), codes "\"aaaaaa\n  \\ b\"\n")  -- double fold
    -- 65 characters of two bytes
    -- long key in bytes
    ∷ (unicode_settings, alone (mapping block (leaf (replicate 65 0xE9) ∷ leaf (codes "v") ∷ [])), codes "? " ++ (replicate 65 0xE9 ++ codes "\n: v\n"))
    ∷ (canonical_settings, alone (sequence any_layout (leaf (codes "a") ∷ [])), codes "---\n[\n  \"a\",\n]\n")  -- canonical sequence
    ∷ (record canonical_settings { width = Some (negsuc 0) }, alone (leaf (codes "a") ∷ []), codes "---\n\"a\"\n")  -- canonical root
    ∷ (of_width (pos 5), alone (leaf (codes "aaaaaa b") ∷ []), codes "aaaaaa\n  b\n")  -- plain fold
    -- a raw U+2028 after LF
    -- line separator folded
    ∷ (unicode_settings, alone (untagged (codes "a\n" ++ 0x2028 ∷ codes "b") folded ∷ []), codes ">-\n  a\n\n" ++ 0x2028 ∷ codes "  b\n")
    ∷ (of_indent (pos 4), alone (sequence block (sequence block (leaf (codes "a") ∷ []))), codes "-   - a\n")  -- wide indent
    ∷ (of_width (pos 5), alone (sequence flow (leaf (codes "aaaa") ∷ leaf (codes "bb") ∷ [])), codes "[aaaa,\n  bb]\n")  -- wide flow
    ∷ [])
unfolding lib.Utf8.encode
streams_by_settings = refl
