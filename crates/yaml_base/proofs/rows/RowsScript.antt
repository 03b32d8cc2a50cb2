-- Scripts computed: each row a script and its meaning.
use Rattle.yaml_base.proofs.Common.{map, replicate, None, Some, codes, negsuc, pos, false, true, [], ◌++◌, ◌∷◌, refl, ◌≡◌, any_style, folded, any_layout, flow}
use Rattle.yaml_base.proofs.Common.{stream_start, stream_end, document_start, document_end, alias, scalar, sequence_start, sequence_end, mapping_start}
use Rattle.yaml_base.proofs.Common.{mapping_end, utf16_little, utf16_big, both_break}
use Rattle.yaml_base.specs.scripts.Script.{bad_line, understood, unset, script_of}
use Rattle.std.specs.{Char.encode_utf8, Str.chars, Str.is_utf8}

-- a canonical scalar, from its settings to the stream's end
a_whole_script : script_of (codes "canonical on\nwidth -1\n+STR any\n+DOC 1 -\n=VAL any 1 1 - - \"a\"\n-DOC 1\n-STR\n")
    ≡ understood (record unset { canonical = true; width = Some (negsuc 0) }) (
    record { line = 3; event = stream_start None }
    ∷ record { line = 4; event = document_start (record { version = None; directives = []; implicit = true }) }
    ∷ record {
      line = 5;
      event = scalar
          (record { anchor = None; tag = None; value = codes "a"; plain_implicit = true; quoted_implicit = true; style = any_style });
    }
    ∷ record { line = 6; event = document_end true }
    ∷ record { line = 7; event = stream_end } ∷ [])
unfolding chars is_utf8 encode_utf8
a_whole_script = refl

-- every setting; comments and empty lines are skipped and counted, zeros in front change nothing
every_setting : script_of (codes "limit 007\n# c \"x\nencoding utf16be\n\ncanonical on\nunicode on\nindent -007\n"
    ++ codes "width 2147483647\nbreak crln\nbreaks12 on\nportable on\nsequences indented\nblanks literal")
    ≡ understood (record {
      encoding = Some utf16_big;
      canonical = true;
      unicode = true;
      double_quotes = false;
      indent = Some (negsuc 6);
      width = Some (pos 2147483647);
      line_break = Some both_break;
      breaks12 = true;
      portable = true;
      indented_sequences = true;
      literal_blanks = true;
      limit = 7;
    }) []
unfolding chars is_utf8 encode_utf8
every_setting = refl

-- every event, with texts of every kind of escape
every_event : script_of (codes "+STR utf16le\n+DOC 0 1.02 \"!e!\" \"a b\" \"\" \"\\u{1f600}\"\n+MAP flow 0 - \"t\"\n=ALI \"\"\n"
    ++ codes "=VAL folded 0 1 \"-\" - \"\\\\\\\"\\n #\"\n-MAP\n-DOC 0\n+SEQ any 1 \"a\" -\n-SEQ\n#\n-STR")
    ≡ understood unset (
    record { line = 1; event = stream_start (Some utf16_little) }
    ∷ record {
      line = 2;
      event = document_start (record {
        version = Some (record { major = pos 1; minor = pos 2 });
        directives = record { handle = codes "!e!"; prefix = codes "a b" } ∷ record { handle = []; prefix = 0x1F600 ∷ [] } ∷ [];
        implicit = false;
      });
    }
    ∷ record { line = 3; event = mapping_start (record { anchor = None; tag = Some (codes "t"); implicit = false; style = flow }) }
    ∷ record { line = 4; event = alias [] }
    ∷ record {
      line = 5;
      event = scalar
          (record { anchor = Some (codes "-"); tag = None; value = codes "\\\"\n #"; plain_implicit = false; quoted_implicit = true; style = folded });
    }
    ∷ record { line = 6; event = mapping_end }
    ∷ record { line = 7; event = document_end false }
    ∷ record { line = 8; event = sequence_start (record { anchor = Some (codes "a"); tag = None; implicit = true; style = any_layout }) }
    ∷ record { line = 9; event = sequence_end }
    ∷ record { line = 11; event = stream_end } ∷ [])
unfolding chars is_utf8 encode_utf8
every_event = refl

-- no bytes, and lines without any meaning
nothing_parsed : (script_of [] ≡ understood unset []) × (script_of (codes "\n#\n\n") ≡ understood unset [])
unfolding chars is_utf8 encode_utf8
nothing_parsed = (refl, refl)

-- characters mean themselves in a text: the two bytes of U+00E9, a tab, a CR
raw_characters : script_of (codes "=ALI \"" ++ 0xC3 ∷ 0xA9 ∷ 9 ∷ 13 ∷ codes "\"")
    ≡ understood unset (record { line = 1; event = alias (0xE9 ∷ 9 ∷ 13 ∷ []) } ∷ [])
unfolding chars is_utf8 encode_utf8
raw_characters = refl

-- scripts of one bad line
bad_alone : map script_of (codes "+FOO" ∷ codes "+STR utf9" ∷ codes "=VAL any 1 1 - - \"a" ∷ codes "=VAL any 1 1 - - \"\\u{D800}\"" ∷ codes "+DOC 1 - \"!e!\""
    ∷ codes "-STR " ∷ codes "indent 2147483648" ∷ codes "limit 4294967296" ∷ codes "limit -0" ∷ codes "# c\r" ∷ codes "=ALI -" ∷ codes "=ALI \"a\"x"
    ∷ codes "=ALI \"\\u{0000041}\"" ∷ codes "+STR  any" ∷ (0xFF ∷ []) ∷ (0xEF ∷ 0xBB ∷ 0xBF ∷ codes "-STR") ∷ []) ≡ replicate 16 (bad_line 1)
unfolding chars is_utf8 encode_utf8
bad_alone = refl

-- the number of the first bad line
bad_later : (script_of (codes "# c\n\nwidth 5\nwidth 5\n") ≡ bad_line 4)
    × (script_of (codes "+STR any\ncanonical on\n") ≡ bad_line 2)
    × (script_of (codes "-STR\n \n+FOO\n") ≡ bad_line 2)
    × (script_of (codes "portable on\nportable on\n") ≡ bad_line 2)
unfolding chars is_utf8 encode_utf8
bad_later = (refl, refl, refl, refl)
