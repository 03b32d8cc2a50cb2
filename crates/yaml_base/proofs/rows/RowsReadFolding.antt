-- Texts inside quotes and plain texts, computed: the reading of each.
use Rattle.yaml_base.proofs.Common.{None, Some, codes, Bool, false, true, [], map, ◌∷◌, refl, Text, unit_of, folding_read, read_plain, read_single}
use Rattle.yaml_base.proofs.rows.Cases.{Gives, GivesOfTwo}

abbrev read_folded : Bool → Text → Text
read_folded breaks12 t = folding_read (map (unit_of breaks12) t)

folded_texts : GivesOfTwo read_folded (
    -- a lone LF is a space
    (false, codes "a\nb", codes "a b")  -- lone line feed
    -- more breaks lose their first
    ∷ (false, codes "a\n\nb", codes "a\nb")  -- two line feeds
    -- blanks around and between the breaks of a run are dropped, others kept
    ∷ (false, codes "a  b \t\n \n  c ", codes "a  b\nc ")  -- blanks dropped
    -- a run that begins with U+2028 is kept whole
    ∷ (false, 97 ∷ 0x2028 ∷ 10 ∷ 32 ∷ 32 ∷ 98 ∷ [], 97 ∷ 0x2028 ∷ 10 ∷ 98 ∷ [])  -- separator kept
    -- U+2028 after a line feed is kept, and the line feed is not
    ∷ (false, 97 ∷ 10 ∷ 32 ∷ 0x2028 ∷ 98 ∷ [], 97 ∷ 0x2028 ∷ 98 ∷ [])  -- separator after line feed
    -- under the rules of YAML 1.2 it is a character like others
    ∷ (true, 97 ∷ 10 ∷ 32 ∷ 0x2028 ∷ 32 ∷ 98 ∷ [], 97 ∷ 32 ∷ 0x2028 ∷ 32 ∷ 98 ∷ [])  -- separator no break
    ∷ [])
folded_texts = refl

plain_texts : GivesOfTwo (read_plain false) (
    (false, codes "a b:c#d", Some (codes "a b:c#d"))  -- plain
    ∷ (true, codes "a:b", None)  -- plain in flow
    ∷ (false, [], Some [])  -- plain empty
    ∷ (true, [], None)  -- plain empty in flow
    ∷ (false, codes "a:", None)  -- plain key
    ∷ (false, codes "a #b", None)  -- plain comment
    ∷ (false, codes "---x", None)  -- plain mark
    ∷ (false, codes "- x", None)  -- plain entry
    ∷ (false, codes "-x", Some (codes "-x"))  -- plain dash
    ∷ [])
plain_texts = refl

single_quoted_texts : Gives (read_single false) (
    (codes "'it''s\n\n  ok'", Some (codes "it's\nok"))  -- single
    ∷ (codes "'a'b'", None)  -- single raw quote
    ∷ (codes "'a''", None)  -- single open
    ∷ (codes "''", Some [])  -- single empty
    ∷ (codes "'", None)  -- single alone
    ∷ [])
single_quoted_texts = refl
