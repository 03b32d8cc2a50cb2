-- White space in flow, and its effect on the reader of flow collections.
use Rattle.yaml_base.proofs.Common.{arith, suc, zero, ℕ, Bool, List, [], ◌++◌, ◌∷◌, refl, ◌≡◌, ap, ◌∙◌, line_feed, space, OpenFlow, at_once}
use Rattle.yaml_base.proofs.stream_flow.{StreamTakes.TakesBytes, StreamTakes.takes_to, StreamPlainWords.ends_by, StreamPlainWords.ends_word}
use Rattle.yaml_base.proofs.Common.{after_blank, colon_awaited, within, spaces, Rules, is_white_break, class_of}
use Rattle.yaml_base.proofs.stream_flow.StreamSays.{EndsWord, says_blank, class_fixed}

-- LF is a break
pub line_feed_class : (breaks12 : Bool) → class_of breaks12 line_feed ≡ is_white_break
line_feed_class breaks12 = grind (arith)

-- spaces end a word, if the text after them does
pub spaces_end_word : (breaks12 : Bool) (n : ℕ) → EndsWord breaks12 (spaces n)
spaces_end_word breaks12 zero rest h = h
spaces_end_word breaks12 (suc n) rest h =
    ap (λ class. ends_by class (ends_word breaks12 (spaces n ++ rest))) (class_fixed breaks12 space refl) ∙ spaces_end_word breaks12 n rest h

-- the blank after an alias that is a key
pub alias_blank : (rules : Rules) (levels : List OpenFlow)
    → TakesBytes rules (within levels (colon_awaited after_blank)) (space ∷ []) (within levels (colon_awaited at_once))
alias_blank rules levels = grind (arith, takes_to, says_blank, class_fixed)
