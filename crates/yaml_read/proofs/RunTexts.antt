-- A run has one text, and goes by no style.
use Rattle.yaml_read.proofs.Common.{List, [], ◌∷◌, ◌++◌, ◌≡◌, append-nil, ap, sym, ◌∙◌, arith, map, unwrap_or, Text, Event, unstyled, Pending, HasRunText}
use Rattle.yaml_read.proofs.Common.{event_text, may_come, more_come, next_open, root_ends}

-- ---- one text

-- the texts of events, one after another
abbrev run_text : List Pending → List Event → Text
run_text levels [] = []
run_text levels (event ∷ events) = event_text levels event ++ run_text (unwrap_or (next_open levels event) []) events

run_text_is : (levels : List Pending) (events : List Event) (text : Text) → HasRunText levels events text → text ≡ run_text levels events
run_text_is _ _ _ (root_ends levels event text may after is) = is ∙ sym (append-nil (event_text levels event))
run_text_is _ _ _ (more_come levels next event events rest text may after is run) = grind (arith, unwrap_or, run_text_is next events rest run)

-- two texts of a run are the same
pub one_run_text : (levels : List Pending) (events : List Event) (one other : Text) → HasRunText levels events one → HasRunText levels events other
    → one ≡ other
one_run_text levels events one other run also = run_text_is levels events one run ∙ sym (run_text_is levels events other also)

-- ---- styles

may_unstyled : (levels : List Pending) (event : Event) → may_come levels (unstyled event) ≡ may_come levels event
may_unstyled levels event = grind (arith)

after_unstyled : (levels : List Pending) (event : Event) → next_open levels (unstyled event) ≡ next_open levels event
after_unstyled levels event = grind (arith)

text_unstyled : (levels : List Pending) (event : Event) → event_text levels (unstyled event) ≡ event_text levels event
text_unstyled levels event = grind (arith)

-- events without their styles have the same text
pub run_unstyled : (levels : List Pending) (events : List Event) (text : Text) → HasRunText levels events text
    → HasRunText levels (map unstyled events) text
run_unstyled _ _ _ (root_ends levels event text may after is) =
    root_ends levels (unstyled event) text (may_unstyled levels event ∙ may) (after_unstyled levels event ∙ after) (is ∙ sym (text_unstyled levels event))
run_unstyled _ _ _ (more_come levels next event events rest text may after is run) =
    more_come levels next (unstyled event) (map unstyled events) rest text (may_unstyled levels event ∙ may) (after_unstyled levels event ∙ after)
    (is ∙ ap (λ (t : Text). t ++ rest) (sym (text_unstyled levels event))) (run_unstyled next events rest run)
