-- Comments matter to no refusal: the stage after events with comments corresponds to the partial tree of the events.
use Rattle.yaml_base.proofs.Common.{option_and_then, Option, None, Some, Bool, List, [], ◌∷◌, ◌++◌, ◌≡◌, refl, ap, sym, ◌∙◌, Partial, before_stream, push}
use Rattle.yaml_base.proofs.Common.{pushed, refusal_at, Effective, Stage, at_stream, ends_next}
use Rattle.yaml_base.proofs.Stages.{StandsFor, stage_refuses, stands_as, step_stands}
use Rattle.yaml_base.specs.Comments.{Commented, events_of}
use Rattle.yaml_base.specs.CommentedSteps.{CommentedStanding, commented_step, commented_steps, first_commented, head_place, render_before}
use Rattle.yaml_base.specs.CommentLaws.{RefusedByEvents}

abbrev CommentedStand : List Commented → Type 0
CommentedStand all = (p q : Partial) (stage : Stage) (s : Effective) (follows : Bool) (standing : CommentedStanding) → StandsFor p stage
    → pushed p (events_of all) ≡ Some q → StandsFor q (commented_steps s follows all stage standing).stage

next_stands : (commented : Commented) (rest : List Commented) → CommentedStand rest → (p q : Partial) (stage : Stage) (s : Effective) (follows : Bool)
    (standing : CommentedStanding) → StandsFor p stage → (made : Option Partial) → push p commented.event ≡ made
    → option_and_then (λ r. pushed r (events_of rest)) made ≡ Some q → StandsFor q (commented_steps s follows (commented ∷ rest) stage standing).stage
next_stands commented rest others p q stage s follows standing h None is given = cc
next_stands commented rest others p q stage s follows standing h (Some r) is given =
    let empty = ends_next (events_of rest) follows in
    let made = commented_step s stage commented empty standing in
    let head = render_before (standing.waiting ++ commented.comments.head) (head_place s stage commented.event empty) commented.event standing.standing in
    others r q made.stage s follows made.standing (step_stands p stage commented.event h r s empty head.standing is) given

commented_stand : (all : List Commented) → CommentedStand all
commented_stand [] = λ p q stage s follows standing h given. stands_as p q stage given h
commented_stand (commented ∷ rest) = λ p q stage s follows standing h given.
    next_stands commented rest (commented_stand rest) p q stage s follows standing h (push p commented.event) refl given

pub refused_by_events : RefusedByEvents
refused_by_events s follows all event partial given =
    stage_refuses s.canonical partial _ event (commented_stand all before_stream partial at_stream s follows first_commented tt given)
    ∙ sym (ap (λ o. option_and_then (λ q. refusal_at s.canonical q event) o) given)
