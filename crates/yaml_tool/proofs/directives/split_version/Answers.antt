use Rattle.yaml_tool.proofs.Common.{◌∷◌, ap, ◌∙◌, chars, version_of}
use Rattle.yaml_tool.proofs.CutLemmas.{cut_free, cut_cut, no_version}
use Rattle.yaml_tool.proofs.directives.split_version.Goals as goal

pub returns-in-None : goal.returns-in-None
returns-in-None c = ap version_of (cut_free 46 (chars c.args.word.now) c.in-None.ensures.cut)

pub returns-in-None-cut_once : goal.returns-in-None-cut_once
returns-in-None-cut_once c =
    cut_cut 46 (chars c.args.word.now) (chars c.in-Some.prefix.now) (chars c.in-Some.back.now) c.in-Some.ensures.cut
    ∙ ap (λ pieces. (chars c.in-Some.prefix.now) ∷ pieces) (cut_free 46 (chars c.in-Some.back.now) c.in-None-cut_once.ensures.cut)

pub returns-in-Some-cut_once : goal.returns-in-Some-cut_once
returns-in-Some-cut_once c =
    ap version_of
    (cut_cut 46 (chars c.args.word.now) (chars c.in-Some.prefix.now) (chars c.in-Some.back.now) c.in-Some.ensures.cut
    ∙ ap (λ pieces. (chars c.in-Some.prefix.now) ∷ pieces)
    (cut_cut 46 (chars c.in-Some.back.now) (chars c.in-Some-cut_once.field-0.0.now)
    (chars c.in-Some-cut_once.field-0.1.now) c.in-Some-cut_once.ensures.cut))
    ∙ no_version 46 (chars c.in-Some.prefix.now) (chars c.in-Some-cut_once.field-0.0.now) (chars c.in-Some-cut_once.field-0.1.now)
