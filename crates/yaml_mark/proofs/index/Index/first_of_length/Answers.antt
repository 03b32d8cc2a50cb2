use Rattle.std.specs.BTreeMap.{get_by_text}
use Rattle.yaml_mark.proofs.Common.{ap, ◌∙◌, arith, ◌<◌, length, IsCharBoundary}
use Rattle.yaml_mark.proofs.IndexLemmas.{found_by_length, from_start, none_by_length}
use Rattle.yaml_mark.proofs.index.Index.first_of_length.Goals as goal
use Rattle.yaml_mark.proofs.index.Index.first_of_length.Goals.{then-length-tag-via-then-length-tag}
use Rattle.yaml_mark.proofs.index.Index.first_of_length.Goals.{then-length-tag-via-else-length-tag+then-not-is_char_boundary}

pub returns-then-length-tag : goal.returns-then-length-tag
returns-then-length-tag g c = λ list finds.
    let tag = c.args.tag.now in
    let n = c.args.length in
    let no : n < length tag → IsCharBoundary tag n → ⊥ =
    elim c.then-length-tag.branch [
      | then-length-tag-via-then-length-tag w ↦ λ short at. omega (arith, short, w.if-length-tag.true)
      | then-length-tag-via-else-length-tag+then-not-is_char_boundary w ↦ λ short at.
          let is = w.is_char_boundary.ensures.test.1 at in
          let isnt = w.if-not-is_char_boundary.true in
          cc
    ]
    in
    none_by_length tag n c.utf8.tag no list

pub returns : goal.returns
returns g c = λ list finds.
    c.copied.ensures
    ∙ c.get.ensures.value
    ∙ ap (get_by_text c.args.self.now.prefixes) (c.range.ensures.value ∙ from_start c.args.length c.args.tag.now)
    ∙ found_by_length c.args.tag.now c.args.length c.args.self.now list c.if-length-tag.false finds
