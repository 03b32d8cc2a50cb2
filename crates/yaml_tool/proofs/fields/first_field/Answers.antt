use Rattle.yaml_tool.proofs.Common.{ℕ, List, [], ◌∷◌, ap, sym, ◌∙◌, arith, chars, outside, pieces_from, field_read, field_and}
use Rattle.yaml_tool.proofs.Common.{fields_read, prefix_of, seen_field_state, prepend_to_first_piece}
use Rattle.yaml_tool.proofs.CharacterLemmas.{nothing_passed, empty_prefix, one_passed, prefix_passed, all_passed}
use Rattle.yaml_tool.proofs.FieldLemmas.{whole_line, stops_first, goes_first, further_on, skip_run, run_within, field_before, field_alone}
use Rattle.yaml_tool.proofs.fields.first_field.Goals as goal

pub loop-character-init : goal.loop-character-init
loop-character-init c =
    let line = c.args.line.now in
    let rest = c.skip_run-rest.result.now in
    let runs = c.skip_run-rest.ensures in
    let passed = nothing_passed line c.utf8.line in
    let empty = ap (λ prefix. prepend_to_first_piece prefix (pieces_from outside (chars line))) (sym (empty_prefix line)) in record {
      passed = skip_run outside line line rest passed runs;
      cut = further_on outside line line rest (pieces_from outside (chars line)) passed runs empty;
      within = run_within outside line rest runs;
    }

pub returns-in_default-after-clause-cut : goal.returns-in_default-after-clause-cut
returns-in_default-after-clause-cut c =
    let standing = seen_field_state c.loop-character.standing in
    let line = c.args.line.now in
    let rest = c.loop-character.rest.now in
    let after = chars c.in-Some.after.now in
    let prefix = chars (prefix_of line rest) in
    field_before (chars line) prefix after
    (c.loop-character.invariant.cut
    ∙ stops_first standing c.in-Some.character prefix (chars rest) after c.in-Some.ensures.characters c.in_default-after.ensures)
    ∙ ap (λ (bytes : List ℕ). field_and (field_read (chars bytes)) (fields_read after)) (sym c.prefix_before.ensures)

pub loop-character-preserved : goal.loop-character-preserved
loop-character-preserved c =
    let before = c.loop-character.invariant in
    let line = c.args.line.now in
    let rest = c.loop-character.rest.now in
    let character = c.in-Some.character in
    let after = c.in-Some.after.now in
    let end = c.skip_run-rest-in-Some.result.now in
    let runs = c.skip_run-rest-in-Some.ensures in
    let standing = seen_field_state c.loop-character.standing in
    let next = seen_field_state c.in-Some-after.next in
    let passed = one_passed line rest after character before.passed c.in-Some.ensures.bytes in
    let cut =
    before.cut
    ∙ goes_first standing character (chars (prefix_of line rest)) (chars (prefix_of line after)) (chars rest) (chars after) c.in-Some.ensures.characters
    c.in-Some-after.ensures.0 (prefix_passed line rest after character before.passed c.in-Some.ensures.bytes)
    ∙ ap (λ s. prepend_to_first_piece (chars (prefix_of line after)) (pieces_from s (chars after))) (sym c.in-Some-after.ensures.1) in record {
      passed = skip_run next line after end passed runs;
      cut = further_on next line after end (pieces_from outside (chars line)) passed runs cut;
      within = omega (arith, before.within, c.in-Some.ensures.shorter, run_within next after end runs);
    }

pub returns-clause-cut : goal.returns-clause-cut
returns-clause-cut c =
    let line = c.args.line.now in
    let rest = c.loop-character.rest.now in
    let standing = seen_field_state c.loop-character.standing in
    let prefix = chars (prefix_of line rest) in
    let nothing = c.in_default.ensures.characters in
    field_alone (chars line) (chars line)
    (c.loop-character.invariant.cut ∙ ap (λ more. prepend_to_first_piece prefix (pieces_from standing more)) nothing ∙ whole_line prefix
    ∙ ap (λ (all : List ℕ). all ∷ []) (sym (all_passed line rest c.loop-character.invariant.passed nothing)))
