use Rattle.yaml_tool.proofs.Common.{◌≤◌, length, ◌≡◌, chars, outside, pieces_from, prefix_of, seen_field_state, prepend_to_first_piece}
use Rattle.yaml_tool.proofs.CharacterLemmas.{PassedEvents}
use Rattle.yaml_tool.proofs.fields.first_field.Given as goal

abbrev pub invariant-loop-character : goal.invariant-loop-character
invariant-loop-character l = record {
  passed : PassedEvents l.line l.rest;
  cut : pieces_from outside (chars l.line)
      ≡ prepend_to_first_piece (chars (prefix_of l.line l.rest)) (pieces_from (seen_field_state l.standing) (chars l.rest));
  within : length l.rest ≤ length l.line;
}

abbrev pub decreases-loop-character : goal.decreases-loop-character
decreases-loop-character l = length l.rest
