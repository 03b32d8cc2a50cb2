use Rattle.yaml_tool.proofs.Common.{◌≤◌, length, chars, IsFree, prefix_of}
use Rattle.yaml_tool.proofs.CharacterLemmas.{PassedEvents}
use Rattle.yaml_tool.proofs.characters.cut_once.Given as goal

abbrev pub invariant-loop-character : goal.invariant-loop-character
invariant-loop-character l = record {
  passed : PassedEvents l.text l.rest;
  free : IsFree l.delimiter (chars (prefix_of l.text l.rest));
  within : length l.rest ≤ length l.text;
}

abbrev pub decreases-loop-character : goal.decreases-loop-character
decreases-loop-character l = length l.rest
