use Rattle.yaml_read.proofs.Common.{◌<◌, length, string_bytes, Utf8, shadow}
use Rattle.yaml_read.proofs.{BreakingNodes.PassesCharacters, CharactersRead.ReadSoFar, QuotedTexts.ReadsOn}
use Rattle.yaml_read.proofs.quoted.read_quoted.Given as goal

abbrev pub invariant-characters : goal.invariant-characters
invariant-characters g l = shadow (Utf8 l.rest) × (length l.rest < length l.fn.text) × ReadsOn l.fn.text (string_bytes l.value) l.rest
    × ReadSoFar l.fn.text (string_bytes l.value) l.rest × PassesCharacters l.fn.text l.rest

abbrev pub decreases-characters : goal.decreases-characters
decreases-characters g l = length l.rest
