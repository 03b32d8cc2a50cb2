use Rattle.yaml_tool.proofs.Common.{ℕ, length, List, subst, Nowhere, NoneBefore, Passes, is_byte2}
use Rattle.yaml_tool.proofs.SearchLemmas.{delimiter_found, no_indicator}
use Rattle.yaml_tool.proofs.characters.from_delimiter.Goals as goal

pub returns-in-Some : goal.returns-in-Some
returns-in-Some c =
    let test = is_byte2 c.args.first c.args.second in
    let place = c.in-Some.place in
    delimiter_found c.args.first c.args.second c.args.text.now c.range_from.result.now place c.utf8.text c.requires.first c.requires.second
    (subst (λ (bytes : List ℕ). NoneBefore (Passes test bytes) 0 (length bytes) place × Passes test bytes place) c.as_bytes.ensures.value c.in-Some.ensures)
    c.range_from.ensures.value

pub returns-in-None : goal.returns-in-None
returns-in-None c =
    let test = is_byte2 c.args.first c.args.second in
    no_indicator c.args.first c.args.second c.args.text.now c.utf8.text c.requires.first c.requires.second
    (subst (λ (bytes : List ℕ). Nowhere (Passes test bytes) 0 (length bytes)) c.as_bytes.ensures.value c.in-None.ensures)
