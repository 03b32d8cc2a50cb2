use Rattle.yaml_mark.proofs.Common.{false, true, lit<, sym, strip_prefix_char}
use Rattle.std.proofs.lemmas.Str.Pattern.{strip_suffix_char}
use Rattle.yaml_mark.proofs.HandleLemmas as fact
use Rattle.yaml_mark.proofs.names.analyze_handle.Goals as goal

pub returns-then-is_empty : goal.returns-then-is_empty
returns-then-is_empty c = fact.empty_handle c.args.handle.now (sym c.if-is_empty.ensures)

pub returns-in_default : goal.returns-in_default
returns-in_default c =
    let start = strip_prefix_char 33 c.args.handle.now c.strip_prefix.result c.strip_prefix.ensures.cases (lit< tt) in
    fact.no_start c.args.handle.now c.utf8.handle (sym c.if-is_empty.ensures) (rw c.in_default.is at start)

pub returns-then-is_empty-2 : goal.returns-then-is_empty-2
returns-then-is_empty-2 c =
    let start = strip_prefix_char 33 c.args.handle.now c.strip_prefix.result c.strip_prefix.ensures.cases (lit< tt) in
    fact.exclamation_alone c.args.handle.now c.in-Some.rest.now c.utf8.handle (rw c.in-Some.is at start) (sym c.if-is_empty-2.ensures)

pub returns-in_default-strip_suffix : goal.returns-in_default-strip_suffix
returns-in_default-strip_suffix c =
    let start = strip_prefix_char 33 c.args.handle.now c.strip_prefix.result c.strip_prefix.ensures.cases (lit< tt) in
    let end = strip_suffix_char 33 c.in-Some.rest.now c.strip_suffix.result c.strip_suffix.ensures.cases (lit< tt) in
    fact.no_end c.args.handle.now c.in-Some.rest.now c.utf8.handle (rw c.in-Some.is at start) (sym c.if-is_empty-2.ensures)
    (rw c.in_default-strip_suffix.is at end)

pub returns-then-not-is_all_alpha : goal.returns-then-not-is_all_alpha
returns-then-not-is_all_alpha c =
    let start = strip_prefix_char 33 c.args.handle.now c.strip_prefix.result c.strip_prefix.ensures.cases (lit< tt) in
    let end = strip_suffix_char 33 c.in-Some.rest.now c.strip_suffix.result c.strip_suffix.ensures.cases (lit< tt) in
    fact.both_exclamations c.args.handle.now c.in-Some.rest.now c.in-Some-strip_suffix.middle.now false c.utf8.handle
    (rw c.in-Some.is at start) (rw c.in-Some-strip_suffix.is at end) (sym c.if-not-is_all_alpha.ensures)

pub returns : goal.returns
returns c =
    let start = strip_prefix_char 33 c.args.handle.now c.strip_prefix.result c.strip_prefix.ensures.cases (lit< tt) in
    let end = strip_suffix_char 33 c.in-Some.rest.now c.strip_suffix.result c.strip_suffix.ensures.cases (lit< tt) in
    fact.both_exclamations c.args.handle.now c.in-Some.rest.now c.in-Some-strip_suffix.middle.now true c.utf8.handle
    (rw c.in-Some.is at start) (rw c.in-Some-strip_suffix.is at end) (sym c.if-not-is_all_alpha.ensures)
