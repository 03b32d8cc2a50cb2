use Rattle.yaml_scalar.proofs.Common.{ℕ, if◌then◌else◌, Bool, true, List, ◌++◌, ◌≡◌, ap, sym, ◌∙◌, list_all, chars-cut, Text, space, Charset, BarredStyles}
use Rattle.yaml_scalar.proofs.Common.{barred_by, barred_in, none_barred, either, is_quiet, barred_by_space, last_from}
use Rattle.yaml_base.proofs.Common.{chars}
use Rattle.yaml_scalar.proofs.{Barred.either_none, Barred.either_more, Barred.quiet_run, ByteRuns.run_boundary, ByteRuns.free_passes}
use Rattle.yaml_scalar.proofs.analysis.skip_quiet.Goals as goal

-- quiet characters bar the styles that a space at their end bars
quiet_skipped : (charset : Charset) (found after : BarredStyles) (quiet rest : Text) (last : ℕ) → list_all (is_quiet charset) quiet ≡ true
    → last ≡ last_from 0 quiet → after ≡ either found (barred_by_space charset last rest)
    → either found (barred_in charset (quiet ++ rest)) ≡ either after (barred_in charset rest)
quiet_skipped charset found after quiet rest last all is seen =
    ap (either found) (quiet_run charset quiet rest all)
    ∙ either_more found (barred_by_space charset (last_from 0 quiet) rest) (barred_in charset rest)
    ∙ ap (λ l. either (either found (barred_by_space charset l rest)) (barred_in charset rest)) (sym is)
    ∙ ap (λ (b : BarredStyles). either b (barred_in charset rest)) (sym seen)

pub split_at-requires : goal.split_at-requires
split_at-requires c = run_boundary c.free_length.ensures

pub returns-then-is_space-clause-same : goal.returns-then-is_space-clause-same
returns-then-is_space-clause-same c =
    let charset = c.args.charset in
    let found = c.args.barred in
    let quiet : List ℕ = c.split_at.result.0.now in
    let rest : List ℕ = c.split_at.result.1.now in
    let all : list_all (is_quiet charset) (chars quiet) ≡ true =
    ap (λ l. list_all (is_quiet charset) (chars l)) c.split_at.ensures.front ∙ free_passes c.significant_classes.ensures c.utf8.text c.free_length.ensures in
    ap (λ t. either found (barred_in charset t))
    (chars-cut c.args.text.now quiet rest c.free_length.result c.utf8.text
    (run_boundary c.free_length.ensures) c.split_at.ensures.front c.split_at.ensures.back)
    ∙ quiet_skipped charset found c.with_next.result (chars quiet) (chars rest) c.last_of.result all c.last_of.ensures
    (c.with_next.ensures
    ∙ ap (λ (spaced : Bool). either found (if spaced then barred_by charset space (chars rest) else none_barred)) c.if-is_space.ensures)

pub returns-else-is_space-clause-same : goal.returns-else-is_space-clause-same
returns-else-is_space-clause-same c =
    let charset = c.args.charset in
    let found = c.args.barred in
    let quiet : List ℕ = c.split_at.result.0.now in
    let rest : List ℕ = c.split_at.result.1.now in
    let all : list_all (is_quiet charset) (chars quiet) ≡ true =
    ap (λ l. list_all (is_quiet charset) (chars l)) c.split_at.ensures.front ∙ free_passes c.significant_classes.ensures c.utf8.text c.free_length.ensures in
    ap (λ t. either found (barred_in charset t))
    (chars-cut c.args.text.now quiet rest c.free_length.result c.utf8.text
    (run_boundary c.free_length.ensures) c.split_at.ensures.front c.split_at.ensures.back)
    ∙ quiet_skipped charset found found (chars quiet) (chars rest) c.last_of.result all c.last_of.ensures
    (sym (either_none found)
    ∙ ap (λ (spaced : Bool). either found (if spaced then barred_by charset space (chars rest) else none_barred)) c.if-is_space.ensures)
