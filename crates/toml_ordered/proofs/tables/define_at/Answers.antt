use Rattle.toml_ordered.proofs.Common.{string_bytes, ◌∙◌, definition_view, Edit}
use Rattle.toml_ordered.{proofs.FirstKeys.refused_reworded, proofs.Turns.along_end, specs.Tables.at_key}
use Rattle.toml_ordered.proofs.tables.define_at.Goals as goal

pub returns-in-Err : goal.returns-in-Err
returns-in-Err c =
    let edit : Edit = at_key (string_bytes c.args.entry.key) (definition_view c.args.entry.what) in
    let same = c.replace-outermost.ensures.value in (
      λ real. rw same at (c.in-Err.ensures.value edit real),
      rw same at (c.in-Err.ensures.again (string_bytes c.args.entry.key) (definition_view c.args.entry.what)),
    )

pub returns-in-Err-at_key : goal.returns-in-Err-at_key
returns-in-Err-at_key c =
    let edit : Edit = at_key (string_bytes c.args.entry.key) (definition_view c.args.entry.what) in
    let same = c.replace-outermost.ensures.value in
    let refused = c.in-Err-at_key.ensures in
    refused_reworded _ _ c.args.entry.left _ _ c.in-Err-at_key.fault c.named.result c.named.ensures (
      λ real. rw same at (c.in-Ok.ensures.refused edit (along_end edit _ ∙ refused.0 real)),
      rw same at (c.in-Ok.ensures.again (string_bytes c.args.entry.key) (definition_view c.args.entry.what) c.in-Err-at_key.fault refused.1),
    )

pub returns : goal.returns
returns c =
    let edit : Edit = at_key (string_bytes c.args.entry.key) (definition_view c.args.entry.what) in
    let same = c.replace-outermost.ensures.value in
    let passes = c.in-Ok.ensures in
    let last = c.at_key.new.table in
    let whole = c.ascend.result in (
      rw same at (passes.value edit last whole c.ascend.ensures (along_end edit _ ∙ c.in_default.ensures.0)),
      rw same at (passes.firsts (string_bytes c.args.entry.key) last whole c.ascend.ensures c.in_default.ensures.1),
    )
