use Rattle.toml_ordered.proofs.Common.{◌≡◌, TomlNode, node_view, sealed, key_view, Key}
use Rattle.toml_ordered.{specs.declared.values.Open.TheVariants.Braces, proofs.Conflicts.other_than, proofs.Turns.val_sealed}
use Rattle.toml_ordered.proofs.Around.{braces_again, braces_more, braces_parted, braces_unended, pair_goes_on}
use Rattle.toml_ordered.proofs.values.put_pair.Goals as goal

pub returns-in-Err : goal.returns-in-Err
returns-in-Err c depth text at (rest, known, other, named, is) read =
    let member : TomlNode = node_view c.args.value in
    let same : sealed member ≡ member = val_sealed depth at member c.args.s.now read.0 in
    braces_again _ _ _ _ known other _ at named _ _ read.0 _ is _ (λ real. rw same at (c.in-Err.ensures.0 real)) (rw same at c.in-Err.ensures.1)

pub returns-in-Ok : goal.returns-in-Ok
returns-in-Ok c =
    let key : Key = key_view c.args.braces.key in
    let member : TomlNode = node_view c.args.value in
    pair_goes_on (Braces c.args.braces) c.args.value c.args.s.now c.in-Ok.rest.now c.put.new.table c.next_pair.result (λ depth text at inside read.
    let (rest, known, other, named, is) = inside in
    let same : sealed member ≡ member = val_sealed depth at member c.args.s.now read.0 in
    braces_more depth text c.args.braces.table rest known other key at named member c.args.s.now read.0 c.args.braces.left is c.put.new.table c.in-Ok.rest.now
    read.1 (rw same at c.in_default.ensures.0) c.in_default.ensures.1 c.in-Ok.ensures.0) c.in-Ok.ensures.1 c.next_pair.ensures

pub returns : goal.returns
returns c depth text at (rest, known, other, named, is) read =
    let key : Key = key_view c.args.braces.key in
    let member : TomlNode = node_view c.args.value in
    let same : sealed member ≡ member = val_sealed depth at member c.args.s.now read.0 in (
      (λ real. braces_unended _ _ _ _ known other _ at named _ _ read.0 _ (rw same at c.in_default.ensures.0) (c.in-Err-past_element.ensures.0 real)),
      other_than _ _ c.in-Err-past_element.fault (λ real. braces_parted depth text c.args.braces.table rest known key at named member c.args.s.now read.0 _
          (rw same at c.in_default.ensures.0) (c.in-Err-past_element.ensures.0 real)) c.in-Err-past_element.ensures.1,
    )
