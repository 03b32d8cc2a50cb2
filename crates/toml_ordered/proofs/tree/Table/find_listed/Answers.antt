use Rattle.toml_ordered.proofs.Common.{◌≡◌, ◌≤◌, ◌<◌, length, get_or, true, false, string_bytes, bytes_eq, arith, common_steps}
use Rattle.toml_ordered.proofs.KeyPlaces.{key_here, listed_here, seen_all, seen_more}
use Rattle.toml_ordered.proofs.tree.Table.find_listed.Goals as goal

pub keys-preserved : goal.keys-preserved
keys-preserved c =
    let es = c.args.self.now.keys.items in
    let e = c.index.result.now in
    let within : c.keys.at < length es = grind (arith, common_steps) in
    let other : bytes_eq c.args.key.now (string_bytes (get_or es c.keys.at e).0) ≡ false = grind (arith, common_steps) in
    λ before less has. seen_more c.args.key.now c.keys.at es e within other c.keys.invariant before (omega (arith, less)) has

pub returns-then-eq-clause-found : goal.returns-then-eq-clause-found
returns-then-eq-clause-found c =
    let es = c.args.self.now.keys.items in
    let e = c.index.result.now in
    let listed : c.keys.at < 16 = grind (arith, common_steps) in
    let within : c.keys.at < length es = grind (arith, common_steps) in
    let here : bytes_eq c.args.key.now (string_bytes (get_or es c.keys.at e).0) ≡ true = grind (arith, common_steps) in
    listed_here c.args.key.now c.keys.at es c.args.self.now.index listed (key_here c.args.key.now c.keys.at es e within here) c.keys.invariant

pub returns-else-at-len-clause-found : goal.returns-else-at-len-clause-found
returns-else-at-len-clause-found c =
    let es = c.args.self.now.keys.items in
    let past : length es ≤ c.keys.at = grind (arith, common_steps) in
    λ at less has. seen_all c.args.key.now c.keys.at es past c.keys.invariant at has
