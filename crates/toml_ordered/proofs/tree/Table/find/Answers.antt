use Rattle.toml_ordered.proofs.Common.{◌≡◌, ◌≤◌, ◌<◌, length, get_or, true, false, Some, None, string_bytes, bytes_eq, arith, common_steps, get_by_text}
use Rattle.toml_ordered.proofs.KeyPlaces.{absent, absent_other, indexed_here, key_here, not_other, not_past}
use Rattle.toml_ordered.proofs.tree.Table.find.Goals as goal

pub returns-in-None-clause-found : goal.returns-in-None-clause-found
returns-in-None-clause-found c =
    let none : get_by_text c.args.self.now.index c.args.key.now ≡ None = grind (arith, common_steps) in
    absent c.args.key.now c.args.self.now.keys.items c.args.self.now.index c.in_default.ensures.found none

pub returns-then-at-len-clause-found : goal.returns-then-at-len-clause-found
returns-then-at-len-clause-found c =
    let es = c.args.self.now.keys.items in
    let at = c.in-Some-get.at.now in
    let is : get_by_text c.args.self.now.index c.args.key.now ≡ Some at = grind (arith, common_steps) in
    let past : length es ≤ at = grind (arith, common_steps) in
    absent_other c.args.key.now es c.args.self.now.index c.in_default.ensures.found at is (not_past c.args.key.now at es past)

pub returns-then-eq-clause-found : goal.returns-then-eq-clause-found
returns-then-eq-clause-found c =
    let es = c.args.self.now.keys.items in
    let at = c.in-Some-get.at.now in
    let e = c.index.result.now in
    let is : get_by_text c.args.self.now.index c.args.key.now ≡ Some at = grind (arith, common_steps) in
    let within : at < length es = grind (arith, common_steps) in
    let here : bytes_eq c.args.key.now (string_bytes (get_or es at e).0) ≡ true = grind (arith, common_steps) in
    indexed_here c.args.key.now es c.args.self.now.index c.in_default.ensures.found at is (key_here c.args.key.now at es e within here)

pub returns-else-eq-clause-found : goal.returns-else-eq-clause-found
returns-else-eq-clause-found c =
    let es = c.args.self.now.keys.items in
    let at = c.in-Some-get.at.now in
    let e = c.index.result.now in
    let is : get_by_text c.args.self.now.index c.args.key.now ≡ Some at = grind (arith, common_steps) in
    let other : bytes_eq c.args.key.now (string_bytes (get_or es at e).0) ≡ false = grind (arith, common_steps) in
    absent_other c.args.key.now es c.args.self.now.index c.in_default.ensures.found at is (not_other c.args.key.now at es e other)
