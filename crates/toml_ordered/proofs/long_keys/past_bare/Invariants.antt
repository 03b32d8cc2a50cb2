use Rattle.toml_ordered.proofs.Common.{◌≡◌, ◌<◌, drop, length, Utf8, shadow, prefix_len, is_bare}
use Rattle.toml_ordered.proofs.long_keys.past_bare.Given as goal

abbrev pub invariant-bytes : goal.invariant-bytes
invariant-bytes l = shadow (Utf8 l.rest) × (length l.rest < length l.s) × (drop (prefix_len is_bare l.s) l.s ≡ drop (prefix_len is_bare l.rest) l.rest)

abbrev pub decreases-bytes : goal.decreases-bytes
decreases-bytes l = length l.rest
