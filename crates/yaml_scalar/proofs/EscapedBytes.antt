-- The escaped characters of ASCII, by the classes of bytes.
use Rattle.yaml_scalar.proofs.Common.{ℕ, ◌<◌, Bool, false, not, true, refl, ◌≡◌, agree_below_at, needs_escape, is_free}

-- by computing
pub escaped_below : (unicode : Bool) (b : ℕ) → b < 128 → not (is_free 73 b) ≡ needs_escape unicode b
escaped_below true b low = agree_below_at (λ k. not (is_free 73 k)) (λ k. needs_escape true k) 128 b refl low
escaped_below false b low = agree_below_at (λ k. not (is_free 73 k)) (λ k. needs_escape false k) 128 b refl low
