-- How many coefficients a list has.
use Rattle.std.proofs.Common.{◌≡◌, ℕ, ◌+◌, ◌*◌, ◌^◌, ◌<◌, ◌≤◌, arith, pow_mono}
use Rattle.mv_common.specs.ScalingLists.{num_coefficients}

pub many_coefficients : (s : ℕ) → 0 < s → num_coefficients s ≡ 64
many_coefficients s h = let most : 2 ^ 6 ≤ 2 ^ (4 + 2 * s) = pow_mono {i = 6} {j = 4 + 2 * s} (omega arith) in omega arith
