-- The side of a coding tree block.
use Rattle.std.proofs.Common.{ℕ, zero, suc, ◌+◌, ◌*◌, ◌^◌, ◌%◌, ◌≤◌, arith}

pub side_least : (n : ℕ) → n ≤ 3 → 8 ≤ 1 * 2 ^ (n + 3) % 4294967296
side_least zero h = omega arith
side_least (suc zero) h = omega arith
side_least (suc (suc zero)) h = omega arith
side_least (suc (suc (suc zero))) h = omega arith
side_least (suc (suc (suc (suc n)))) h = absurd (omega (arith, h))

pub side_most : (n : ℕ) → n ≤ 3 → 1 * 2 ^ (n + 3) % 4294967296 ≤ 64
side_most zero h = omega arith
side_most (suc zero) h = omega arith
side_most (suc (suc zero)) h = omega arith
side_most (suc (suc (suc zero))) h = omega arith
side_most (suc (suc (suc (suc n)))) h = absurd (omega (arith, h))
