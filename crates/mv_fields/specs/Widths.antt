-- The widths of fields that number the things of a list.
use Rattle.std.specs.Prelude.{◌≡◌, ℕ, ◌^◌, ◌≤◌, nat_le}
use Rattle.mv_fields.specs.inner.Search.{first_from}

-- Ceil(Log2(x)) (5.8), for x up to 2 ^ 32: the least k with 2 ^ k at least x
unfoldable pub clog2 : ℕ → ℕ
clog2 x = first_from 32 0 (λ k. nat_le x (2 ^ k))

-- k is the least number with 2 ^ k at least x
pub record IsClog2 (x k : ℕ) : Type 0 where
  pub enough : x ≤ 2 ^ k
  pub least : (j : ℕ) → x ≤ 2 ^ j → k ≤ j
