-- What a writer of bits has written.
use Rattle.std.specs.Prelude.{◌≡◌, ℕ, ◌^◌, ◌<◌, ◌≤◌, Bool, List, ◌++◌, length, take}
use Rattle.mv_syntax.specs.Bits.{u_bits, byte_bits}

-- the bits of the bytes, and then the `count` bits of the number `word`
unfoldable pub written_bits : List ℕ → ℕ → ℕ → List Bool
written_bits bytes count word = byte_bits bytes ++ u_bits count word

-- the bytes and the number behind them, `last` of a count of bits below 8, now hold these bits, and the first `before`
-- bytes are the old ones
pub record Extends (before : ℕ) (old new : List ℕ) (bits : List Bool) (last : ℕ × ℕ) : Type 0 where
  pub written : written_bits new last.1 last.0 ≡ bits
  pub narrow : last.1 < 8
  pub in_hand : last.0 < 2 ^ last.1
  pub long : before ≤ length new
  pub kept : take before new ≡ take before old
