-- What a reader of bits keeps: some bits in hand, and the bytes behind them.
use Rattle.std.specs.Prelude.{◌≡◌, ℕ, ◌^◌, ◌<◌, ◌+◌, ◌%◌, Bool, List, ◌++◌, length, drop, ◌-◌, ◌≤◌, nat_lt}
use Rattle.std.specs.Borrow.{Bor}
use Rattle.mv_syntax.specs.Bits.{u_bits, byte_bits, has_one}
use Rattle.mv_syntax.specs.Cursor.{Cursor, place}

-- the bits of `count` bits in hand, as the number `word`, and of the bytes behind them
unfoldable pub window_bits : ℕ → ℕ → List ℕ → List Bool
window_bits count word bytes = u_bits count word ++ byte_bits bytes

-- what is left, as bits in hand and the bytes behind them, where a bit is in hand; the string ends where a byte does
pub record IsWindow (cursor : Cursor) (window : ℕ × ℕ × Bor (List ℕ)) : Type 0 where
  pub left : window_bits window.1 window.0 window.2.now ≡ cursor.left
  pub some : 0 < window.1
  pub narrow : window.1 < 64
  pub in_hand : window.0 < 2 ^ window.1
  pub whole : (place cursor + length cursor.left) % 8 ≡ 0

-- what is known of the last set bit: behind n of these bytes, which are the last of `whole`, a bit is set where that many bytes
-- of the whole are fewer than `set`
pub record SetKnown (set whole : ℕ) (bytes : List ℕ) : Type 0 where
  pub within : set ≤ whole
  pub known : (n : ℕ) → has_one (byte_bits (drop n bytes)) ≡ nat_lt (whole - length bytes + n) set
