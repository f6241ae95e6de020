-- The end of a payload, as a reader of bits finds it in its last byte.
use Rattle.std.specs.Prelude.{◌≡◌, ℕ, ◌+◌, ◌-◌, ◌<◌, ◌≤◌, Bool, true, false, List, ◌∷◌, ◌++◌, length, drop, replicate}
use Rattle.mv_syntax.specs.Bits.{u_bits, byte_bits, has_one, trailing_bits}
use Rattle.mv_syntax.specs.Cursor.{Cursor, place}
use Rattle.mv_bits.specs.declared.ending.Tail.{Tail}

-- None of the last eight bits is set
abbrev pub LacksOne : List Bool → Type 0
LacksOne b = has_one (drop (length b - 8) b) ≡ false

-- the bits are `front`, a number and how many bits it has, then the last set bit and at most seven zeros
pub record Before (b : List Bool) (front : ℕ × ℕ) : Type 0 where
  pub zeros : ℕ
  pub few : zeros < 8
  pub narrow : front.1 ≤ 64
  pub bits : b ≡ u_bits front.1 front.0 ++ true ∷ replicate zeros false

-- what is left is this tail and the trailing bits
abbrev pub Ends : Cursor → List Bool → Type 0
Ends cursor tail = cursor.left ≡ tail ++ trailing_bits (place cursor + length tail)

-- the bits of a tail, from its three parts
abbrev pub tail_of : Tail → List Bool
tail_of t = (u_bits t.first.1 t.first.0 ++ byte_bits t.bytes.now) ++ u_bits t.last.1 t.last.0

-- this tail and the trailing bits are what is left
pub record IsTail (cursor : Cursor) (tail : Tail) : Type 0 where
  pub ends : Ends cursor (tail_of tail)
  pub first : tail.first.1 ≤ 64
  pub last : tail.last.1 ≤ 64
