-- The end of a payload (7.3.2.11): a tail, whose bits are given no meaning, and the trailing bits.
use Rattle.std.specs.Prelude.{ℕ, ◌+◌, Bool, List, [], ◌++◌, length, Option, Some, None}
use Rattle.mv_syntax.specs.Bits.{trailing_bits}

-- the bits of a tail
abbrev pub tail_bits : Option (List Bool) → List Bool
tail_bits (Some tail) = tail
tail_bits None = []

-- what stands behind the fields, which end at `place`: the tail, which is all bits before the last set bit, and the trailing
-- bits, which are that bit and zeros up to the end of the byte
abbrev pub end_bits : ℕ → Option (List Bool) → List Bool
end_bits place tail = tail_bits tail ++ trailing_bits (place + length (tail_bits tail))
