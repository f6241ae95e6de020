-- A field of n bits is below 2 ^ n.
use Rattle.std.proofs.Common.{◌≡◌, ℕ, ◌<◌, ◌^◌, Bool, List, Ok}
use Rattle.mv_syntax.specs.Bits.{take_bits}
use Rattle.mv_syntax.proofs.BitLaws.{take_bits-printed}

pub fits : (n : ℕ) (b : List Bool) (v : ℕ) (rest : List Bool) → take_bits n 0 b ≡ Ok (v, rest) → v < 2 ^ n
fits n b v rest e = (take_bits-printed n b v rest e).1

pub ruleset small = (fits)
