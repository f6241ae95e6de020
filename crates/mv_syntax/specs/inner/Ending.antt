-- The end of a payload, as a reader on lists of bits finds it.
use Rattle.std.specs.Prelude.{ℕ, Bool, true, false, List, [], ◌∷◌, Option, Some, None, Result, Ok, Err, if◌then◌else◌}
use Rattle.mv_syntax.specs.Bits.{Fault, short, has_one}
use Rattle.mv_syntax.specs.Bits as bits
use Rattle.mv_syntax.specs.Ending.{end_bits}

-- the bits before the last set bit
unfoldable pub before_last_one : List Bool → Result (List Bool) Fault
before_last_one [] = Err short
before_last_one (x ∷ b) =
    if has_one b then bits.◌>>=◌ (before_last_one b) (λ tail. Ok (x ∷ tail)) else (if x then Ok [] else Err short)

-- the tail at the head of these bits: all up to the last set bit, where there is one
unfoldable pub take_tail : Bool → List Bool → Result (Option (List Bool)) Fault
take_tail false b = Ok None
take_tail true b = bits.◌>>=◌ (before_last_one b) (λ tail. Ok (Some tail))

-- two lists of bits are the same
abbrev pub same_bits : List Bool → List Bool → Bool
same_bits [] [] = true
same_bits [] (y ∷ ys) = false
same_bits (x ∷ xs) [] = false
same_bits (true ∷ xs) (true ∷ ys) = same_bits xs ys
same_bits (true ∷ xs) (false ∷ ys) = false
same_bits (false ∷ xs) (true ∷ ys) = false
same_bits (false ∷ xs) (false ∷ ys) = same_bits xs ys

-- the tail in the bits b behind the fields, which end at `place`: b is just the tail and the trailing bits
unfoldable pub read_end : Bool → ℕ → List Bool → Result (Option (List Bool)) Fault
read_end has_tail place b =
    bits.◌>>=◌ (take_tail has_tail b) (λ tail. if same_bits b (end_bits place tail) then Ok tail else Err short)
