-- The stream of two views that is made from a number: its state begins as the number.
use Rattle.std.specs.Prelude.{◌≡◌, ℕ, zero, suc, ◌+◌, ◌*◌, ◌%◌, List, [], ◌∷◌, ◌++◌, map, Vec, Option, Some, None, Result, Ok, Err}
use Rattle.std.specs.List.{flat_map, range_with_len}
use Rattle.std.specs.Global.{Global}
use Rattle.std.specs.declared.alloc.AllocError.{AllocError}
use Rattle.mv_units.specs.Escapes.{escape}
use Rattle.mv_gen.specs.Draws.{next, drawn, behind, draw, byte_of}
use Rattle.mv_gen.specs.Headers.{head_of, header_of}
use Rattle.mv_gen.specs.ParameterSets.{parameter_sets}

-- how many bytes are drawn for the slice segment before which this is the state: the first draw tells it
abbrev pub size : ℕ → ℕ
size state = 1 + drawn (next state) % 64

-- its data: as many bytes, each by a further draw, and then 80
unfoldable pub data_of : ℕ → List ℕ
data_of state = map (λ i. byte_of (draw (next state) i)) (range_with_len 0 (size state)) ++ 0x80 ∷ []

-- the state before slice segment i
abbrev pub state_before : ℕ → ℕ → ℕ
state_before number zero = number
state_before number (suc i) = behind (next (state_before number i)) (size (state_before number i))

-- slice segment i, with its layer and the low bits of its picture order count
unfoldable pub segment : ℕ → ℕ → ℕ → ℕ → List ℕ
segment number i layer lsb = escape (head_of layer lsb) (header_of layer lsb ++ data_of (state_before number i))

-- access unit k: a picture of each view
unfoldable pub access_unit : ℕ → ℕ → List (List ℕ)
access_unit number k = segment number (2 * k) 0 (k % 8) ∷ segment number (2 * k + 1) 1 (k % 8) ∷ []

-- the units: the parameter sets, and then those of as many access units
unfoldable pub gen_units : ℕ → ℕ → List (List ℕ)
gen_units number count = parameter_sets ++ flat_map (access_unit number) (range_with_len 0 count)

-- what a call answers that gives the next of the units that are left: None where none is left; of want of memory nothing is said
-- but that it changes nothing
abbrev pub Gives : List (List ℕ) → List (List ℕ) → Result (Option (Vec ℕ Global)) AllocError → Type 0
Gives left left_behind (Ok (Some unit)) = left ≡ unit.items ∷ left_behind
Gives left left_behind (Ok None) = (left ≡ []) × (left_behind ≡ [])
Gives left left_behind (Err error) = left_behind ≡ left
