-- Emulation prevention (7.3.1.1, 7.4.2): the payload of a unit, and a unit of a payload.
use Rattle.std.specs.Prelude.{ℕ, ◌+◌, ◌*◌, ◌/◌, ◌%◌, Bool, ◌==◌, ◌&&◌, nat_le, List, [], ◌∷◌, if◌then◌else◌}
use Rattle.mv_units.specs.declared.head.UnitHead.{UnitHead}

-- whether two bytes are both zero
abbrev pub both_zero : ℕ → ℕ → Bool
both_zero a b = (a == 0) && (b == 0)

-- the bytes s of a unit, in which a and b stand before them, less each emulation_prevention_three_byte:
-- each 03 whose two preceding bytes in the unit are both zero (7.3.1.1)
unfoldable pub unescaped : ℕ → ℕ → List ℕ → List ℕ
unescaped a b [] = []
unescaped a b (c ∷ s) = if both_zero a b && (c == 3) then unescaped b c s else c ∷ unescaped b c s

-- the payload of a unit (7.3.1.1, rbsp_byte): the bytes after its head less each emulation_prevention_three_byte
unfoldable pub payload : List ℕ → List ℕ
payload (a ∷ b ∷ s) = unescaped a b s
payload s = []

-- the two bytes of a head (7.3.1.2), with forbidden_zero_bit 0
abbrev pub head_first : UnitHead → ℕ
head_first h = h.kind * 2 + h.layer / 32

abbrev pub head_second : UnitHead → ℕ
head_second h = h.layer % 32 * 8 + (h.tid + 1)

-- the payload bytes s as they stand in a unit behind a and b (7.4.2): a 03 before each byte from 0 to 3
-- where the two bytes before it in the unit are both zero, and one at the end where they are there
unfoldable pub escaped : ℕ → ℕ → List ℕ → List ℕ
escaped a b [] = if both_zero a b then 3 ∷ [] else []
escaped a b (c ∷ s) = if both_zero a b && nat_le c 3 then 3 ∷ c ∷ escaped 3 c s else c ∷ escaped b c s

-- the unit with a head and a payload
abbrev pub escape : UnitHead → List ℕ → List ℕ
escape h p = head_first h ∷ head_second h ∷ escaped (head_first h) (head_second h) p
