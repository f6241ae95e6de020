-- The slice segment header of each view by its bytes.
use Rattle.std.specs.Prelude.{ℕ, ◌+◌, ◌*◌, ◌/◌, ◌%◌, List, [], ◌∷◌, nat_eq, if◌then◌else◌}

-- of an IDR picture, and of the others with each low bits of their picture order count
abbrev pub base_header : ℕ → List ℕ
base_header lsb = if nat_eq lsb 0 then 0xAF ∷ [] else (0xD0 + lsb / 2) ∷ (lsb % 2 * 128 + 0x17) ∷ 0x70 ∷ []

abbrev pub second_header : ℕ → List ℕ
second_header lsb = if nat_eq lsb 0 then 0x92 ∷ 0x07 ∷ [] else 0xA4 ∷ (lsb * 32 + 5) ∷ 0xEB ∷ 0x80 ∷ []
