-- The head of a unit (7.3.1.2): its first two bytes. Of a unit with fewer bytes these definitions say nothing.
use Rattle.std.specs.Prelude.{ℕ, ◌+◌, ◌-◌, ◌*◌, ◌/◌, ◌%◌, List, slice_index}
use Rattle.mv_units.specs.declared.head.UnitHead.{UnitHead}

-- f(1): the top bit of the first byte
abbrev pub forbidden_zero_bit : List ℕ → ℕ
forbidden_zero_bit u = slice_index u 0 / 128

-- u(6): the six bits behind it
abbrev pub nal_unit_type : List ℕ → ℕ
nal_unit_type u = slice_index u 0 / 2 % 64

-- u(6): the last bit of the first byte, and the top five of the second
abbrev pub nuh_layer_id : List ℕ → ℕ
nuh_layer_id u = slice_index u 0 % 2 * 32 + slice_index u 1 / 8

-- u(3): the last three bits of the second byte
abbrev pub nuh_temporal_id_plus1 : List ℕ → ℕ
nuh_temporal_id_plus1 u = slice_index u 1 % 8

-- TemporalId (7.4.2.2): nuh_temporal_id_plus1 less 1
abbrev pub temporal_id : List ℕ → ℕ
temporal_id u = nuh_temporal_id_plus1 u - 1

-- the head as a value
abbrev pub head : List ℕ → UnitHead
head u = record { kind = nal_unit_type u; layer = nuh_layer_id u; tid = temporal_id u }
