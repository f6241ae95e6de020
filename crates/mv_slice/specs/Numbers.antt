-- What the conditions of a slice segment header ask of numbers (7.4.2.2, 7.4.7.1).
use Rattle.std.specs.Prelude.{ℕ, Bool, ◌&&◌, ◌||◌, nat_le, nat_eq}

-- an instantaneous decoding refresh picture, nal_unit_type 19 and 20
abbrev pub is_idr : ℕ → Bool
is_idr nal_unit_type = nat_eq nal_unit_type 19 || nat_eq nal_unit_type 20

-- an intra random access point picture, nal_unit_type 16 to 21 (22 and 23 are reserved)
abbrev pub is_irap : ℕ → Bool
is_irap nal_unit_type = nat_le 16 nal_unit_type && nat_le nal_unit_type 21

-- slice_type (table 7-7): 0 is B, 1 is P, 2 is I
abbrev pub is_b : ℕ → Bool
is_b slice_type = nat_eq slice_type 0

abbrev pub is_p : ℕ → Bool
is_p slice_type = nat_eq slice_type 1
