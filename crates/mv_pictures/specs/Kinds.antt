-- What a unit is by its nal_unit_type (7.4.2.2, table 7-1).
use Rattle.std.specs.Prelude.{ℕ, Bool, ◌&&◌, ◌||◌, nat_eq, nat_le, ◌%◌}
use Rattle.mv_slice.specs.Numbers.{is_irap}

-- a type from the first to the last of a range
abbrev pub is_within : ℕ → ℕ → ℕ → Bool
is_within first last kind = nat_le first kind && nat_le kind last

-- a slice segment of a coded picture: 0 to 9, and 16 to 21; 10 to 15, 22 and 23 are reserved
abbrev pub is_slice_kind : ℕ → Bool
is_slice_kind kind = nat_le kind 9 || is_irap kind

-- a sub-layer non-reference picture, TRAIL_N, TSA_N, STSA_N, RADL_N and RASL_N: the even types of 0 to 9
abbrev pub is_sub_layer_non_reference : ℕ → Bool
is_sub_layer_non_reference kind = nat_le kind 9 && nat_eq (kind % 2) 0

-- the leading pictures: random access decodable, RADL_N and RADL_R, and random access skipped, RASL_N and RASL_R
abbrev pub is_radl : ℕ → Bool
is_radl kind = is_within 6 7 kind

abbrev pub is_rasl : ℕ → Bool
is_rasl kind = is_within 8 9 kind

-- a broken link access picture, BLA_W_LP, BLA_W_RADL and BLA_N_LP
abbrev pub is_bla : ℕ → Bool
is_bla kind = is_within 16 18 kind

-- the parameter sets, VPS_NUT, SPS_NUT and PPS_NUT
abbrev pub is_vps_kind : ℕ → Bool
is_vps_kind kind = nat_eq kind 32

abbrev pub is_sps_kind : ℕ → Bool
is_sps_kind kind = nat_eq kind 33

abbrev pub is_pps_kind : ℕ → Bool
is_pps_kind kind = nat_eq kind 34

-- the end of a sequence, EOS_NUT, and of the bitstream, EOB_NUT
abbrev pub is_eos_kind : ℕ → Bool
is_eos_kind kind = nat_eq kind 36

abbrev pub is_eob_kind : ℕ → Bool
is_eob_kind kind = nat_eq kind 37

-- what begins an access unit behind a slice segment where its layer is 0, beside slice segments (7.4.2.4.4): a
-- parameter set, AUD_NUT, PREFIX_SEI_NUT, 41 to 44 and 48 to 55
abbrev pub is_opening_kind : ℕ → Bool
is_opening_kind kind = is_within 32 35 kind || nat_eq kind 39 || is_within 41 44 kind || is_within 48 55 kind
