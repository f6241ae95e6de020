-- The name of a unit's type (7.4.2.2, table 7-1).
use Rattle.std.specs.Prelude.{ℕ, List, [], ◌∷◌, ◌++◌, get_or, length, nat_eq, codes, decimal, if◌then◌else◌}

-- the name of each nal_unit_type from 0 on, which is empty where it has none
abbrev pub names : List (List ℕ)
names =
    codes "TRAIL_N" ∷ codes "TRAIL_R" ∷ codes "TSA_N" ∷ codes "TSA_R"
    ∷ codes "STSA_N" ∷ codes "STSA_R"
    ∷ codes "RADL_N" ∷ codes "RADL_R" ∷ codes "RASL_N" ∷ codes "RASL_R"
    ∷ [] ∷ [] ∷ [] ∷ [] ∷ [] ∷ []
    ∷ codes "BLA_W_LP" ∷ codes "BLA_W_RADL" ∷ codes "BLA_N_LP"
    ∷ codes "IDR_W_RADL" ∷ codes "IDR_N_LP" ∷ codes "CRA"
    ∷ [] ∷ [] ∷ [] ∷ [] ∷ [] ∷ [] ∷ [] ∷ [] ∷ [] ∷ []
    ∷ codes "VPS" ∷ codes "SPS" ∷ codes "PPS" ∷ codes "AUD" ∷ codes "EOS" ∷ codes "EOB"
    ∷ codes "FILLER" ∷ codes "PREFIX_SEI" ∷ codes "SUFFIX_SEI" ∷ []

-- a type that has no name has its number
unfoldable pub type_name : ℕ → List ℕ
type_name kind =
    if nat_eq (length (get_or names kind [])) 0 then codes "TYPE_" ++ decimal kind else get_or names kind []
