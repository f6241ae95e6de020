-- profile_tier_level(present, subs) (7.3.3).
use Rattle.std.specs.Prelude.{ℕ, ◌-◌, Bool, List, Option, slice_index, refl}
use Rattle.mv_syntax.specs.Table.{Table, ◌>>=◌, u, named, when, shaped}
use Rattle.mv_syntax.specs.Words.{◌▸◌, ◌>>◌, over, is_set}
use Rattle.mv_syntax.specs.Loops.{items, columns}
use Rattle.mv_common.specs.declared.profile.Profile.{Profile}
use Rattle.mv_common.specs.Profile.{profile}

pub record ProfileTierValue : Type 0 where
  pub profile : Option Profile
  pub level_idc : ℕ
  pub sub_layer_profile_present_flag : List ℕ
  pub sub_layer_level_present_flag : List ℕ
  pub reserved_zero_2bits : Option (List ℕ)
  pub sub_layer_profile : List (Option Profile)
  pub sub_layer_level_idc : List (Option ℕ)

-- for i = 0 to subs-1
unfoldable pub sub_layer_flags : ℕ → Table (ℕ × ℕ)
sub_layer_flags i = do
  named "sub_layer_profile_present_flag" (u 1)
  named "sub_layer_level_present_flag" (u 1)

unfoldable pub all_sub_layer_flags : ℕ → Table (List ℕ × List ℕ)
all_sub_layer_flags subs = columns 0 subs sub_layer_flags

-- for i = subs to 7
unfoldable pub reserved_pair : ℕ → Table ℕ
reserved_pair i = named "reserved_zero_2bits" (u 2)

unfoldable pub reserved_bits : ℕ → Table (List ℕ)
reserved_bits subs = items subs (8 - subs) reserved_pair

-- for i = 0 to subs-1, by the flags of i
unfoldable pub sub_layer : List ℕ → List ℕ → ℕ → Table (Option Profile × Option ℕ)
sub_layer profile_flags level_flags i = do
  when (is_set (slice_index profile_flags i)) profile
  named "sub_layer_level_idc" (when (is_set (slice_index level_flags i)) (u 8))

unfoldable pub sub_layers : ℕ → List ℕ → List ℕ → Table (List (Option Profile) × List (Option ℕ))
sub_layers subs profile_flags level_flags = columns 0 subs (sub_layer profile_flags level_flags)

unfoldable pub profile_tier_level : Bool → ℕ → Table ProfileTierValue
profile_tier_level present subs = shaped
    (λ c. record {
      profile = c.0;
      level_idc = c.1.0;
      sub_layer_profile_present_flag = c.1.1.0.0;
      sub_layer_level_present_flag = c.1.1.0.1;
      reserved_zero_2bits = c.1.1.1.0;
      sub_layer_profile = c.1.1.1.1.0;
      sub_layer_level_idc = c.1.1.1.1.1;
    })
    (λ v.
    v.profile
    ▸ v.level_idc
    ▸ (v.sub_layer_profile_present_flag, v.sub_layer_level_present_flag)
    ▸ v.reserved_zero_2bits
    ▸ (v.sub_layer_profile, v.sub_layer_level_idc))
    (λ _. refl)
    do
      when present profile
      named "level_idc" (u 8)
      flags ← all_sub_layer_flags subs
      when (over 0 subs) (reserved_bits subs)
      sub_layers subs flags.0 flags.1
