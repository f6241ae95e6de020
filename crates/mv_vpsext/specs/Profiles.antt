-- vps_extension (F.7.3.2.1.1), third part, the list of profile_tier_level.
use Rattle.std.specs.Prelude.{ℕ, ◌-◌, List, refl}
use Rattle.mv_syntax.specs.Table.{Table, ◌>>=◌, u, ue, named, shaped}
use Rattle.mv_syntax.specs.Words.{◌under◌, ◌▸◌, ◌!◌∶◌, over, is_set}
use Rattle.mv_syntax.specs.Loops.{items}
use Rattle.mv_rules.specs.declared.rule.Rule.TheVariants.{VpsLimit}
use Rattle.mv_common.specs.ProfileTier.{ProfileTierValue, profile_tier_level}

pub record VpsProfileValue : Type 0 where
  pub vps_profile_present_flag : ℕ
  pub profile_tier_level : ProfileTierValue

unfoldable pub vps_profile : ℕ → ℕ → Table VpsProfileValue
vps_profile vps_max_sub_layers_minus1 i = shaped
    (λ (vps_profile_present_flag, profile_tier_level). record {
      vps_profile_present_flag = vps_profile_present_flag;
      profile_tier_level = profile_tier_level;
    })
    (λ v.
    v.vps_profile_present_flag
    ▸ v.profile_tier_level)
    (λ _. refl)
    do
      vps_profile_present_flag ← named "vps_profile_present_flag" (u 1)
      profile_tier_level (is_set vps_profile_present_flag) vps_max_sub_layers_minus1 under VpsLimit

-- for i = 2 to vps_num_profile_tier_level_minus1
unfoldable pub vps_profiles : ℕ → ℕ → Table (List VpsProfileValue)
vps_profiles vps_max_sub_layers_minus1 vps_num_profile_tier_level_minus1 =
    items 2 (vps_num_profile_tier_level_minus1 - 1) (vps_profile vps_max_sub_layers_minus1)

pub record VpsProfilesValue : Type 0 where
  pub vps_num_profile_tier_level_minus1 : ℕ
  pub profiles : List VpsProfileValue

unfoldable pub profiles : ℕ → Table VpsProfilesValue
profiles vps_max_sub_layers_minus1 = shaped
    (λ (vps_num_profile_tier_level_minus1, profiles). record {
      vps_num_profile_tier_level_minus1 = vps_num_profile_tier_level_minus1;
      profiles = profiles;
    })
    (λ v.
    v.vps_num_profile_tier_level_minus1
    ▸ v.profiles)
    (λ _. refl)
    do
      vps_num_profile_tier_level_minus1 ← named "vps_num_profile_tier_level_minus1" (ue ! VpsLimit ∶ over 63)
      vps_profiles vps_max_sub_layers_minus1 vps_num_profile_tier_level_minus1
