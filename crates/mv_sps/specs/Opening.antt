-- The first fields of a sequence parameter set (7.3.2.2.1, F.7.3.2.2.1): its ids, how many sub-layers it has, its profile and
-- level. An sps_max_sub_layers_minus1 of 7 in layer 0 and an id over 15 break the limit rule (this project's profile).
use Rattle.std.specs.Prelude.{ℕ, Bool, true, not, ◌&&◌, Option, nat_lt, nat_eq, refl, if◌then◌else◌}
use Rattle.mv_syntax.specs.Table.{Table, ◌>>=◌, u, ue, named, when, shaped}
use Rattle.mv_syntax.specs.Words.{◌under◌, ◌▸◌, ◌>>◌, ◌!◌∶◌, over}
use Rattle.mv_rules.specs.declared.rule.Rule.TheVariants.{SpsLimit}
use Rattle.mv_common.specs.ProfileTier.{ProfileTierValue, profile_tier_level}

-- MultiLayerExtSpsFlag (F.7.4.3.2.1): the fields that the VPS has too are left out, which the first 3-bit field of a layer
-- above 0 says by 7
abbrev pub is_ext : ℕ → ℕ → Bool
is_ext layer sps_max_sub_layers_minus1 = nat_lt 0 layer && nat_eq sps_max_sub_layers_minus1 7

-- how many sub-layers stand below the highest: the field says it, and where the fields are left out the VPS, by its
-- vps_max_sub_layers_minus1
abbrev pub subs_of : ℕ → ℕ → ℕ → ℕ
subs_of layer vps_sub_layers sps_max_sub_layers_minus1 =
    if is_ext layer sps_max_sub_layers_minus1 then vps_sub_layers else sps_max_sub_layers_minus1

-- sps_max_sub_layers_minus1 of a layer
abbrev pub max_sub_layers_minus1 : ℕ → Table ℕ
max_sub_layers_minus1 layer = u 3 ! SpsLimit ∶ (λ n. nat_eq layer 0 && nat_eq n 7)

pub record SpsOpeningValue : Type 0 where
  pub sps_video_parameter_set_id : ℕ
  pub sps_max_sub_layers_minus1 : ℕ
  pub sps_temporal_id_nesting_flag : Option ℕ
  pub profile_tier_level : Option ProfileTierValue
  pub sps_seq_parameter_set_id : ℕ

unfoldable pub opening : ℕ → ℕ → Table SpsOpeningValue
opening layer vps_sub_layers = shaped
    (λ (sps_video_parameter_set_id, (sps_max_sub_layers_minus1, (sps_temporal_id_nesting_flag, (profile_tier_level, sps_seq_parameter_set_id)))). record {
      sps_video_parameter_set_id = sps_video_parameter_set_id;
      sps_max_sub_layers_minus1 = sps_max_sub_layers_minus1;
      sps_temporal_id_nesting_flag = sps_temporal_id_nesting_flag;
      profile_tier_level = profile_tier_level;
      sps_seq_parameter_set_id = sps_seq_parameter_set_id;
    })
    (λ v.
    v.sps_video_parameter_set_id
    ▸ v.sps_max_sub_layers_minus1
    ▸ v.sps_temporal_id_nesting_flag
    ▸ v.profile_tier_level
    ▸ v.sps_seq_parameter_set_id)
    (λ _. refl)
    do
      named "sps_video_parameter_set_id" (u 4)
      sps_max_sub_layers_minus1 ← named "sps_max_sub_layers_minus1" (max_sub_layers_minus1 layer)
      let ext : Bool = is_ext layer sps_max_sub_layers_minus1 in
          let subs : ℕ = subs_of layer vps_sub_layers sps_max_sub_layers_minus1 in do
            named "sps_temporal_id_nesting_flag" (when (not ext) (u 1))
            when (not ext) (profile_tier_level true subs under SpsLimit)
            named "sps_seq_parameter_set_id" (ue ! SpsLimit ∶ over 15)
