-- The first fields of a video parameter set (7.3.2.1), up to profile_tier_level. A base layer that isn't in the stream or isn't
-- available is refused (ExternalBase); 64 layers and 8 sub-layers break the limit rule (this project's profile).
use Rattle.std.specs.Prelude.{ℕ, true, refl}
use Rattle.mv_syntax.specs.Table.{Table, ◌>>=◌, u, named, shaped}
use Rattle.mv_syntax.specs.Words.{◌under◌, ◌▸◌, ◌>>◌, ◌!◌∶◌, is}
use Rattle.mv_rules.specs.declared.rule.Rule.TheVariants.{ExternalBase, VpsLimit}
use Rattle.mv_common.specs.ProfileTier.{ProfileTierValue, profile_tier_level}

pub record VpsOpeningValue : Type 0 where
  pub vps_video_parameter_set_id : ℕ
  pub vps_base_layer_internal_flag : ℕ
  pub vps_base_layer_available_flag : ℕ
  pub vps_max_layers_minus1 : ℕ
  pub vps_max_sub_layers_minus1 : ℕ
  pub vps_temporal_id_nesting_flag : ℕ
  pub vps_reserved_0xffff_16bits : ℕ
  pub profile_tier_level : ProfileTierValue

unfoldable pub opening : Table VpsOpeningValue
opening = shaped
    (λ (vps_video_parameter_set_id, (vps_base_layer_internal_flag, (vps_base_layer_available_flag, (vps_max_layers_minus1, (vps_max_sub_layers_minus1, (vps_temporal_id_nesting_flag, (vps_reserved_0xffff_16bits, profile_tier_level))))))). record {
      vps_video_parameter_set_id = vps_video_parameter_set_id;
      vps_base_layer_internal_flag = vps_base_layer_internal_flag;
      vps_base_layer_available_flag = vps_base_layer_available_flag;
      vps_max_layers_minus1 = vps_max_layers_minus1;
      vps_max_sub_layers_minus1 = vps_max_sub_layers_minus1;
      vps_temporal_id_nesting_flag = vps_temporal_id_nesting_flag;
      vps_reserved_0xffff_16bits = vps_reserved_0xffff_16bits;
      profile_tier_level = profile_tier_level;
    })
    (λ v.
    v.vps_video_parameter_set_id
    ▸ v.vps_base_layer_internal_flag
    ▸ v.vps_base_layer_available_flag
    ▸ v.vps_max_layers_minus1
    ▸ v.vps_max_sub_layers_minus1
    ▸ v.vps_temporal_id_nesting_flag
    ▸ v.vps_reserved_0xffff_16bits
    ▸ v.profile_tier_level)
    (λ _. refl)
    do
      named "vps_video_parameter_set_id" (u 4)
      named "vps_base_layer_internal_flag" (u 1 ! ExternalBase ∶ is 0)
      named "vps_base_layer_available_flag" (u 1 ! ExternalBase ∶ is 0)
      named "vps_max_layers_minus1" (u 6 ! VpsLimit ∶ is 63)
      vps_max_sub_layers_minus1 ← named "vps_max_sub_layers_minus1" (u 3 ! VpsLimit ∶ is 7)
      named "vps_temporal_id_nesting_flag" (u 1)
      named "vps_reserved_0xffff_16bits" (u 16)
      profile_tier_level true vps_max_sub_layers_minus1 under VpsLimit
