-- The extensions of a sequence parameter set (7.3.2.2.1, F.7.3.2.2.4). The range (31), 3D (32) and screen content coding (33)
-- extensions are refused (this project's profile).
use Rattle.std.specs.Prelude.{Bool, refl}
use Rattle.mv_syntax.specs.Table.{Table, ◌>>=◌, u, named, when, shaped}
use Rattle.mv_syntax.specs.Words.{◌▸◌, ◌>>◌, ◌!◌∶◌, is_set, coded_set}
use Rattle.mv_rules.specs.declared.rule.Rule.TheVariants.{Sps3d, SpsRange, SpsScc}
use Rattle.mv_sps.specs.declared.extension.SpsExtension.{SpsExtension}

unfoldable pub extension : Table SpsExtension
extension = shaped
    (λ (sps_extension_present_flag, (sps_range_extension_flag, (sps_multilayer_extension_flag, (sps_3d_extension_flag, (sps_scc_extension_flag, (sps_extension_4bits, inter_view_mv_vert_constraint_flag)))))). record {
      sps_extension_present_flag = sps_extension_present_flag;
      sps_range_extension_flag = sps_range_extension_flag;
      sps_multilayer_extension_flag = sps_multilayer_extension_flag;
      sps_3d_extension_flag = sps_3d_extension_flag;
      sps_scc_extension_flag = sps_scc_extension_flag;
      sps_extension_4bits = sps_extension_4bits;
      inter_view_mv_vert_constraint_flag = inter_view_mv_vert_constraint_flag;
    })
    (λ v.
    v.sps_extension_present_flag
    ▸ v.sps_range_extension_flag
    ▸ v.sps_multilayer_extension_flag
    ▸ v.sps_3d_extension_flag
    ▸ v.sps_scc_extension_flag
    ▸ v.sps_extension_4bits
    ▸ v.inter_view_mv_vert_constraint_flag)
    (λ _. refl)
    do
      sps_extension_present_flag ← named "sps_extension_present_flag" (u 1)
      let present : Bool = is_set sps_extension_present_flag in do
        named "sps_range_extension_flag" (when present (u 1 ! SpsRange ∶ is_set))
        sps_multilayer_extension_flag ← named "sps_multilayer_extension_flag" (when present (u 1))
        named "sps_3d_extension_flag" (when present (u 1 ! Sps3d ∶ is_set))
        named "sps_scc_extension_flag" (when present (u 1 ! SpsScc ∶ is_set))
        named "sps_extension_4bits" (when present (u 4))
        named "inter_view_mv_vert_constraint_flag" (when (coded_set sps_multilayer_extension_flag) (u 1))
