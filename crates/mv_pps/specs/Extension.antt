-- The extensions of a picture parameter set (7.3.2.3.1, F.7.3.2.3.4).
use Rattle.std.specs.Prelude.{refl}
use Rattle.mv_syntax.specs.Table.{Table, ◌>>=◌, u, ue, named, when, shaped}
use Rattle.mv_syntax.specs.Words.{◌▸◌, ◌>>◌, ◌!◌∶◌, over, is_set}
use Rattle.mv_rules.specs.declared.rule.Rule.TheVariants.{ColourMapping, LocationOffsets, PocReset, Pps3d, PpsRange, PpsScc}
use Rattle.mv_pps.specs.declared.multilayer.PpsMultilayer.{PpsMultilayer}
use Rattle.mv_pps.specs.declared.extension.PpsExtension.{PpsExtension}

-- pps_multilayer_extension (F.7.3.2.3.4); resetting picture order counts (44), location offsets (45) and colour mapping (46)
-- are refused (this project's profile)
unfoldable pub multilayer_extension : Table PpsMultilayer
multilayer_extension = shaped
    (λ (poc_reset_info_present_flag, (pps_infer_scaling_list_flag, (pps_scaling_list_ref_layer_id, (num_ref_loc_offsets, colour_mapping_enabled_flag)))). record {
      poc_reset_info_present_flag = poc_reset_info_present_flag;
      pps_infer_scaling_list_flag = pps_infer_scaling_list_flag;
      pps_scaling_list_ref_layer_id = pps_scaling_list_ref_layer_id;
      num_ref_loc_offsets = num_ref_loc_offsets;
      colour_mapping_enabled_flag = colour_mapping_enabled_flag;
    })
    (λ v.
    v.poc_reset_info_present_flag
    ▸ v.pps_infer_scaling_list_flag
    ▸ v.pps_scaling_list_ref_layer_id
    ▸ v.num_ref_loc_offsets
    ▸ v.colour_mapping_enabled_flag)
    (λ _. refl)
    do
      named "poc_reset_info_present_flag" (u 1 ! PocReset ∶ is_set)
      pps_infer_scaling_list_flag ← named "pps_infer_scaling_list_flag" (u 1)
      named "pps_scaling_list_ref_layer_id" (when (is_set pps_infer_scaling_list_flag) (u 6))
      named "num_ref_loc_offsets" (ue ! LocationOffsets ∶ over 0)
      named "colour_mapping_enabled_flag" (u 1 ! ColourMapping ∶ is_set)

-- the extension flags, coded where pps_extension_present_flag is 1, and the multilayer extension; the range (41), 3D (42) and
-- screen content coding (43) extensions are refused (this project's profile)
unfoldable pub extension : Table PpsExtension
extension = shaped
    (λ (pps_range_extension_flag, (pps_multilayer_extension_flag, (pps_3d_extension_flag, (pps_scc_extension_flag, (pps_extension_4bits, multilayer))))). record {
      pps_range_extension_flag = pps_range_extension_flag;
      pps_multilayer_extension_flag = pps_multilayer_extension_flag;
      pps_3d_extension_flag = pps_3d_extension_flag;
      pps_scc_extension_flag = pps_scc_extension_flag;
      pps_extension_4bits = pps_extension_4bits;
      multilayer = multilayer;
    })
    (λ v.
    v.pps_range_extension_flag
    ▸ v.pps_multilayer_extension_flag
    ▸ v.pps_3d_extension_flag
    ▸ v.pps_scc_extension_flag
    ▸ v.pps_extension_4bits
    ▸ v.multilayer)
    (λ _. refl)
    do
      named "pps_range_extension_flag" (u 1 ! PpsRange ∶ is_set)
      pps_multilayer_extension_flag ← named "pps_multilayer_extension_flag" (u 1)
      named "pps_3d_extension_flag" (u 1 ! Pps3d ∶ is_set)
      named "pps_scc_extension_flag" (u 1 ! PpsScc ∶ is_set)
      named "pps_extension_4bits" (u 4)
      when (is_set pps_multilayer_extension_flag) multilayer_extension
