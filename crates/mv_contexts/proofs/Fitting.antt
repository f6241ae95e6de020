-- What a slice segment header takes from sets that fit, fits.
use Rattle.std.proofs.Common.{◌≡◌, ◌<◌, ◌≤◌, List, length, map, subst, arith}
use Rattle.std.specs.List.{All}
use Rattle.std.proofs.lemmas.List.{length-map}
use Rattle.mv_common.specs.declared.format.Format.{Format}
use Rattle.mv_units.specs.declared.head.UnitHead.{UnitHead}
use Rattle.mv_layers.specs.LayerInfos.{directs_of}
use Rattle.mv_vps.specs.Vps.{WholeVps}
use Rattle.mv_sps.specs.Sps.{SpsValue}
use Rattle.mv_pps.specs.Pps.{PpsValue}
use Rattle.mv_slice.specs.Context.{Fits}
use Rattle.mv_slice.specs.Layers.{DirectLayer, eligible}
use Rattle.mv_pictures.specs.Contexts.{ctbs, direct_layer, slice_context}
use Rattle.mv_contexts.specs.PpsFits.{PpsFits}
use Rattle.mv_contexts.specs.SpsFits.{SpsFits}
use Rattle.mv_contexts.specs.VpsFits.{VpsFits}
use Rattle.mv_contexts.proofs.EligibleLaws.{eligible_below, eligible_rise}

pub context-fits : (vps : WholeVps) (head : UnitHead) (format : Format) (sps : SpsValue) (pps : PpsValue) → VpsFits vps head.layer → SpsFits sps → PpsFits pps
    → 1 ≤ ctbs format sps.coding.blocks → ctbs format sps.coding.blocks ≤ 4194304 → Fits (slice_context vps head format sps pps)
unfolding slice_context
context-fits vps head format sps pps v s p some few =
    let directs : List DirectLayer = map (direct_layer vps head.layer) (directs_of vps.derived.layers head.layer) in
    let count : length directs ≡ length (directs_of vps.derived.layers head.layer) = length-map (directs_of vps.derived.layers head.layer) (direct_layer vps head.layer) in
    record {
      layer = v.few_layers;
      directs = v.few_directs;
      eligible_rise = eligible_rise head.tid directs;
      eligible_below = subst (λ n. All (λ i. i < n) (eligible head.tid directs)) count (eligible_below head.tid directs);
      some_ctbs = some;
      few_ctbs = few;
      some_lsb_bits = omega arith;
      few_lsb_bits = omega (arith, s.few_lsb_bits);
      few_short_sets = s.few_short_sets;
      all_short_sets = s.all_short_sets;
      valid_short_sets = s.valid_short_sets;
      few_long_terms = s.few_long_terms;
      all_lsbs = s.all_lsbs;
      lsbs = s.lsbs;
      all_used = s.all_used;
      used = s.used;
      extra_bits = p.extra_bits;
      few_l0 = p.few_l0;
      few_l1 = p.few_l1;
      poc_lsb_not_present_flag = v.poc_lsb_not_present_flag;
      default_ref_layers_active_flag = v.default_ref_layers_active_flag;
      max_one_active_ref_layer_flag = v.max_one_active_ref_layer_flag;
      long_term_ref_pics_present_flag = s.long_term_ref_pics_present_flag;
      sps_temporal_mvp_enabled_flag = s.sps_temporal_mvp_enabled_flag;
      sample_adaptive_offset_enabled_flag = s.sample_adaptive_offset_enabled_flag;
      dependent_slice_segments_enabled_flag = p.dependent_slice_segments_enabled_flag;
      output_flag_present_flag = p.output_flag_present_flag;
      cabac_init_present_flag = p.cabac_init_present_flag;
      pps_slice_chroma_qp_offsets_present_flag = p.pps_slice_chroma_qp_offsets_present_flag;
      weighted_pred_flag = p.weighted_pred_flag;
      weighted_bipred_flag = p.weighted_bipred_flag;
      tiles_enabled_flag = p.tiles_enabled_flag;
      entropy_coding_sync_enabled_flag = p.entropy_coding_sync_enabled_flag;
      pps_loop_filter_across_slices_enabled_flag = p.pps_loop_filter_across_slices_enabled_flag;
      deblocking_filter_override_enabled_flag = p.deblocking_filter_override_enabled_flag;
      pps_deblocking_filter_disabled_flag = p.pps_deblocking_filter_disabled_flag;
      lists_modification_present_flag = p.lists_modification_present_flag;
      slice_segment_header_extension_present_flag = p.slice_segment_header_extension_present_flag;
    }
