-- A valid picture parameter set fits.
use Rattle.std.proofs.Common.{◌≡◌, ℕ, ◌<◌, ◌≤◌, ◌^◌, Bool, false, Option, Some, None, arith}
use Rattle.std.proofs.lemmas.Bool.{ltb-false}
use Rattle.mv_syntax.specs.Table.{Valid, u, when}
use Rattle.mv_syntax.specs.Words.{or_zero, over}
use Rattle.mv_pps.specs.Opening.{opening}
use Rattle.mv_pps.specs.Quantization.{quantization}
use Rattle.mv_pps.specs.Tools.{tools}
use Rattle.mv_pps.specs.Deblocking.{deblocking}
use Rattle.mv_pps.specs.Pps.{PpsValue, behind_opening, pps_fields}
use Rattle.mv_slice.specs.Context.{IsFlag}
use Rattle.mv_contexts.specs.PpsFits.{PpsFits}

flag : (n : ℕ) → n < 2 ^ 1 → IsFlag n
flag n h = omega (arith, h)

coded_flag : (c : Bool) (o : Option ℕ) → Valid (when c (u 1)) o → IsFlag (or_zero o)
coded_flag c None h = omega arith
coded_flag c (Some v) h = flag v h.1

within : (n v : ℕ) → over n v ≡ false → v ≤ n
within n v h = ltb-false n v h

pub pps-fits : (v : PpsValue) → Valid pps_fields v → PpsFits v
unfolding pps_fields behind_opening opening quantization tools deblocking
pps-fits v h =
    let o = h.0.0.0 in
    let b = h.0.1 in
    record {
      extra_bits = let few : v.opening.num_extra_slice_header_bits < 2 ^ 3 = o.1.1.1.1.0 in omega (arith, few);
      few_l0 = within 14 v.opening.num_ref_idx_l0_default_active_minus1 o.1.1.1.1.1.1.1.0.1;
      few_l1 = within 14 v.opening.num_ref_idx_l1_default_active_minus1 o.1.1.1.1.1.1.1.1.1;
      dependent_slice_segments_enabled_flag = flag v.opening.dependent_slice_segments_enabled_flag o.1.1.0;
      output_flag_present_flag = flag v.opening.output_flag_present_flag o.1.1.1.0;
      cabac_init_present_flag = flag v.opening.cabac_init_present_flag o.1.1.1.1.1.1.0;
      pps_slice_chroma_qp_offsets_present_flag = flag v.quantization.pps_slice_chroma_qp_offsets_present_flag b.0.0.1.1.1.1.1.1.1;
      weighted_pred_flag = flag v.tools.weighted_pred_flag b.1.0.0.0;
      weighted_bipred_flag = flag v.tools.weighted_bipred_flag b.1.0.0.1.0;
      tiles_enabled_flag = flag v.tools.tiles_enabled_flag b.1.0.0.1.1.1.0;
      entropy_coding_sync_enabled_flag = flag v.tools.entropy_coding_sync_enabled_flag b.1.0.0.1.1.1.1;
      pps_loop_filter_across_slices_enabled_flag = flag v.pps_loop_filter_across_slices_enabled_flag b.1.1.1.0;
      deblocking_filter_override_enabled_flag = coded_flag _ v.deblocking.deblocking_filter_override_enabled_flag b.1.1.1.1.0.0.1.0;
      pps_deblocking_filter_disabled_flag = coded_flag _ v.deblocking.pps_deblocking_filter_disabled_flag b.1.1.1.1.0.0.1.1.0;
      lists_modification_present_flag = flag v.lists_modification_present_flag b.1.1.1.1.1.1.1.0;
      slice_segment_header_extension_present_flag = flag v.slice_segment_header_extension_present_flag b.1.1.1.1.1.1.1.1.1.0;
    }
