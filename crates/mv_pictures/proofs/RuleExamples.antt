-- Examples of rules: for each a stream whose last unit breaks it. The counts that a stream of bytes can't reach in few units
-- are shown at the test itself.
use Rattle.std.specs.Prelude.{◌≡◌, ◌+◌, ◌-◌, ◌^◌, pos, neg_ℤ, true, false, [], ◌∷◌, None, refl}
use Rattle.mv_rules.specs.declared.rule.Rule.{Rule}
use Rattle.mv_pictures.specs.PictureRules.{is_in_range}
use Rattle.mv_pictures.proofs.Observing.{verdict, stopped}
use Rattle.mv_pictures.proofs.ExampleUnits.{alone_1, base_idr, base_pps, middle_idr, middle_p, modified_1, modify_pps, one_layer_vps, plain_sps, top_p, two_layers_vps, two_views_plain_vps, upper_pps, wide_sps}
use Rattle.mv_pictures.proofs.RuleUnits.{of_head, of_vps_syntax, of_external_base, of_splitting, of_depth, of_spatial, of_auxiliary, of_reserved_dimension, of_no_view_dimension, of_same_view, of_added_layer_sets, of_alt_output, of_layer_set_base, of_layer_set_closure, of_layer_set_unknown, of_reserved_output, of_dependency_type, of_vps_limit, of_vps_tid, of_no_vps, of_sps_syntax, of_sps_range, of_sps_3d, of_sps_scc, of_colour_planes, of_sps_tid, of_sps_limit, of_pps_syntax, of_pps_range, of_pps_3d, of_pps_scc, of_poc_reset, of_location_offsets, of_colour_mapping, of_pps_limit, of_missing_pps, before_missing_sps, of_slice_syntax, before_cross_layer_bla, of_cross_layer_bla, of_orphan_slice, of_slice_differs, of_address_order, of_tid_differs, of_no_irap, before_format_differs, of_format_differs, of_poc_mismatch, of_irap_refers, of_too_many_refs, of_missing_ref, three_linked_vps, of_missing_inter_layer, before_list_entry, of_list_entry, of_no_refs, before_collocated, of_collocated, of_accepted_collocated, of_accepted_refers_both}
use Rattle.mv_judging.specs.Facts as judging_facts
use Rattle.mv_judging.specs.Judge as judging_judge
use Rattle.mv_syntax.specs.Bits as syntax_bits
use Rattle.mv_syntax.specs.Loops as syntax_loops
use Rattle.mv_syntax.specs.inner.PayloadReader as syntax_payload_reader
use Rattle.mv_syntax.specs.inner.Ending as syntax_inner_ending
use Rattle.mv_fields.specs.Widths as fields_widths
use Rattle.mv_common.specs.Hrd as common_hrd
use Rattle.mv_common.specs.Profile as common_profile
use Rattle.mv_common.specs.ProfileTier as common_profiletier
use Rattle.mv_common.specs.ScalingLists as common_scalinglists
use Rattle.mv_common.specs.SubLayerOrdering as common_sublayerordering
use Rattle.mv_common.specs.Vui as common_vui
use Rattle.mv_short_sets.specs.Deltas as short_sets_deltas
use Rattle.mv_short_sets.specs.ShortSet as short_sets_shortset
use Rattle.mv_layers.specs.LayerInfos as layers_layerinfos
use Rattle.mv_vpsext.specs.Args as vpsext_args
use Rattle.mv_vpslayers.specs.Dependencies as vpsext_dependencies
use Rattle.mv_vpslayers.specs.DependencyTypes as vpsext_dependencytypes
use Rattle.mv_vpsext.specs.Derived as vpsext_derived
use Rattle.mv_vpslayers.specs.Dimensions as vpsext_dimensions
use Rattle.mv_vpssets.specs.DpbSizes as vpsext_dpbsizes
use Rattle.mv_vpsext.specs.ExtEnding as vpsext_extending
use Rattle.mv_vpsext.specs.Formats as vpsext_formats
use Rattle.mv_vpslayers.specs.Layers as vpsext_layers
use Rattle.mv_vpssets.specs.OutputSets as vpsext_outputsets
use Rattle.mv_vpsext.specs.Pictures as vpsext_pictures
use Rattle.mv_vpsext.specs.Profiles as vpsext_profiles
use Rattle.mv_vpssets.specs.Sets as vpsext_sets
use Rattle.mv_vpsext.specs.VpsExt as vpsext_vpsext
use Rattle.mv_vps.specs.Base as vps_base
use Rattle.mv_vps.specs.LayerSets as vps_layersets
use Rattle.mv_vps.specs.Opening as vps_opening
use Rattle.mv_vps.specs.Timing as vps_timing
use Rattle.mv_vps.specs.Vps as vps_vps
use Rattle.mv_sps.specs.Blocks as sps_blocks
use Rattle.mv_sps.specs.Coding as sps_coding
use Rattle.mv_sps.specs.Extension as sps_extension
use Rattle.mv_sps.specs.Format as sps_format
use Rattle.mv_sps.specs.Opening as sps_opening
use Rattle.mv_sps.specs.Pictures as sps_pictures
use Rattle.mv_sps.specs.References as sps_references
use Rattle.mv_sps.specs.Scaling as sps_scaling
use Rattle.mv_sps.specs.Sps as sps_sps
use Rattle.mv_sps.specs.Tools as sps_tools
use Rattle.mv_sps.specs.Usability as sps_usability
use Rattle.mv_pps.specs.Deblocking as pps_deblocking
use Rattle.mv_pps.specs.Extension as pps_extension
use Rattle.mv_pps.specs.Opening as pps_opening
use Rattle.mv_pps.specs.Pps as pps_pps
use Rattle.mv_pps.specs.Quantization as pps_quantization
use Rattle.mv_pps.specs.Tiles as pps_tiles
use Rattle.mv_pps.specs.Tools as pps_tools
use Rattle.mv_slice.specs.Derived as slice_derived
use Rattle.mv_slice.specs.Ending as slice_ending
use Rattle.mv_slice.specs.Filters as slice_filters
use Rattle.mv_slice.specs.InterLayer as slice_interlayer
use Rattle.mv_slice.specs.Layers as slice_layers
use Rattle.mv_slice.specs.ListModification as slice_listmodification
use Rattle.mv_slice.specs.LongTerms as slice_longterms
use Rattle.mv_slice.specs.Opening as slice_opening
use Rattle.mv_slice.specs.Picture as slice_picture
use Rattle.mv_slice.specs.Prediction as slice_prediction
use Rattle.mv_slice.specs.Slice as slice_slice
use Rattle.mv_slice.specs.Weights as slice_weights
use Rattle.mv_units.specs.Escapes as units_escapes
use Rattle.mv_units.specs.Framing as units_framing
use Rattle.mv_units.specs.Rules as units_rules
use Rattle.mv_units.specs.Shown as units_shown
use Rattle.mv_units.specs.Units as units_units
use Rattle.mv_history.specs.History as history_history
use Rattle.mv_history.specs.Order as history_order
use Rattle.mv_pictures.specs.AccessUnits as pictures_accessunits
use Rattle.mv_pictures.specs.Carried as pictures_carried
use Rattle.mv_pictures.specs.Contexts as pictures_contexts
use Rattle.mv_pictures.specs.Counts as pictures_counts
use Rattle.mv_pictures.specs.Decoding as pictures_decoding
use Rattle.mv_pictures.specs.Extract as pictures_extract
use Rattle.mv_pictures.specs.Facts as pictures_facts
use Rattle.mv_pictures.specs.Held as pictures_held
use Rattle.mv_pictures.specs.History as pictures_history
use Rattle.mv_pictures.specs.Items as pictures_items
use Rattle.mv_pictures.specs.Layers as pictures_layers
use Rattle.mv_pictures.specs.Lists as pictures_lists
use Rattle.mv_pictures.specs.Look as pictures_look
use Rattle.mv_pictures.specs.Output as pictures_output
use Rattle.mv_pictures.specs.PictureRules as pictures_picturerules
use Rattle.mv_pictures.specs.References as pictures_references
use Rattle.mv_pictures.specs.Rules as pictures_rules
use Rattle.mv_pictures.specs.SliceFields as pictures_slicefields
use Rattle.mv_pictures.specs.SliceRules as pictures_slicerules
use Rattle.mv_pictures.specs.Starts as pictures_starts
use Rattle.mv_pictures.specs.Terms as pictures_terms
use Rattle.mv_pictures.specs.UnitRules as pictures_unitrules
use Rattle.mv_pictures.specs.Verdict as pictures_verdict

-- ---- Heads and video parameter sets

pub record OfVps : Type 0 where
  -- the head has forbidden_zero_bit 1 or nuh_temporal_id_plus1 0, or the type is 16 to 23 and TemporalId is above 0
  pub head : verdict (of_head ∷ []) 0
      ≡ stopped 0 4 Rule.Head
  -- the payload isn't a VPS
  pub vps_syntax : verdict (of_vps_syntax ∷ []) 0
      ≡ stopped 0 4 Rule.VpsSyntax
  -- vps_base_layer_internal_flag or vps_base_layer_available_flag is 0
  pub external_base : verdict (of_external_base ∷ []) 0
      ≡ stopped 0 4 Rule.ExternalBase
  -- splitting_flag is 1
  pub splitting : verdict (of_splitting ∷ []) 0
      ≡ stopped 0 4 Rule.Splitting
  -- scalability_mask_flag 0 is 1
  pub depth : verdict (of_depth ∷ []) 0
      ≡ stopped 0 4 Rule.Depth
  -- scalability_mask_flag 2 is 1
  pub spatial : verdict (of_spatial ∷ []) 0
      ≡ stopped 0 4 Rule.Spatial
  -- scalability_mask_flag 3 is 1
  pub auxiliary : verdict (of_auxiliary ∷ []) 0
      ≡ stopped 0 4 Rule.Auxiliary
  -- a scalability_mask_flag from 4 to 15 is 1
  pub reserved_dimension : verdict (of_reserved_dimension ∷ []) 0
      ≡ stopped 0 4 Rule.ReservedDimension
  -- there is more than one layer, and scalability_mask_flag 1 is 0
  pub no_view_dimension : verdict (of_no_view_dimension ∷ []) 0
      ≡ stopped 0 4 Rule.NoViewDimension
  -- a layer has the view order index of an earlier one
  pub same_view : verdict (of_same_view ∷ []) 0
      ≡ stopped 0 4 Rule.SameView
  -- num_add_layer_sets is above 0
  pub added_layer_sets : verdict (of_added_layer_sets ∷ []) 0
      ≡ stopped 0 4 Rule.AddedLayerSets
  -- an alt_output_layer_flag is 1
  pub alt_output : verdict (of_alt_output ∷ []) 0
      ≡ stopped 0 4 Rule.AltOutput
  -- a layer set lacks layer 0
  pub layer_set_base : verdict (of_layer_set_base ∷ []) 0
      ≡ stopped 0 4 Rule.LayerSetBase
  -- a layer set has a layer and lacks one of its direct reference layers
  pub layer_set_closure : verdict (of_layer_set_closure ∷ []) 0
      ≡ stopped 0 4 Rule.LayerSetClosure
  -- a layer set has a layer that the VPS hasn't
  pub layer_set_unknown : verdict (of_layer_set_unknown ∷ []) 0
      ≡ stopped 0 4 Rule.LayerSetUnknown
  -- default_output_layer_idc is 3
  pub reserved_output : verdict (of_reserved_output ∷ []) 0
      ≡ stopped 0 4 Rule.ReservedOutput
  -- a direct_dependency_type is above 2
  pub dependency_type : verdict (of_dependency_type ∷ []) 0
      ≡ stopped 0 4 Rule.DependencyType
  -- a field of the VPS is past its limit, or the payload has more than 65,536 bytes
  pub vps_limit : verdict (of_vps_limit ∷ []) 0
      ≡ stopped 0 4 Rule.VpsLimit
  -- a VPS of layer 0 has TemporalId above 0
  pub vps_tid : verdict (of_vps_tid ∷ []) 0
      ≡ stopped 0 4 Rule.VpsTid
  -- no VPS was accepted before this unit, which needs one, or an SPS names another VPS
  pub no_vps : verdict (plain_sps ∷ []) 0
      ≡ stopped 0 4 Rule.NoVps
  -- an SPS names another VPS
  pub no_vps_by_name : verdict (one_layer_vps ∷ of_no_vps ∷ []) 0
      ≡ stopped 1 32 Rule.NoVps

-- ---- Sequence and picture parameter sets

pub record OfSets : Type 0 where
  -- the payload isn't an SPS
  pub sps_syntax : verdict (one_layer_vps ∷ of_sps_syntax ∷ []) 0
      ≡ stopped 1 32 Rule.SpsSyntax
  -- sps_range_extension_flag is 1
  pub sps_range : verdict (one_layer_vps ∷ of_sps_range ∷ []) 0
      ≡ stopped 1 32 Rule.SpsRange
  -- sps_3d_extension_flag is 1
  pub sps_3d : verdict (one_layer_vps ∷ of_sps_3d ∷ []) 0
      ≡ stopped 1 32 Rule.Sps3d
  -- sps_scc_extension_flag is 1
  pub sps_scc : verdict (one_layer_vps ∷ of_sps_scc ∷ []) 0
      ≡ stopped 1 32 Rule.SpsScc
  -- separate_colour_plane_flag is 1 in an SPS
  pub colour_planes : verdict (one_layer_vps ∷ of_colour_planes ∷ []) 0
      ≡ stopped 1 32 Rule.ColourPlanes
  -- an SPS has TemporalId above 0
  pub sps_tid : verdict (one_layer_vps ∷ of_sps_tid ∷ []) 0
      ≡ stopped 1 32 Rule.SpsTid
  -- a field of the SPS is past its limit, or the payload has more than 65,536 bytes
  pub sps_limit : verdict (one_layer_vps ∷ of_sps_limit ∷ []) 0
      ≡ stopped 1 32 Rule.SpsLimit
  -- the payload isn't a PPS
  pub pps_syntax : verdict (one_layer_vps ∷ plain_sps ∷ of_pps_syntax ∷ []) 0
      ≡ stopped 2 62 Rule.PpsSyntax
  -- pps_range_extension_flag is 1
  pub pps_range : verdict (one_layer_vps ∷ plain_sps ∷ of_pps_range ∷ []) 0
      ≡ stopped 2 62 Rule.PpsRange
  -- pps_3d_extension_flag is 1
  pub pps_3d : verdict (one_layer_vps ∷ plain_sps ∷ of_pps_3d ∷ []) 0
      ≡ stopped 2 62 Rule.Pps3d
  -- pps_scc_extension_flag is 1
  pub pps_scc : verdict (one_layer_vps ∷ plain_sps ∷ of_pps_scc ∷ []) 0
      ≡ stopped 2 62 Rule.PpsScc
  -- poc_reset_info_present_flag is 1
  pub poc_reset : verdict (one_layer_vps ∷ plain_sps ∷ of_poc_reset ∷ []) 0
      ≡ stopped 2 62 Rule.PocReset
  -- num_ref_loc_offsets is above 0
  pub location_offsets : verdict (one_layer_vps ∷ plain_sps ∷ of_location_offsets ∷ []) 0
      ≡ stopped 2 62 Rule.LocationOffsets
  -- colour_mapping_enabled_flag is 1
  pub colour_mapping : verdict (one_layer_vps ∷ plain_sps ∷ of_colour_mapping ∷ []) 0
      ≡ stopped 2 62 Rule.ColourMapping
  -- a field of the PPS is past its limit, or the payload has more than 65,536 bytes
  pub pps_limit : verdict (one_layer_vps ∷ plain_sps ∷ of_pps_limit ∷ []) 0
      ≡ stopped 2 62 Rule.PpsLimit

-- ---- Slice segments and access units

pub record OfSlices : Type 0 where
  -- no PPS with the slice's id is visible to its layer
  pub missing_pps : verdict (one_layer_vps ∷ plain_sps ∷ base_pps ∷ of_missing_pps ∷ []) 0
      ≡ stopped 3 72 Rule.MissingPps
  -- no SPS with the id that the PPS names is visible to the layer, or its format index isn't in the VPS
  pub missing_sps : verdict (one_layer_vps ∷ plain_sps ∷ before_missing_sps ∷ base_idr ∷ []) 0
      ≡ stopped 3 73 Rule.MissingSps
  -- the payload doesn't begin with a slice header, or a field of it is past its limit
  pub slice_syntax : verdict (one_layer_vps ∷ plain_sps ∷ base_pps ∷ of_slice_syntax ∷ []) 0
      ≡ stopped 3 72 Rule.SliceSyntax
  -- cross_layer_bla_flag is 1
  pub cross_layer_bla : verdict (one_layer_vps ∷ plain_sps ∷ before_cross_layer_bla ∷ of_cross_layer_bla ∷ []) 0
      ≡ stopped 3 72 Rule.CrossLayerBla
  -- the first slice unit of an access unit is of a layer above 0
  pub no_base : verdict (two_views_plain_vps ∷ plain_sps ∷ base_pps ∷ base_idr ∷ middle_p ∷ base_pps ∷ middle_p ∷ []) 0
      ≡ stopped 6 114 Rule.NoBase
  -- a first segment's layer isn't above the layers of the access unit's earlier pictures
  pub layer_order : verdict (two_views_plain_vps ∷ plain_sps ∷ base_pps ∷ base_idr ∷ middle_p ∷ middle_p ∷ []) 0
      ≡ stopped 5 104 Rule.LayerOrder
  -- a later segment has no picture of its layer as the access unit's last picture
  pub orphan_slice : verdict (two_views_plain_vps ∷ plain_sps ∷ base_pps ∷ base_idr ∷ middle_p ∷ of_orphan_slice ∷ []) 0
      ≡ stopped 5 104 Rule.OrphanSlice
  -- a later segment differs from its picture's first in a field that all segments of a picture share
  pub slice_differs : verdict (one_layer_vps ∷ plain_sps ∷ base_pps ∷ base_idr ∷ alone_1 ∷ of_slice_differs ∷ []) 0
      ≡ stopped 5 89 Rule.SliceDiffers
  -- a later segment's address is 0, isn't in the picture, or doesn't follow the preceding segment's
  pub address_order : verdict (one_layer_vps ∷ plain_sps ∷ base_pps ∷ base_idr ∷ of_address_order ∷ []) 0
      ≡ stopped 4 80 Rule.AddressOrder
  -- a first segment's TemporalId isn't that of the access unit's first slice unit
  pub tid_differs : verdict (two_layers_vps ∷ plain_sps ∷ base_pps ∷ base_idr ∷ of_tid_differs ∷ []) 0
      ≡ stopped 4 95 Rule.TidDiffers

-- ---- Pictures

pub record OfPictures : Type 0 where
  -- a base picture where a sequence has to start isn't an IRAP picture
  pub no_irap : verdict (one_layer_vps ∷ plain_sps ∷ base_pps ∷ of_no_irap ∷ []) 0
      ≡ stopped 3 72 Rule.NoIrap
  -- a decoded picture that isn't a start has another SPS than its layer's preceding decoded picture
  pub sps_changed : verdict (one_layer_vps ∷ plain_sps ∷ base_pps ∷ base_idr ∷ wide_sps ∷ base_pps ∷ alone_1 ∷ []) 0
      ≡ stopped 6 121 Rule.SpsChanged
  -- a decoded picture and one of its access unit that it refers to differ in size, chroma format or bit depth
  pub format_differs : verdict (two_views_plain_vps ∷ plain_sps ∷ base_pps ∷ before_format_differs ∷ upper_pps ∷ base_idr ∷ of_format_differs ∷ []) 0
      ≡ stopped 6 137 Rule.FormatDiffers
  -- a picture above layer 0 hasn't the base picture's order count, or a start's coded bits of it differ
  pub poc_mismatch : verdict (two_views_plain_vps ∷ plain_sps ∷ base_pps ∷ base_idr ∷ of_poc_mismatch ∷ []) 0
      ≡ stopped 4 95 Rule.PocMismatch
  -- the reference picture set of an IRAP picture has an entry that the picture uses
  pub irap_refers : verdict (one_layer_vps ∷ plain_sps ∷ base_pps ∷ base_idr ∷ of_irap_refers ∷ []) 0
      ≡ stopped 4 80 Rule.IrapRefers
  -- a reference picture set has more than 15 entries
  pub too_many_refs : verdict (one_layer_vps ∷ plain_sps ∷ base_pps ∷ base_idr ∷ of_too_many_refs ∷ []) 0
      ≡ stopped 4 80 Rule.TooManyRefs
  -- an entry that the current picture uses has no matching picture
  pub missing_ref : verdict (one_layer_vps ∷ plain_sps ∷ base_pps ∷ base_idr ∷ of_missing_ref ∷ []) 0
      ≡ stopped 4 80 Rule.MissingRef
  -- an active reference layer has no decoded picture in the access unit
  pub missing_inter_layer : verdict (three_linked_vps ∷ plain_sps ∷ base_pps ∷ base_idr ∷ middle_p ∷ top_p ∷ alone_1 ∷ of_missing_inter_layer ∷ []) 0
      ≡ stopped 7 124 Rule.MissingInterLayer
  -- a list_entry isn't below NumPicTotalCurr
  pub list_entry : verdict (one_layer_vps ∷ plain_sps ∷ modify_pps ∷ base_idr ∷ modified_1 ∷ before_list_entry ∷ of_list_entry ∷ []) 0
      ≡ stopped 6 100 Rule.ListEntry
  -- a P or B segment has NumPicTotalCurr 0
  pub no_refs : verdict (one_layer_vps ∷ plain_sps ∷ base_pps ∷ base_idr ∷ of_no_refs ∷ []) 0
      ≡ stopped 4 80 Rule.NoRefs
  -- a coded collocated_ref_idx isn't below the active entries of its list
  pub collocated : verdict (one_layer_vps ∷ before_collocated ∷ base_pps ∷ base_idr ∷ of_collocated ∷ []) 0
      ≡ stopped 4 80 Rule.Collocated

-- ---- Their neighbours, which break none

pub record Neighbours : Type 0 where
  pub one_layer : verdict (one_layer_vps ∷ plain_sps ∷ base_pps ∷ base_idr ∷ []) 0 ≡ None
  pub two_layers : verdict (two_views_plain_vps ∷ plain_sps ∷ base_pps ∷ base_idr ∷ middle_p ∷ []) 0 ≡ None
  pub three_layers : verdict (three_linked_vps ∷ plain_sps ∷ base_pps ∷ base_idr ∷ middle_p ∷ top_p ∷ []) 0 ≡ None
  pub choosing : verdict (two_layers_vps ∷ plain_sps ∷ base_pps ∷ base_idr ∷ middle_idr ∷ []) 0 ≡ None
  pub collocated : verdict (one_layer_vps ∷ before_collocated ∷ base_pps ∷ base_idr ∷ of_accepted_collocated ∷ []) 0 ≡ None
  pub refers_both : verdict (one_layer_vps ∷ plain_sps ∷ base_pps ∷ base_idr ∷ of_accepted_refers_both ∷ []) 0 ≡ None

-- a count is from -2^31 to 2^31 - 1
pub record Range : Type 0 where
  pub greatest : is_in_range (pos (2 ^ 31 - 1)) ≡ true
  pub above : is_in_range (pos (2 ^ 31)) ≡ false
  pub least : is_in_range (neg_ℤ (pos (2 ^ 31))) ≡ true
  pub below : is_in_range (neg_ℤ (pos (2 ^ 31 + 1))) ≡ false

-- ---- All of them hold

pub record RuleExamples : Type 0 where
  pub of_vps : OfVps
  pub of_sets : OfSets
  pub of_slices : OfSlices
  pub of_pictures : OfPictures
  pub neighbours : Neighbours
  pub range : Range

-- the proof is one computation, for which all definitions have to be opened
pub rule_examples_hold : RuleExamples
unfolding judging_facts.facts_behind judging_judge.judged_behind syntax_bits.u_bits syntax_bits.take_bits syntax_bits.halvings
    syntax_bits.ue_zeros syntax_bits.ue_bits syntax_bits.take_ue_from syntax_bits.take_ue syntax_bits.se_value
    syntax_bits.se_code syntax_bits.se_bits syntax_bits.take_se syntax_bits.align_bits syntax_bits.trailing_bits
    syntax_bits.has_one syntax_bits.more_data syntax_bits.byte_bits syntax_loops.items syntax_loops.items_after
    syntax_loops.items_numbered syntax_loops.columns syntax_loops.columns_after
    syntax_loops.each
    syntax_payload_reader.read_payload syntax_inner_ending.before_last_one syntax_inner_ending.take_tail
    syntax_inner_ending.read_end fields_widths.clog2 common_hrd.hrd_common common_hrd.cpb common_hrd.sub_layer_hrd
    common_hrd.hrd_sub_layer common_hrd.hrd_sub_layers common_hrd.hrd_parameters common_profile.profile
    common_profiletier.sub_layer_flags common_profiletier.all_sub_layer_flags common_profiletier.reserved_pair
    common_profiletier.reserved_bits common_profiletier.sub_layer common_profiletier.sub_layers
    common_profiletier.profile_tier_level common_scalinglists.coefficient common_scalinglists.coefficients
    common_scalinglists.scaling_list common_scalinglists.lists_of_size common_scalinglists.scaling_list_data
    common_sublayerordering.sub_layer common_sublayerordering.sub_layers common_sublayerordering.sub_layer_ordering
    common_vui.aspect_ratio common_vui.overscan common_vui.video_signal_type common_vui.chroma_location
    common_vui.display_window common_vui.bitstream_restriction common_vui.vui_timing common_vui.vui_parameters
    short_sets_deltas.direct short_sets_deltas.predicted short_sets_deltas.deltas short_sets_deltas.deltas_of_each
    short_sets_shortset.candidate_flags short_sets_shortset.picture short_sets_shortset.set_fields
    short_sets_shortset.st_ref_pic_set layers_layerinfos.layer_infos vpsext_args.layer_set vpsext_args.layer_sets
    vpsext_dependencies.layer_dependencies vpsext_dependencies.dependency_flags vpsext_dependencies.added_layer_sets
    vpsext_dependencies.all_sub_layers_max vpsext_dependencies.max_tid vpsext_dependencies.layer_max_tids
    vpsext_dependencies.max_tids vpsext_dependencies.dependencies vpsext_dependencytypes.dependency_type
    vpsext_dependencytypes.layer_dependency_types vpsext_dependencytypes.dependency_types vpsext_dependencytypes.types
    vpsext_derived.all_ols vpsext_dimensions.mask_flag vpsext_dimensions.mask_flags vpsext_dimensions.vps_layer
    vpsext_dimensions.vps_layers vpsext_dimensions.view_id_vals vpsext_dimensions.dimensions vpsext_dpbsizes.buffering
    vpsext_dpbsizes.bufferings vpsext_dpbsizes.dpb_numbers vpsext_dpbsizes.dpb_sub_layer
    vpsext_dpbsizes.dpb_sub_layers vpsext_dpbsizes.dpb_set vpsext_dpbsizes.dpb_of_set vpsext_dpbsizes.dpb_size
    vpsext_extending.ext_ending vpsext_formats.chroma_and_depth vpsext_formats.conformance_window
    vpsext_formats.rep_format vpsext_formats.rep_formats vpsext_formats.rep_format_idx vpsext_formats.rep_format_idxs
    vpsext_formats.formats vpsext_layers.layers_described vpsext_outputsets.profile_tier_level_idx
    vpsext_outputsets.profile_tier_level_idxs vpsext_outputsets.set_profiles vpsext_outputsets.output_layer_set
    vpsext_outputsets.output_layer_sets vpsext_outputsets.output_sets vpsext_pictures.poc_lsb_not_present
    vpsext_pictures.poc_lsbs_not_present vpsext_pictures.pictures vpsext_profiles.vps_profile
    vpsext_profiles.vps_profiles vpsext_profiles.profiles vpsext_sets.coded_sets vpsext_sets.all_dpb_layers
    vpsext_vpsext.dpb_sizes vpsext_vpsext.vps_extension vps_base.base vps_base.aligned_base
    vps_layersets.all_layer_sets vps_opening.opening vps_timing.vps_hrd vps_timing.next_hrd vps_timing.vps_hrds
    vps_timing.timing vps_vps.vps_fields sps_blocks.blocks sps_coding.coding sps_extension.extension
    sps_format.rep_format sps_format.picture_format sps_opening.opening sps_pictures.pictures sps_references.short_set
    sps_references.short_sets sps_references.candidate sps_references.candidates sps_references.references
    sps_scaling.scaling sps_sps.ending sps_sps.behind_opening sps_sps.sps_fields sps_sps.sps_payload sps_tools.tools
    sps_usability.usability pps_deblocking.deblocking pps_extension.multilayer_extension pps_extension.extension
    pps_opening.opening pps_pps.behind_opening pps_pps.pps_fields pps_quantization.quantization pps_tiles.tiles
    pps_tools.tools slice_derived.short_deltas slice_derived.is_long_used slice_derived.num_short_used
    slice_derived.num_long_used slice_derived.num_used slice_ending.ending slice_filters.deblocking
    slice_filters.filters slice_interlayer.active_layer slice_interlayer.active_layer_numbers
    slice_interlayer.inter_layer slice_layers.num_active_ref_layer_pics slice_layers.lacks_layers
    slice_listmodification.list_modification slice_longterms.long_term slice_longterms.entries
    slice_longterms.long_terms slice_opening.opening slice_opening.address slice_picture.references
    slice_picture.picture slice_prediction.lists slice_prediction.prediction slice_slice.num_pic_total_curr
    slice_slice.full slice_slice.slice_fields slice_slice.slice_header slice_weights.chroma_weight
    slice_weights.chroma_weights slice_weights.entry_weights slice_weights.entry_weights_of_all
    slice_weights.list_weights slice_weights.numbered_list slice_weights.lists_weights slice_weights.pred_weight_table
    units_escapes.unescaped units_escapes.payload units_escapes.escaped units_framing.frame units_rules.has_emulation
    units_shown.refusal_behind units_units.has_code units_units.pieces units_units.joined units_units.trimmed
    units_units.placed history_history.run history_history.since history_history.from history_order.put
    history_order.sorted history_order.leaving history_order.staying history_order.waits history_order.gone
    pictures_accessunits.has_slices pictures_accessunits.begins pictures_accessunits.number
    pictures_accessunits.placed pictures_accessunits.all_placed pictures_accessunits.slices_of
    pictures_accessunits.pictures_of pictures_accessunits.first_slice_of pictures_accessunits.is_own_picture
    pictures_accessunits.no_base pictures_accessunits.layer_order pictures_accessunits.orphan_slice
    pictures_accessunits.tid_differs pictures_accessunits.has_changed_vps pictures_carried.carried_vps
    pictures_carried.carried_sps pictures_carried.carried_pps pictures_contexts.format_of pictures_contexts.ctbs
    pictures_contexts.slice_context pictures_counts.nearest pictures_counts.anchor pictures_counts.base_count
    pictures_counts.start_count pictures_counts.count pictures_decoding.decoded_of pictures_decoding.decode_history
    pictures_decoding.decode pictures_decoding.out_history pictures_decoding.out pictures_extract.extract
    pictures_extract.totals pictures_facts.sps_of_unit pictures_facts.pps_of_unit pictures_facts.is_seen
    pictures_facts.seen_pps pictures_facts.seen_sps pictures_facts.own_picture pictures_facts.served_by
    pictures_facts.named_sets pictures_facts.sets_of pictures_facts.context_of pictures_facts.header_of
    pictures_facts.fact pictures_facts.facts pictures_held.held_behind pictures_held.held pictures_held.full_count
    pictures_held.fits_long pictures_held.fits_short pictures_held.long_match pictures_held.long_names
    pictures_held.fits pictures_held.match_of pictures_held.names pictures_held.longs pictures_history.judgement
    pictures_history.judged pictures_history.history pictures_history.facts_of pictures_history.history_of
    pictures_items.vps_behind pictures_items.opening_of pictures_items.item pictures_items.items pictures_items.turns
    pictures_items.stays pictures_layers.layers_at pictures_layers.sets_at pictures_layers.set_at
    pictures_layers.knows pictures_layers.directs pictures_layers.closure pictures_layers.view pictures_layers.keeps
    pictures_lists.places pictures_lists.all_places pictures_lists.list pictures_lists.full_lists
    pictures_lists.segment_tags pictures_lists.lists pictures_look.sequence pictures_look.initialised
    pictures_look.look pictures_look.asked pictures_output.outputs pictures_output.is_output
    pictures_output.sps_reorder pictures_output.reorder pictures_output.is_before pictures_output.distinct
    pictures_output.sequence_before pictures_output.units_ahead pictures_output.is_late pictures_picturerules.no_irap
    pictures_picturerules.decoded_before pictures_picturerules.sps_changed pictures_picturerules.format_differs
    pictures_picturerules.poc_range pictures_picturerules.poc_mismatch pictures_picturerules.irap_refers
    pictures_picturerules.too_many_refs pictures_picturerules.missing_ref pictures_picturerules.missing_inter_layer
    pictures_picturerules.is_of_decoded pictures_picturerules.list_entry pictures_picturerules.no_refs
    pictures_picturerules.collocated pictures_picturerules.vps_mid_cvs pictures_references.start_of
    pictures_references.segments_in pictures_references.term_in pictures_references.tag_of pictures_references.matched
    pictures_references.decoded_in pictures_references.inter_layer pictures_references.is_zero_side
    pictures_references.inter_zeros pictures_references.inter_ones pictures_references.references
    pictures_references.tags pictures_rules.item_cases pictures_rules.set_cases pictures_rules.slice_cases
    pictures_rules.picture_cases pictures_rules.output_cases pictures_rules.cases pictures_rules.least_rule
    pictures_slicefields.coded_lsb pictures_slicefields.max_lsb pictures_slicefields.is_put_out
    pictures_slicefields.long_entry pictures_slicefields.entries pictures_slicefields.active_layers
    pictures_slicefields.num_pic_total_curr pictures_slicefields.active_l0 pictures_slicefields.active_l1
    pictures_slicefields.list_entry_l0 pictures_slicefields.list_entry_l1 pictures_slicerules.missing_pps
    pictures_slicerules.missing_sps pictures_slicerules.slice_syntax pictures_slicerules.cross_layer_bla
    pictures_slicerules.same_option pictures_slicerules.same_list pictures_slicerules.same_short_set
    pictures_slicerules.same_long_term pictures_slicerules.same_long_terms pictures_slicerules.same_references
    pictures_slicerules.same_inter_layer pictures_slicerules.same_picture pictures_slicerules.same_full
    pictures_slicerules.same_opening pictures_slicerules.agrees pictures_slicerules.slice_differs
    pictures_slicerules.address pictures_slicerules.segment_before pictures_slicerules.is_bad_address
    pictures_slicerules.address_order pictures_starts.is_anew pictures_starts.is_sequence_start
    pictures_starts.base_of pictures_starts.in_first_au pictures_starts.starts_layer pictures_starts.is_start
    pictures_starts.is_reset pictures_starts.follows_start pictures_starts.is_skipped pictures_starts.is_decoded
    pictures_starts.sequence_number pictures_starts.sequence_vps pictures_starts.sequence_sps
    pictures_terms.references_of pictures_unitrules.vps_tid pictures_unitrules.no_vps pictures_unitrules.sps_tid
    pictures_verdict.lacking pictures_verdict.objection pictures_verdict.no_picture pictures_verdict.pictures
    pictures_verdict.event pictures_verdict.breaks_none pictures_verdict.is_accepted
rule_examples_hold = record {
  of_vps = record { head = refl; vps_syntax = refl; external_base = refl; splitting = refl; depth = refl; spatial = refl; auxiliary = refl; reserved_dimension = refl; no_view_dimension = refl; same_view = refl; added_layer_sets = refl; alt_output = refl; layer_set_base = refl; layer_set_closure = refl; layer_set_unknown = refl; reserved_output = refl; dependency_type = refl; vps_limit = refl; vps_tid = refl; no_vps = refl; no_vps_by_name = refl };
  of_sets = record { sps_syntax = refl; sps_range = refl; sps_3d = refl; sps_scc = refl; colour_planes = refl; sps_tid = refl; sps_limit = refl; pps_syntax = refl; pps_range = refl; pps_3d = refl; pps_scc = refl; poc_reset = refl; location_offsets = refl; colour_mapping = refl; pps_limit = refl };
  of_slices = record { missing_pps = refl; missing_sps = refl; slice_syntax = refl; cross_layer_bla = refl; no_base = refl; layer_order = refl; orphan_slice = refl; slice_differs = refl; address_order = refl; tid_differs = refl };
  of_pictures = record { no_irap = refl; sps_changed = refl; format_differs = refl; poc_mismatch = refl; irap_refers = refl; too_many_refs = refl; missing_ref = refl; missing_inter_layer = refl; list_entry = refl; no_refs = refl; collocated = refl };
  neighbours = record { one_layer = refl; two_layers = refl; three_layers = refl; choosing = refl; collocated = refl; refers_both = refl };
  range = record { greatest = refl; above = refl; least = refl; below = refl };
}
