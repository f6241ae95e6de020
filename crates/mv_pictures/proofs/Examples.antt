-- Examples: streams by their bytes, and what the definitions say of them. Each is proved by computing both sides.
use Rattle.std.specs.Prelude.{◌≡◌, ℕ, pos, negsuc, List, [], ◌∷◌, ◌++◌, drop, Some, None, refl}
use Rattle.mv_rules.specs.declared.rule.Rule.{Rule}
use Rattle.mv_pictures.specs.Terms.{Tag, before, after, long, inter_zero, inter_one}
use Rattle.mv_pictures.specs.Extract.{Totals, extract, totals}
use Rattle.mv_pictures.proofs.ExampleUnits.{two_views_vps, changed_vps, base_sps, upper_sps, base_pps, upper_pps, base_idr, upper_idr, base_trail, upper_trail, same_id_pps, same_id_idr, same_id_trail, base_cra, upper_cra, base_rasl, upper_rasl, lone_trail, one_layer_vps, plain_sps, long_sps, reorder_sps, modify_pps, long_1, long_2, short_2, modified_1, modified_2, initial_3, later_2, between_1, three_layers_vps, other_layers_vps, middle_idr, top_idr, end_of_sequence, stray, count_8, count_9, chain_8, chain_16, long_17, cycle_17, alone_1, back_2, keeping_cra, crossing_rasl, upper_7, count_15, two_reorder_vps, middle_2, middle_1, all_sides_1, between_views_vps, middle_p, top_p, parts_pps, first_part, dependent_part, hiding_pps, shown_idr, hidden_1, delimiter, wide_sps, hiding_upper_pps, upper_plain_pps, upper_first, upper_second, two_views_plain_vps, high_vps, middle_end, middle_trail, middle_cra, middle_plain_0, two_layers_vps, plain_1, plain_8, plain_16, plain_20, middle_idr_4, middle_n, middle_keeping_cra, middle_back_2, tiles_pps, tile_first, tile_at_8, tile_at_4, idr_at_8, idr_at_4}
use Rattle.mv_pictures.proofs.Observing.{decoded, put_out, references, pps_used, lists0, lists1, start, decoded_picture, skipped, states, verdict, stopped, no_set}
use Rattle.mv_pictures.proofs.ExampleUnits.{two_views_vps, changed_vps, base_sps, upper_sps, base_pps, upper_pps, base_idr, upper_idr, base_trail, upper_trail, base_cra, upper_cra, base_rasl, upper_rasl, lone_trail, one_layer_vps, plain_sps, long_sps, reorder_sps, modify_pps, long_1, long_2, short_2, modified_1, modified_2, initial_3, later_2, between_1, three_layers_vps, other_layers_vps, middle_idr, top_idr, end_of_sequence, stray, count_8, count_9, chain_8, chain_16, long_17, cycle_17, alone_1, back_2, keeping_cra, crossing_rasl, upper_7, non_reference_7, radl_7, rasl_7, count_15, two_reorder_vps, middle_2, middle_1, all_sides_1, between_views_vps, middle_p, top_p, parts_pps, first_part, dependent_part, hiding_pps, shown_idr, hidden_1, delimiter, wide_sps, hiding_upper_pps, upper_plain_pps, upper_first, upper_second, two_views_plain_vps, high_vps, middle_end, middle_trail, middle_cra, middle_plain_0, two_layers_vps, plain_1, plain_8, plain_16, plain_20, middle_idr_4, middle_n, middle_keeping_cra, middle_back_2, tiles_pps, tile_first, tile_at_8, tile_at_4, idr_at_8, idr_at_4}
use Rattle.mv_pictures.proofs.Observing.{decoded, put_out, references, lists0, lists1, start, decoded_picture, skipped, states, verdict, stopped, no_set}
use Rattle.mv_judging.specs.Facts as judging_facts
use Rattle.mv_judging.specs.Judge as judging_judge
use Rattle.mv_syntax.specs.Bits as syntax_bits
use Rattle.mv_syntax.specs.Loops as syntax_loops
use Rattle.mv_syntax.specs.inner.PayloadReader as syntax_payload_reader
use Rattle.mv_syntax.specs.inner.Ending as syntax_inner_ending
use Rattle.mv_fields.specs.Widths as fields_widths
use Rattle.mv_common.specs.Hrd as common_hrd
use Rattle.mv_common.specs.Profile as common_profile
use Rattle.mv_common.specs.ProfileTier as common_profiletier
use Rattle.mv_common.specs.ScalingLists as common_scalinglists
use Rattle.mv_common.specs.SubLayerOrdering as common_sublayerordering
use Rattle.mv_common.specs.Vui as common_vui
use Rattle.mv_short_sets.specs.Deltas as short_sets_deltas
use Rattle.mv_short_sets.specs.ShortSet as short_sets_shortset
use Rattle.mv_layers.specs.LayerInfos as layers_layerinfos
use Rattle.mv_vpsext.specs.Args as vpsext_args
use Rattle.mv_vpslayers.specs.Dependencies as vpsext_dependencies
use Rattle.mv_vpslayers.specs.DependencyTypes as vpsext_dependencytypes
use Rattle.mv_vpsext.specs.Derived as vpsext_derived
use Rattle.mv_vpslayers.specs.Dimensions as vpsext_dimensions
use Rattle.mv_vpssets.specs.DpbSizes as vpsext_dpbsizes
use Rattle.mv_vpsext.specs.ExtEnding as vpsext_extending
use Rattle.mv_vpsext.specs.Formats as vpsext_formats
use Rattle.mv_vpslayers.specs.Layers as vpsext_layers
use Rattle.mv_vpssets.specs.OutputSets as vpsext_outputsets
use Rattle.mv_vpsext.specs.Pictures as vpsext_pictures
use Rattle.mv_vpsext.specs.Profiles as vpsext_profiles
use Rattle.mv_vpssets.specs.Sets as vpsext_sets
use Rattle.mv_vpsext.specs.VpsExt as vpsext_vpsext
use Rattle.mv_vps.specs.Base as vps_base
use Rattle.mv_vps.specs.LayerSets as vps_layersets
use Rattle.mv_vps.specs.Opening as vps_opening
use Rattle.mv_vps.specs.Timing as vps_timing
use Rattle.mv_vps.specs.Vps as vps_vps
use Rattle.mv_sps.specs.Blocks as sps_blocks
use Rattle.mv_sps.specs.Coding as sps_coding
use Rattle.mv_sps.specs.Extension as sps_extension
use Rattle.mv_sps.specs.Format as sps_format
use Rattle.mv_sps.specs.Opening as sps_opening
use Rattle.mv_sps.specs.Pictures as sps_pictures
use Rattle.mv_sps.specs.References as sps_references
use Rattle.mv_sps.specs.Scaling as sps_scaling
use Rattle.mv_sps.specs.Sps as sps_sps
use Rattle.mv_sps.specs.Tools as sps_tools
use Rattle.mv_sps.specs.Usability as sps_usability
use Rattle.mv_pps.specs.Deblocking as pps_deblocking
use Rattle.mv_pps.specs.Extension as pps_extension
use Rattle.mv_pps.specs.Opening as pps_opening
use Rattle.mv_pps.specs.Pps as pps_pps
use Rattle.mv_pps.specs.Quantization as pps_quantization
use Rattle.mv_pps.specs.Tiles as pps_tiles
use Rattle.mv_pps.specs.Tools as pps_tools
use Rattle.mv_slice.specs.Derived as slice_derived
use Rattle.mv_slice.specs.Ending as slice_ending
use Rattle.mv_slice.specs.Filters as slice_filters
use Rattle.mv_slice.specs.InterLayer as slice_interlayer
use Rattle.mv_slice.specs.Layers as slice_layers
use Rattle.mv_slice.specs.ListModification as slice_listmodification
use Rattle.mv_slice.specs.LongTerms as slice_longterms
use Rattle.mv_slice.specs.Opening as slice_opening
use Rattle.mv_slice.specs.Picture as slice_picture
use Rattle.mv_slice.specs.Prediction as slice_prediction
use Rattle.mv_slice.specs.Slice as slice_slice
use Rattle.mv_slice.specs.Weights as slice_weights
use Rattle.mv_units.specs.Escapes as units_escapes
use Rattle.mv_units.specs.Framing as units_framing
use Rattle.mv_units.specs.Rules as units_rules
use Rattle.mv_units.specs.Shown as units_shown
use Rattle.mv_units.specs.Units as units_units
use Rattle.mv_history.specs.History as history_history
use Rattle.mv_history.specs.Order as history_order
use Rattle.mv_pictures.specs.AccessUnits as pictures_accessunits
use Rattle.mv_pictures.specs.Carried as pictures_carried
use Rattle.mv_pictures.specs.Contexts as pictures_contexts
use Rattle.mv_pictures.specs.Counts as pictures_counts
use Rattle.mv_pictures.specs.Decoding as pictures_decoding
use Rattle.mv_pictures.specs.Extract as pictures_extract
use Rattle.mv_pictures.specs.Facts as pictures_facts
use Rattle.mv_pictures.specs.Held as pictures_held
use Rattle.mv_pictures.specs.History as pictures_history
use Rattle.mv_pictures.specs.Items as pictures_items
use Rattle.mv_pictures.specs.Layers as pictures_layers
use Rattle.mv_pictures.specs.Lists as pictures_lists
use Rattle.mv_pictures.specs.Look as pictures_look
use Rattle.mv_pictures.specs.Output as pictures_output
use Rattle.mv_pictures.specs.PictureRules as pictures_picturerules
use Rattle.mv_pictures.specs.References as pictures_references
use Rattle.mv_pictures.specs.Rules as pictures_rules
use Rattle.mv_pictures.specs.SliceFields as pictures_slicefields
use Rattle.mv_pictures.specs.SliceRules as pictures_slicerules
use Rattle.mv_pictures.specs.Starts as pictures_starts
use Rattle.mv_pictures.specs.Terms as pictures_terms
use Rattle.mv_pictures.specs.UnitRules as pictures_unitrules
use Rattle.mv_pictures.specs.Verdict as pictures_verdict

-- ---- Two views

abbrev sets : List (List ℕ)
sets = base_sps ∷ upper_sps ∷ base_pps ∷ upper_pps ∷ []

abbrev two_views : List (List ℕ)
two_views = two_views_vps ∷ sets ++ base_idr ∷ upper_idr ∷ base_trail ∷ upper_trail ∷ []

abbrev same_ids : List (List ℕ)
same_ids = two_views_vps ∷ base_sps ∷ upper_sps ∷ base_pps ∷ same_id_pps ∷ base_idr ∷ same_id_idr ∷ base_trail ∷ same_id_trail ∷ []

pub record TwoViews : Type 0 where
  -- it is accepted for both sets, and lacks a third one: the video parameter set shows it at once
  pub base_set : verdict two_views 0 ≡ None
  pub both_set : verdict two_views 1 ≡ None
  pub third_set : verdict two_views 2 ≡ no_set 0 4 2 2
  -- both layers are decoded, in two access units of one sequence
  pub decodes : decoded two_views ≡ (0, 0, 0, 0, pos 0) ∷ (0, 0, 1, 1, pos 0) ∷ (0, 1, 0, 0, pos 1) ∷ (0, 1, 1, 1, pos 1) ∷ []
  -- set 0 puts out layer 0, set 1 both
  pub base_out : put_out two_views 0 ≡ (0, 0, 0, 0, pos 0) ∷ (0, 1, 0, 0, pos 1) ∷ []
  pub both_out : put_out two_views 1 ≡ (0, 0, 0, 0, pos 0) ∷ (0, 0, 1, 1, pos 0) ∷ (0, 1, 0, 0, pos 1) ∷ (0, 1, 1, 1, pos 1) ∷ []
  -- the first picture of layer 1 refers to that of layer 0, the second to the first and to that of layer 0 beside it
  pub refers : references two_views ≡ [] ∷ ((inter_zero, 0, pos 0) ∷ []) ∷ ((before, 0, pos 0) ∷ []) ∷ ((before, 1, pos 0) ∷ (inter_zero, 0, pos 1) ∷ []) ∷ []
  pub lists : lists0 two_views ≡ ([] ∷ []) ∷ ((0 ∷ []) ∷ []) ∷ ((0 ∷ []) ∷ []) ∷ ((0 ∷ 1 ∷ []) ∷ []) ∷ []
  -- the extract for set 0 is the units of layer 0, that for set 1 all
  pub base_extract : extract two_views 0 ≡ two_views_vps ∷ base_sps ∷ base_pps ∷ base_idr ∷ base_trail ∷ []
  pub both_extract : extract two_views 1 ≡ two_views
  pub counts : totals two_views 0 ≡ record { units = 9; kept = 5; pictures = 4; sequences = 1; layers = 2; sets = 2 }
  -- in the extract the numbers stay: layer 0 is decoded as in the whole
  pub base_alone : decoded (extract two_views 0) ≡ (0, 0, 0, 0, pos 0) ∷ (0, 1, 0, 0, pos 1) ∷ []
  -- a stray is told nothing and dropped
  pub with_stray : verdict (two_views ++ stray ∷ []) 1 ≡ None
  pub no_stray : extract (two_views ++ stray ∷ []) 1 ≡ two_views
  -- both layers may use one id: each takes the latest set of its own closure
  pub one_id : verdict same_ids 1 ≡ None
  pub own_sets : pps_used same_ids ≡ drop 2 base_pps ∷ drop 2 same_id_pps ∷ drop 2 base_pps ∷ drop 2 same_id_pps ∷ []

-- ---- Leading pictures

abbrev leading : List (List ℕ)
leading = two_views_vps ∷ sets ++ base_cra ∷ upper_cra ∷ base_rasl ∷ upper_rasl ∷ []

pub record Leading : Type 0 where
  -- behind a CRA picture that starts the sequence the RASL pictures are skipped; that of layer 0 still has a count
  pub skips : states leading ≡ (start, Some (pos 4)) ∷ (start, Some (pos 4)) ∷ (skipped, Some (pos 3)) ∷ (skipped, None) ∷ []
  pub decodes : decoded leading ≡ (0, 0, 0, 0, pos 4) ∷ (0, 0, 1, 1, pos 4) ∷ []
  pub accepted : verdict leading 1 ≡ None
  -- behind the end of a sequence a CRA picture starts another; a picture that is no IRAP picture can't
  pub ends : decoded (leading ++ end_of_sequence ∷ base_cra ∷ []) ≡ (0, 0, 0, 0, pos 4) ∷ (0, 0, 1, 1, pos 4) ∷ (1, 2, 0, 0, pos 4) ∷ []
  pub needs_irap : verdict (two_views ++ end_of_sequence ∷ lone_trail ∷ []) 1 ≡ stopped 10 168 Rule.NoIrap

-- ---- A video parameter set that changes

abbrev turned : List (List ℕ)
turned = two_views ++ changed_vps ∷ []

pub record ChangedVps : Type 0 where
  -- it may change where a sequence starts; the sets are sent again
  pub accepted : verdict (turned ++ sets ++ base_idr ∷ []) 1 ≡ None
  pub goes_on : decoded (turned ++ sets ++ base_idr ∷ [])
      ≡ (0, 0, 0, 0, pos 0) ∷ (0, 0, 1, 1, pos 0) ∷ (0, 1, 0, 0, pos 1) ∷ (0, 1, 1, 1, pos 1) ∷ (1, 2, 0, 0, pos 0) ∷ []
  -- the sets before it are out of reach
  pub forgets : verdict (turned ++ base_idr ∷ []) 1 ≡ stopped 10 219 Rule.MissingPps
  -- within a sequence it may not change
  pub within : verdict (turned ++ sets ++ lone_trail ∷ []) 1 ≡ stopped 14 282 Rule.VpsMidCvs
  -- the same one again changes nothing
  pub repeated : verdict (two_views ++ two_views_vps ∷ lone_trail ∷ []) 1 ≡ None
  -- one and another and the first again: it changes twice, and each time the sets before it are out of reach
  pub changes_twice : verdict (turned ++ sets ++ base_idr ∷ two_views_vps ∷ sets ++ base_idr ∷ []) 1 ≡ None
  pub forgets_twice : verdict (turned ++ sets ++ base_idr ∷ two_views_vps ∷ base_idr ∷ []) 1 ≡ stopped 16 347 Rule.MissingPps
  -- one without the set that is asked for is told at once
  pub lacks : verdict (two_views ++ one_layer_vps ∷ []) 1 ≡ no_set 9 162 1 1

abbrev three_layers : List (List ℕ)
three_layers = plain_sps ∷ base_pps ∷ base_idr ∷ middle_idr ∷ top_idr ∷ []

abbrev other_layers : List (List ℕ)
other_layers = three_layers_vps ∷ three_layers ++ other_layers_vps ∷ three_layers

pub record OtherLayers : Type 0 where
  -- set 1 keeps layers 0 and 1, and then 0 and 2: what is kept of a unit is said by the video parameter set at it
  pub accepted : verdict other_layers 1 ≡ None
  pub extracts : extract other_layers 1
      ≡ three_layers_vps ∷ plain_sps ∷ base_pps ∷ base_idr ∷ middle_idr ∷ other_layers_vps ∷ plain_sps ∷ base_pps ∷ base_idr ∷ top_idr ∷ []
  pub puts_out : put_out other_layers 1 ≡ (0, 0, 0, 0, pos 0) ∷ (0, 0, 1, 1, pos 0) ∷ (1, 1, 0, 0, pos 0) ∷ (1, 1, 2, 2, pos 0) ∷ []
  pub same_out : put_out (extract other_layers 1) 1 ≡ put_out other_layers 1
  pub twice : extract (extract other_layers 1) 1 ≡ extract other_layers 1

-- ---- Marks, lists, output order

abbrev long_term : List (List ℕ)
long_term = one_layer_vps ∷ long_sps ∷ base_pps ∷ base_idr ∷ long_1 ∷ []

pub record LongTerm : Type 0 where
  -- a long-term entry matches the picture with its low bits; the mark stays with the picture
  pub accepted : verdict (long_term ++ long_2 ∷ []) 0 ≡ None
  pub refers : references (long_term ++ long_2 ∷ []) ≡ [] ∷ ((long, 0, pos 0) ∷ []) ∷ ((before, 0, pos 1) ∷ (long, 0, pos 0) ∷ []) ∷ []
  -- a short-term entry takes no picture that has the mark
  pub stays_long : verdict (long_term ++ short_2 ∷ []) 0 ≡ stopped 5 91 Rule.MissingRef

abbrev modified : List (List ℕ)
modified = one_layer_vps ∷ plain_sps ∷ modify_pps ∷ base_idr ∷ modified_1 ∷ modified_2 ∷ initial_3 ∷ []

pub record ModifiedList : Type 0 where
  -- a modified list has the initial entry at each list_entry; an initial one repeats the references
  pub accepted : verdict modified 0 ≡ None
  pub lists : lists0 modified ≡ ([] ∷ []) ∷ ((0 ∷ []) ∷ []) ∷ ((1 ∷ 1 ∷ 0 ∷ []) ∷ []) ∷ ((0 ∷ 1 ∷ 0 ∷ 1 ∷ []) ∷ []) ∷ []

abbrev reordered : List (List ℕ)
reordered = base_pps ∷ base_idr ∷ later_2 ∷ between_1 ∷ []

pub record Reordered : Type 0 where
  -- with the reorder number 1 one access unit may stand before a picture and be put out behind it, with 0 none
  pub accepted : verdict (one_layer_vps ∷ reorder_sps ∷ reordered) 0 ≡ None
  pub puts_out : put_out (one_layer_vps ∷ reorder_sps ∷ reordered) 0 ≡ (0, 0, 0, 0, pos 0) ∷ (0, 2, 0, 0, pos 1) ∷ (0, 1, 0, 0, pos 2) ∷ []
  pub late : verdict (one_layer_vps ∷ plain_sps ∷ reordered) 0 ≡ stopped 5 90 (Rule.Reorder 0)
  -- its references stand on both sides of it
  pub refers : references (one_layer_vps ∷ reorder_sps ∷ reordered) ≡ [] ∷ ((before, 0, pos 0) ∷ []) ∷ ((before, 0, pos 0) ∷ (after, 0, pos 2) ∷ []) ∷ []

-- ---- Counts

abbrev one_layer : List (List ℕ)
one_layer = one_layer_vps ∷ plain_sps ∷ base_pps ∷ base_idr ∷ []

pub record Counts : Type 0 where
  -- low bits from 0 to 15: 8 behind the anchor 0 is 8, and 9 is -7
  pub half_above : states (one_layer ++ count_8 ∷ []) ≡ (start, Some (pos 0)) ∷ (decoded_picture, Some (pos 8)) ∷ []
  pub past_half : states (one_layer ++ count_9 ∷ []) ≡ (start, Some (pos 0)) ∷ (decoded_picture, Some (negsuc 6)) ∷ []
  -- a picture of TemporalId 1 is no anchor: behind 0 the low bits 15 are -1
  pub anchors : states (one_layer ++ upper_7 ∷ count_15 ∷ []) ≡ (start, Some (pos 0)) ∷ (decoded_picture, Some (pos 7)) ∷ (decoded_picture, Some (negsuc 0)) ∷ []
  -- nor is a RADL picture, a RASL picture that is skipped, or a sub-layer non-reference picture
  pub radl : states (one_layer ++ radl_7 ∷ count_15 ∷ []) ≡ (start, Some (pos 0)) ∷ (decoded_picture, Some (pos 7)) ∷ (decoded_picture, Some (negsuc 0)) ∷ []
  pub rasl : states (one_layer ++ rasl_7 ∷ count_15 ∷ []) ≡ (start, Some (pos 0)) ∷ (skipped, Some (pos 7)) ∷ (decoded_picture, Some (negsuc 0)) ∷ []
  pub non_reference : states (one_layer ++ non_reference_7 ∷ count_15 ∷ []) ≡ (start, Some (pos 0)) ∷ (decoded_picture, Some (pos 7)) ∷ (decoded_picture, Some (negsuc 0)) ∷ []

-- ---- Held pictures

abbrev chain : List (List ℕ)
chain = one_layer_vps ∷ long_sps ∷ base_pps ∷ base_idr ∷ chain_8 ∷ chain_16 ∷ []

pub record HeldPictures : Type 0 where
  -- of two pictures with the same low bits the latest is matched; with a cycle the other one is named
  pub latest : references (chain ++ long_17 ∷ []) ≡ [] ∷ ((before, 0, pos 0) ∷ []) ∷ ((before, 0, pos 8) ∷ (before, 0, pos 0) ∷ []) ∷ ((long, 0, pos 16) ∷ []) ∷ []
  pub cycles : references (chain ++ cycle_17 ∷ []) ≡ [] ∷ ((before, 0, pos 0) ∷ []) ∷ ((before, 0, pos 8) ∷ (before, 0, pos 0) ∷ []) ∷ ((long, 0, pos 0) ∷ []) ∷ []
  -- a picture that the next one doesn't name is not held any more
  pub dropped : verdict (one_layer ++ alone_1 ∷ back_2 ∷ []) 0 ≡ stopped 5 89 Rule.MissingRef
  pub kept : verdict (one_layer ++ plain_1 ∷ later_2 ∷ []) 0 ≡ None
  -- a RASL picture behind a CRA picture that is no start is decoded
  pub decodes_rasl : states (one_layer_vps ∷ reorder_sps ∷ base_pps ∷ base_idr ∷ keeping_cra ∷ crossing_rasl ∷ [])
      ≡ (start, Some (pos 0)) ∷ (decoded_picture, Some (pos 4)) ∷ (decoded_picture, Some (pos 3)) ∷ []

-- ---- Layers above 0

abbrev upper_layer : List (List ℕ)
upper_layer = two_layers_vps ∷ plain_sps ∷ base_pps ∷ base_idr ∷ middle_idr ∷ []

pub record UpperLayers : Type 0 where
  -- behind the end of layer 1 its pictures are skipped up to an IRAP picture, where it starts again
  pub skips : states (upper_layer ++ middle_end ∷ plain_1 ∷ middle_trail ∷ [])
      ≡ (start, Some (pos 0)) ∷ (start, Some (pos 0)) ∷ (decoded_picture, Some (pos 1)) ∷ (skipped, None) ∷ []
  pub starts_again : states (upper_layer ++ middle_end ∷ plain_1 ∷ middle_cra ∷ [])
      ≡ (start, Some (pos 0)) ∷ (start, Some (pos 0)) ∷ (decoded_picture, Some (pos 1)) ∷ (start, Some (pos 1)) ∷ []
  -- there it forgets its references, also those that its own set names
  pub forgets : verdict (upper_layer ++ middle_end ∷ plain_1 ∷ middle_keeping_cra ∷ later_2 ∷ middle_back_2 ∷ []) 1 ≡ stopped 9 140 Rule.MissingRef
  pub remembers : verdict (upper_layer ++ plain_1 ∷ middle_keeping_cra ∷ later_2 ∷ middle_back_2 ∷ []) 1 ≡ None
  -- without the end a CRA picture of layer 1 is no start
  pub goes_on : states (upper_layer ++ plain_1 ∷ middle_cra ∷ [])
      ≡ (start, Some (pos 0)) ∷ (start, Some (pos 0)) ∷ (decoded_picture, Some (pos 1)) ∷ (decoded_picture, Some (pos 1)) ∷ []
  -- where a sequence starts, a picture without references starts layer 1
  pub starts_plainly : states (two_layers_vps ∷ plain_sps ∷ base_pps ∷ base_idr ∷ middle_plain_0 ∷ []) ≡ (start, Some (pos 0)) ∷ (start, Some (pos 0)) ∷ []
  -- it is the anchor of the next one, also where its type is none of an anchor
  pub anchors : states (two_layers_vps ∷ plain_sps ∷ base_pps ∷ base_idr ∷ middle_n ∷ plain_1 ∷ middle_trail ∷ [])
      ≡ (start, Some (pos 0)) ∷ (start, Some (pos 0)) ∷ (decoded_picture, Some (pos 1)) ∷ (decoded_picture, Some (pos 1)) ∷ []
  -- a start takes the count of the base picture
  pub takes_count : states (two_layers_vps ∷ plain_sps ∷ base_pps ∷ base_idr ∷ plain_8 ∷ plain_16 ∷ plain_20 ∷ middle_idr_4 ∷ [])
      ≡ (start, Some (pos 0)) ∷ (decoded_picture, Some (pos 8)) ∷ (decoded_picture, Some (pos 16)) ∷ (decoded_picture, Some (pos 20)) ∷ (start, Some (pos 20)) ∷ []
  -- elsewhere a picture without references doesn't start it
  pub not_later : states (upper_layer ++ middle_end ∷ plain_1 ∷ middle_1 ∷ [])
      ≡ (start, Some (pos 0)) ∷ (start, Some (pos 0)) ∷ (decoded_picture, Some (pos 1)) ∷ (skipped, None) ∷ []

abbrev all_sides : List (List ℕ)
all_sides = two_reorder_vps ∷ reorder_sps ∷ base_pps ∷ base_idr ∷ middle_idr ∷ later_2 ∷ middle_2 ∷ between_1 ∷ []

pub record InterLayer : Type 0 where
  -- the lists take the parts in their own orders
  pub refers : references (all_sides ++ all_sides_1 ∷ [])
      ≡ [] ∷ [] ∷ ((before, 0, pos 0) ∷ []) ∷ [] ∷ ((before, 0, pos 0) ∷ (after, 0, pos 2) ∷ []) ∷ ((before, 1, pos 0) ∷ (after, 1, pos 2) ∷ (inter_zero, 0, pos 1) ∷ []) ∷ []
  pub first_list : lists0 (all_sides ++ all_sides_1 ∷ []) ≡ ([] ∷ []) ∷ ([] ∷ []) ∷ ((0 ∷ []) ∷ []) ∷ ([] ∷ []) ∷ ((0 ∷ []) ∷ []) ∷ ((0 ∷ 2 ∷ 1 ∷ []) ∷ []) ∷ []
  pub second_list : lists1 (all_sides ++ all_sides_1 ∷ []) ≡ ([] ∷ []) ∷ ([] ∷ []) ∷ ([] ∷ []) ∷ ([] ∷ []) ∷ ([] ∷ []) ∷ ((1 ∷ 0 ∷ 2 ∷ []) ∷ []) ∷ []
  -- access units are counted, not pictures: one of them, with two pictures, stands before count 1 and is put out behind it
  pub accepted : verdict (all_sides ++ all_sides_1 ∷ []) 1 ≡ None
  pub puts_out : put_out (all_sides ++ all_sides_1 ∷ []) 1
      ≡ (0, 0, 0, 0, pos 0) ∷ (0, 0, 1, 1, pos 0) ∷ (0, 2, 0, 0, pos 1) ∷ (0, 2, 1, 1, pos 1) ∷ (0, 1, 0, 0, pos 2) ∷ (0, 1, 1, 1, pos 2) ∷ []
  -- a view between that of layer 0 and that of the reference: the two stand on its two sides
  pub both_sides : references (between_views_vps ∷ plain_sps ∷ base_pps ∷ base_idr ∷ middle_p ∷ top_p ∷ [])
      ≡ [] ∷ ((inter_zero, 0, pos 0) ∷ []) ∷ ((inter_zero, 0, pos 0) ∷ (inter_one, 1, pos 0) ∷ []) ∷ []

-- ---- Segments and sets

abbrev parts : List (List ℕ)
parts = one_layer_vps ∷ plain_sps ∷ parts_pps ∷ base_idr ∷ first_part ∷ dependent_part ∷ []

abbrev two_segments : List (List ℕ)
two_segments = two_views_plain_vps ∷ plain_sps ∷ base_pps ∷ upper_plain_pps ∷ base_idr ∷ upper_first ∷ hiding_upper_pps ∷ upper_second ∷ []

pub record Segments : Type 0 where
  -- a dependent segment has the lists of the one before it; both stand in the term
  pub accepted : verdict parts 0 ≡ None
  pub lists : lists0 parts ≡ ([] ∷ []) ∷ ((0 ∷ []) ∷ (0 ∷ []) ∷ []) ∷ []
  -- a picture parameter set between two segments serves the next picture, and not the second segment
  pub set_between : verdict two_segments 1 ≡ None
  -- with tiles an address may be below that of the segment before
  pub tiles : verdict (one_layer_vps ∷ plain_sps ∷ tiles_pps ∷ tile_first ∷ tile_at_8 ∷ tile_at_4 ∷ []) 0 ≡ None
  pub no_tiles : verdict (one_layer ++ idr_at_8 ∷ idr_at_4 ∷ []) 0 ≡ stopped 5 89 Rule.AddressOrder
  -- a set of layer 1 begins no access unit
  pub same_au : decoded two_segments ≡ (0, 0, 0, 0, pos 0) ∷ (0, 0, 1, 1, pos 0) ∷ []
  -- what stands before the first video parameter set is kept for every set
  pub delimited : extract (delimiter ∷ two_views) 0 ≡ delimiter ∷ two_views_vps ∷ base_sps ∷ base_pps ∷ base_idr ∷ base_trail ∷ []
  -- pic_output_flag 0: decoded, and not put out
  pub hides : put_out (one_layer_vps ∷ plain_sps ∷ hiding_pps ∷ shown_idr ∷ hidden_1 ∷ []) 0 ≡ (0, 0, 0, 0, pos 0) ∷ []
  -- another sequence parameter set may come at a start
  pub changes_sps : verdict (one_layer ++ wide_sps ∷ base_pps ∷ base_idr ∷ []) 0 ≡ None
  pub stays_sps : verdict (one_layer ++ wide_sps ∷ base_pps ∷ alone_1 ∷ []) 0 ≡ stopped 6 121 Rule.SpsChanged
  -- a broken rule is told before a lacking set
  pub rule_first : verdict (high_vps ∷ []) 5 ≡ stopped 0 4 Rule.VpsTid
  -- the end of the stream is refused where no base picture was decoded
  pub no_picture : verdict (one_layer_vps ∷ []) 0 ≡ stopped 1 28 Rule.NoPicture

-- ---- All of them hold

pub record Examples : Type 0 where
  pub two_views : TwoViews
  pub leading : Leading
  pub changed_vps : ChangedVps
  pub other_layers : OtherLayers
  pub long_term : LongTerm
  pub modified_list : ModifiedList
  pub reordered : Reordered
  pub counts : Counts
  pub held_pictures : HeldPictures
  pub upper_layers : UpperLayers
  pub inter_layer : InterLayer
  pub segments : Segments

-- the proof is one computation, for which all definitions have to be opened
pub examples_hold : Examples
unfolding judging_facts.facts_behind judging_judge.judged_behind syntax_bits.u_bits syntax_bits.take_bits syntax_bits.halvings
    syntax_bits.ue_zeros syntax_bits.ue_bits syntax_bits.take_ue_from syntax_bits.take_ue syntax_bits.se_value
    syntax_bits.se_code syntax_bits.se_bits syntax_bits.take_se syntax_bits.align_bits syntax_bits.trailing_bits
    syntax_bits.has_one syntax_bits.more_data syntax_bits.byte_bits syntax_loops.items syntax_loops.items_after
    syntax_loops.items_numbered syntax_loops.columns syntax_loops.columns_after
    syntax_loops.each
    syntax_payload_reader.read_payload syntax_inner_ending.before_last_one syntax_inner_ending.take_tail
    syntax_inner_ending.read_end fields_widths.clog2 common_hrd.hrd_common common_hrd.cpb common_hrd.sub_layer_hrd
    common_hrd.hrd_sub_layer common_hrd.hrd_sub_layers common_hrd.hrd_parameters common_profile.profile
    common_profiletier.sub_layer_flags common_profiletier.all_sub_layer_flags common_profiletier.reserved_pair
    common_profiletier.reserved_bits common_profiletier.sub_layer common_profiletier.sub_layers
    common_profiletier.profile_tier_level common_scalinglists.coefficient common_scalinglists.coefficients
    common_scalinglists.scaling_list common_scalinglists.lists_of_size common_scalinglists.scaling_list_data
    common_sublayerordering.sub_layer common_sublayerordering.sub_layers common_sublayerordering.sub_layer_ordering
    common_vui.aspect_ratio common_vui.overscan common_vui.video_signal_type common_vui.chroma_location
    common_vui.display_window common_vui.bitstream_restriction common_vui.vui_timing common_vui.vui_parameters
    short_sets_deltas.direct short_sets_deltas.predicted short_sets_deltas.deltas short_sets_deltas.deltas_of_each
    short_sets_shortset.candidate_flags short_sets_shortset.picture short_sets_shortset.set_fields
    short_sets_shortset.st_ref_pic_set layers_layerinfos.layer_infos vpsext_args.layer_set vpsext_args.layer_sets
    vpsext_dependencies.layer_dependencies vpsext_dependencies.dependency_flags vpsext_dependencies.added_layer_sets
    vpsext_dependencies.all_sub_layers_max vpsext_dependencies.max_tid vpsext_dependencies.layer_max_tids
    vpsext_dependencies.max_tids vpsext_dependencies.dependencies vpsext_dependencytypes.dependency_type
    vpsext_dependencytypes.layer_dependency_types vpsext_dependencytypes.dependency_types vpsext_dependencytypes.types
    vpsext_derived.all_ols vpsext_dimensions.mask_flag vpsext_dimensions.mask_flags vpsext_dimensions.vps_layer
    vpsext_dimensions.vps_layers vpsext_dimensions.view_id_vals vpsext_dimensions.dimensions vpsext_dpbsizes.buffering
    vpsext_dpbsizes.bufferings vpsext_dpbsizes.dpb_numbers vpsext_dpbsizes.dpb_sub_layer
    vpsext_dpbsizes.dpb_sub_layers vpsext_dpbsizes.dpb_set vpsext_dpbsizes.dpb_of_set vpsext_dpbsizes.dpb_size
    vpsext_extending.ext_ending vpsext_formats.chroma_and_depth vpsext_formats.conformance_window
    vpsext_formats.rep_format vpsext_formats.rep_formats vpsext_formats.rep_format_idx vpsext_formats.rep_format_idxs
    vpsext_formats.formats vpsext_layers.layers_described vpsext_outputsets.profile_tier_level_idx
    vpsext_outputsets.profile_tier_level_idxs vpsext_outputsets.set_profiles vpsext_outputsets.output_layer_set
    vpsext_outputsets.output_layer_sets vpsext_outputsets.output_sets vpsext_pictures.poc_lsb_not_present
    vpsext_pictures.poc_lsbs_not_present vpsext_pictures.pictures vpsext_profiles.vps_profile
    vpsext_profiles.vps_profiles vpsext_profiles.profiles vpsext_sets.coded_sets vpsext_sets.all_dpb_layers
    vpsext_vpsext.dpb_sizes vpsext_vpsext.vps_extension vps_base.base vps_base.aligned_base
    vps_layersets.all_layer_sets vps_opening.opening vps_timing.vps_hrd vps_timing.next_hrd vps_timing.vps_hrds
    vps_timing.timing vps_vps.vps_fields sps_blocks.blocks sps_coding.coding sps_extension.extension
    sps_format.rep_format sps_format.picture_format sps_opening.opening sps_pictures.pictures sps_references.short_set
    sps_references.short_sets sps_references.candidate sps_references.candidates sps_references.references
    sps_scaling.scaling sps_sps.ending sps_sps.behind_opening sps_sps.sps_fields sps_sps.sps_payload sps_tools.tools
    sps_usability.usability pps_deblocking.deblocking pps_extension.multilayer_extension pps_extension.extension
    pps_opening.opening pps_pps.behind_opening pps_pps.pps_fields pps_quantization.quantization pps_tiles.tiles
    pps_tools.tools slice_derived.short_deltas slice_derived.is_long_used slice_derived.num_short_used
    slice_derived.num_long_used slice_derived.num_used slice_ending.ending slice_filters.deblocking
    slice_filters.filters slice_interlayer.active_layer slice_interlayer.active_layer_numbers
    slice_interlayer.inter_layer slice_layers.num_active_ref_layer_pics slice_layers.lacks_layers
    slice_listmodification.list_modification slice_longterms.long_term slice_longterms.entries
    slice_longterms.long_terms slice_opening.opening slice_opening.address slice_picture.references
    slice_picture.picture slice_prediction.lists slice_prediction.prediction slice_slice.num_pic_total_curr
    slice_slice.full slice_slice.slice_fields slice_slice.slice_header slice_weights.chroma_weight
    slice_weights.chroma_weights slice_weights.entry_weights slice_weights.entry_weights_of_all
    slice_weights.list_weights slice_weights.numbered_list slice_weights.lists_weights slice_weights.pred_weight_table
    units_escapes.unescaped units_escapes.payload units_escapes.escaped units_framing.frame units_rules.has_emulation
    units_shown.refusal_behind units_units.has_code units_units.pieces units_units.joined units_units.trimmed
    units_units.placed history_history.run history_history.since history_history.from history_order.put
    history_order.sorted history_order.leaving history_order.staying history_order.waits history_order.gone
    pictures_accessunits.has_slices pictures_accessunits.begins pictures_accessunits.number
    pictures_accessunits.placed pictures_accessunits.all_placed pictures_accessunits.slices_of
    pictures_accessunits.pictures_of pictures_accessunits.first_slice_of pictures_accessunits.is_own_picture
    pictures_accessunits.no_base pictures_accessunits.layer_order pictures_accessunits.orphan_slice
    pictures_accessunits.tid_differs pictures_accessunits.has_changed_vps pictures_carried.carried_vps
    pictures_carried.carried_sps pictures_carried.carried_pps pictures_contexts.format_of pictures_contexts.ctbs
    pictures_contexts.slice_context pictures_counts.nearest pictures_counts.anchor pictures_counts.base_count
    pictures_counts.start_count pictures_counts.count pictures_decoding.decoded_of pictures_decoding.decode_history
    pictures_decoding.decode pictures_decoding.out_history pictures_decoding.out pictures_extract.extract
    pictures_extract.totals pictures_facts.sps_of_unit pictures_facts.pps_of_unit pictures_facts.is_seen
    pictures_facts.seen_pps pictures_facts.seen_sps pictures_facts.own_picture pictures_facts.served_by
    pictures_facts.named_sets pictures_facts.sets_of pictures_facts.context_of pictures_facts.header_of
    pictures_facts.fact pictures_facts.facts pictures_held.held_behind pictures_held.held pictures_held.full_count
    pictures_held.fits_long pictures_held.fits_short pictures_held.long_match pictures_held.long_names
    pictures_held.fits pictures_held.match_of pictures_held.names pictures_held.longs pictures_history.judgement
    pictures_history.judged pictures_history.history pictures_history.facts_of pictures_history.history_of
    pictures_items.vps_behind pictures_items.opening_of pictures_items.item pictures_items.items pictures_items.turns
    pictures_items.stays pictures_layers.layers_at pictures_layers.sets_at pictures_layers.set_at
    pictures_layers.knows pictures_layers.directs pictures_layers.closure pictures_layers.view pictures_layers.keeps
    pictures_lists.places pictures_lists.all_places pictures_lists.list pictures_lists.full_lists
    pictures_lists.segment_tags pictures_lists.lists pictures_look.sequence pictures_look.initialised
    pictures_look.look pictures_look.asked pictures_output.outputs pictures_output.is_output
    pictures_output.sps_reorder pictures_output.reorder pictures_output.is_before pictures_output.distinct
    pictures_output.sequence_before pictures_output.units_ahead pictures_output.is_late pictures_picturerules.no_irap
    pictures_picturerules.decoded_before pictures_picturerules.sps_changed pictures_picturerules.format_differs
    pictures_picturerules.poc_range pictures_picturerules.poc_mismatch pictures_picturerules.irap_refers
    pictures_picturerules.too_many_refs pictures_picturerules.missing_ref pictures_picturerules.missing_inter_layer
    pictures_picturerules.is_of_decoded pictures_picturerules.list_entry pictures_picturerules.no_refs
    pictures_picturerules.collocated pictures_picturerules.vps_mid_cvs pictures_references.start_of
    pictures_references.segments_in pictures_references.term_in pictures_references.tag_of pictures_references.matched
    pictures_references.decoded_in pictures_references.inter_layer pictures_references.is_zero_side
    pictures_references.inter_zeros pictures_references.inter_ones pictures_references.references
    pictures_references.tags pictures_rules.item_cases pictures_rules.set_cases pictures_rules.slice_cases
    pictures_rules.picture_cases pictures_rules.output_cases pictures_rules.cases pictures_rules.least_rule
    pictures_slicefields.coded_lsb pictures_slicefields.max_lsb pictures_slicefields.is_put_out
    pictures_slicefields.long_entry pictures_slicefields.entries pictures_slicefields.active_layers
    pictures_slicefields.num_pic_total_curr pictures_slicefields.active_l0 pictures_slicefields.active_l1
    pictures_slicefields.list_entry_l0 pictures_slicefields.list_entry_l1 pictures_slicerules.missing_pps
    pictures_slicerules.missing_sps pictures_slicerules.slice_syntax pictures_slicerules.cross_layer_bla
    pictures_slicerules.same_option pictures_slicerules.same_list pictures_slicerules.same_short_set
    pictures_slicerules.same_long_term pictures_slicerules.same_long_terms pictures_slicerules.same_references
    pictures_slicerules.same_inter_layer pictures_slicerules.same_picture pictures_slicerules.same_full
    pictures_slicerules.same_opening pictures_slicerules.agrees pictures_slicerules.slice_differs
    pictures_slicerules.address pictures_slicerules.segment_before pictures_slicerules.is_bad_address
    pictures_slicerules.address_order pictures_starts.is_anew pictures_starts.is_sequence_start
    pictures_starts.base_of pictures_starts.in_first_au pictures_starts.starts_layer pictures_starts.is_start
    pictures_starts.is_reset pictures_starts.follows_start pictures_starts.is_skipped pictures_starts.is_decoded
    pictures_starts.sequence_number pictures_starts.sequence_vps pictures_starts.sequence_sps
    pictures_terms.references_of pictures_unitrules.vps_tid pictures_unitrules.no_vps pictures_unitrules.sps_tid
    pictures_verdict.lacking pictures_verdict.objection pictures_verdict.no_picture pictures_verdict.pictures
    pictures_verdict.event pictures_verdict.breaks_none pictures_verdict.is_accepted
examples_hold = record {
  two_views = record { base_set = refl; both_set = refl; third_set = refl; decodes = refl; base_out = refl; both_out = refl; refers = refl; lists = refl; base_extract = refl; both_extract = refl; counts = refl; base_alone = refl; with_stray = refl; no_stray = refl; one_id = refl; own_sets = refl };
  leading = record { skips = refl; decodes = refl; accepted = refl; ends = refl; needs_irap = refl };
  changed_vps = record { accepted = refl; goes_on = refl; forgets = refl; within = refl; repeated = refl; changes_twice = refl; forgets_twice = refl; lacks = refl };
  other_layers = record { accepted = refl; extracts = refl; puts_out = refl; same_out = refl; twice = refl };
  long_term = record { accepted = refl; refers = refl; stays_long = refl };
  modified_list = record { accepted = refl; lists = refl };
  reordered = record { accepted = refl; puts_out = refl; late = refl; refers = refl };
  counts = record { half_above = refl; past_half = refl; anchors = refl; radl = refl; rasl = refl; non_reference = refl };
  held_pictures = record { latest = refl; cycles = refl; dropped = refl; kept = refl; decodes_rasl = refl };
  upper_layers = record { skips = refl; starts_again = refl; forgets = refl; remembers = refl; goes_on = refl; starts_plainly = refl; anchors = refl; takes_count = refl; not_later = refl };
  inter_layer = record { refers = refl; first_list = refl; second_list = refl; accepted = refl; puts_out = refl; both_sides = refl };
  segments = record { accepted = refl; lists = refl; set_between = refl; tiles = refl; no_tiles = refl; same_au = refl; delimited = refl; hides = refl; changes_sps = refl; stays_sps = refl; rule_first = refl; no_picture = refl };
}
