-- Which rules the table of video parameter sets tries.
use Rattle.std.proofs.Common.{◌≡◌, ℕ, Bool, true, false, List, refl, cond}
use Rattle.std.specs.Prelude.{nat_eq}
use Rattle.mv_rules.specs.Rule.{rule_number}
use Rattle.mv_rules.specs.declared.rule.Rule.{Rule}
use Rattle.mv_syntax.specs.Loops.{each, items, items_after}
use Rattle.mv_pictures.specs.UnitRules.{vps_rules}
use Rattle.mv_common.specs.declared.hrd_common.HrdFlags.{HrdFlags}
use Rattle.mv_layers.specs.LayerInfos.{LayerInfoValue}
use Rattle.mv_layers.specs.OutputLayers.{OlsLayers}
use Rattle.mv_vps.specs.Base.{aligned_base, base}
use Rattle.mv_vps.specs.LayerSets.{all_layer_sets}
use Rattle.mv_vps.specs.Opening.{opening}
use Rattle.mv_vps.specs.Timing.{VpsHrdValue, next_hrd, timing, vps_hrd, vps_hrds}
use Rattle.mv_vps.specs.Vps.{vps_fields}
use Rattle.mv_vpsext.specs.Args.{VpsArgsValue, layer_set, layer_sets}
use Rattle.mv_vpsext.specs.ExtEnding.{ext_ending}
use Rattle.mv_vpsext.specs.Formats.{chroma_and_depth, conformance_window, formats, rep_format, rep_format_idx, rep_format_idxs, rep_formats}
use Rattle.mv_vpsext.specs.Pictures.{pictures, poc_lsb_not_present, poc_lsbs_not_present}
use Rattle.mv_vpsext.specs.Profiles.{profiles, vps_profile, vps_profiles}
use Rattle.mv_vpsext.specs.VpsExt.{dpb_sizes, vps_extension}
use Rattle.mv_vpslayers.specs.declared.dimensions.VpsLayer.{VpsLayer}
use Rattle.mv_vpslayers.specs.Dependencies.{VpsDependenciesValue, added_layer_sets, all_sub_layers_max, dependencies, dependency_flags, layer_dependencies, layer_max_tids, max_tid, max_tids}
use Rattle.mv_vpslayers.specs.DependencyTypes.{dependency_type, dependency_types, layer_dependency_types, types}
use Rattle.mv_vpslayers.specs.Dimensions.{VpsDimensionsValue, dimensions, mask_flag, mask_flags, mask_rule, view_id_vals, vps_layer, vps_layers}
use Rattle.mv_vpssets.specs.DpbSizes.{DpbLayers, buffering, bufferings, dpb_numbers, dpb_of_set, dpb_set, dpb_size, dpb_sub_layer, dpb_sub_layers}
use Rattle.mv_vpssets.specs.OutputSets.{output_layer_set, output_layer_sets, output_sets, profile_tier_level_idx, profile_tier_level_idxs, set_profiles}
use Rattle.mv_walk_sets.specs.Cuts.{is_of}
use Rattle.mv_walk_sets.proofs.Trying.{Tries}

abbrev ok : ℕ → Bool
ok = is_of (vps_rules)

tries_opening : Tries ok opening
unfolding opening
tries_opening = search depth 40 fits 4000

tries_vps_hrd : (subs : ℕ) (before : HrdFlags) (i : ℕ) → Tries ok (vps_hrd subs before i)
unfolding vps_hrd
tries_vps_hrd subs before i = search depth 40 fits 4000

tries_next_hrd : (subs : ℕ) (i : ℕ) (earlier : List VpsHrdValue) → Tries ok (next_hrd subs i earlier)
unfolding next_hrd
tries_next_hrd subs i earlier = search (tries_vps_hrd) depth 40 fits 4000

tries_vps_hrds : (subs : ℕ) (n : ℕ) → Tries ok (vps_hrds subs n)
unfolding vps_hrds items_after
tries_vps_hrds subs n = search (tries_next_hrd) depth 40 fits 4000

tries_timing : (subs : ℕ) → Tries ok (timing subs)
unfolding timing
tries_timing subs = search (tries_vps_hrds) depth 40 fits 4000

tries_layer_set : (most : ℕ) → Tries ok (layer_set most)
unfolding layer_set items each
tries_layer_set most = search depth 40 fits 4000

tries_layer_sets : (n : ℕ) (most : ℕ) → Tries ok (layer_sets n most)
unfolding layer_sets items each
tries_layer_sets n most = search (tries_layer_set) depth 40 fits 4000

tries_all_layer_sets : Tries ok all_layer_sets
unfolding all_layer_sets
tries_all_layer_sets = search (tries_layer_sets) depth 40 fits 4000

tries_base : Tries ok base
unfolding base
tries_base = search (tries_opening, tries_all_layer_sets, tries_timing) depth 40 fits 4000

tries_aligned_base : Tries ok aligned_base
unfolding aligned_base
tries_aligned_base = search (tries_base) depth 40 fits 4000

mask_tried : (i : ℕ) → ok (rule_number (mask_rule i)) ≡ true
mask_tried i = go (nat_eq i 0) (nat_eq i 1) (nat_eq i 2) (nat_eq i 3)
  where
    go : (a b c d : Bool) → ok (rule_number (cond a Rule.Depth (cond b Rule.NoViewDimension (cond c Rule.Spatial (cond d Rule.Auxiliary Rule.ReservedDimension))))) ≡ true
    go true b c d = refl
    go false true c d = refl
    go false false true d = refl
    go false false false true = refl
    go false false false false = refl

tries_mask_flag : (n : ℕ) (i : ℕ) → Tries ok (mask_flag n i)
unfolding mask_flag
tries_mask_flag n i = search (mask_tried) depth 40 fits 4000

tries_mask_flags : (n : ℕ) → Tries ok (mask_flags n)
unfolding mask_flags items
tries_mask_flags n = search (tries_mask_flag) depth 40 fits 4000

tries_vps_layer : (present : Bool) (width : ℕ) (i : ℕ) (before : List VpsLayer) → Tries ok (vps_layer present width i before)
unfolding vps_layer
tries_vps_layer present width i before = search depth 40 fits 4000

tries_vps_layers : (n : ℕ) (present : Bool) (width : ℕ) → Tries ok (vps_layers n present width)
unfolding vps_layers items_after
tries_vps_layers n present width = search (tries_vps_layer) depth 40 fits 4000

tries_view_id_vals : (n : ℕ) (width : ℕ) → Tries ok (view_id_vals n width)
unfolding view_id_vals items each
tries_view_id_vals n width = search depth 40 fits 4000

tries_dimensions : (n : ℕ) (subs : ℕ) → Tries ok (dimensions n subs)
unfolding dimensions
tries_dimensions n subs = search (tries_mask_flags, tries_vps_layers, tries_view_id_vals) depth 40 fits 4000

tries_layer_dependencies : (i : ℕ) → Tries ok (layer_dependencies i)
unfolding layer_dependencies items each
tries_layer_dependencies i = search depth 40 fits 4000

tries_dependency_flags : (n : ℕ) → Tries ok (dependency_flags n)
unfolding dependency_flags items
tries_dependency_flags n = search (tries_layer_dependencies) depth 40 fits 4000

tries_added_layer_sets : (infos : List LayerInfoValue) (sets : List (List ℕ)) → Tries ok (added_layer_sets infos sets)
unfolding added_layer_sets
tries_added_layer_sets infos sets = search depth 40 fits 4000

tries_all_sub_layers_max : (n : ℕ) → Tries ok (all_sub_layers_max n)
unfolding all_sub_layers_max items each
tries_all_sub_layers_max n = search depth 40 fits 4000

tries_max_tid : (flags : List (List ℕ)) (i : ℕ) (j : ℕ) → Tries ok (max_tid flags i j)
unfolding max_tid
tries_max_tid flags i j = search depth 40 fits 4000

tries_layer_max_tids : (n : ℕ) (flags : List (List ℕ)) (i : ℕ) → Tries ok (layer_max_tids n flags i)
unfolding layer_max_tids items
tries_layer_max_tids n flags i = search (tries_max_tid) depth 40 fits 4000

tries_max_tids : (n : ℕ) (flags : List (List ℕ)) → Tries ok (max_tids n flags)
unfolding max_tids items
tries_max_tids n flags = search (tries_layer_max_tids) depth 40 fits 4000

tries_dependencies : (n : ℕ) (scalability : VpsDimensionsValue) (sets : List (List ℕ)) → Tries ok (dependencies n scalability sets)
unfolding dependencies
tries_dependencies n scalability sets = search (tries_dependency_flags, tries_added_layer_sets, tries_all_sub_layers_max, tries_max_tids) depth 40 fits 4000

tries_vps_profile : (subs : ℕ) (i : ℕ) → Tries ok (vps_profile subs i)
unfolding vps_profile
tries_vps_profile subs i = search depth 40 fits 4000

tries_vps_profiles : (subs : ℕ) (n : ℕ) → Tries ok (vps_profiles subs n)
unfolding vps_profiles items
tries_vps_profiles subs n = search (tries_vps_profile) depth 40 fits 4000

tries_profiles : (subs : ℕ) → Tries ok (profiles subs)
unfolding profiles
tries_profiles subs = search (tries_vps_profiles) depth 40 fits 4000

tries_profile_tier_level_idx : (n : ℕ) (set : OlsLayers) (j : ℕ) → Tries ok (profile_tier_level_idx n set j)
unfolding profile_tier_level_idx
tries_profile_tier_level_idx n set j = search depth 40 fits 4000

tries_profile_tier_level_idxs : (n : ℕ) (set : OlsLayers) → Tries ok (profile_tier_level_idxs n set)
unfolding profile_tier_level_idxs items
tries_profile_tier_level_idxs n set = search (tries_profile_tier_level_idx) depth 40 fits 4000

tries_set_profiles : (infos : List LayerInfoValue) (n : ℕ) (set : OlsLayers) → Tries ok (set_profiles infos n set)
unfolding set_profiles
tries_set_profiles infos n set = search (tries_profile_tier_level_idxs) depth 40 fits 4000

tries_output_layer_set : (infos : List LayerInfoValue) (sets : List (List ℕ)) (n : ℕ) (idc : ℕ) (i : ℕ) → Tries ok (output_layer_set infos sets n idc i)
unfolding output_layer_set items each
tries_output_layer_set infos sets n idc i = search (tries_set_profiles) depth 40 fits 4000

tries_output_layer_sets : (infos : List LayerInfoValue) (sets : List (List ℕ)) (n : ℕ) (more : ℕ) (idc : ℕ) → Tries ok (output_layer_sets infos sets n more idc)
unfolding output_layer_sets items
tries_output_layer_sets infos sets n more idc = search (tries_output_layer_set) depth 40 fits 4000

tries_output_sets : (infos : List LayerInfoValue) (sets : List (List ℕ)) (n : ℕ) → Tries ok (output_sets infos sets n)
unfolding output_sets
tries_output_sets infos sets n = search (tries_output_layer_sets) depth 40 fits 4000

tries_chroma_and_depth : Tries ok chroma_and_depth
unfolding chroma_and_depth
tries_chroma_and_depth = search depth 40 fits 4000

tries_conformance_window : Tries ok conformance_window
unfolding conformance_window
tries_conformance_window = search depth 40 fits 4000

tries_rep_format : (i : ℕ) → Tries ok (rep_format i)
unfolding rep_format
tries_rep_format i = search (tries_chroma_and_depth, tries_conformance_window) depth 40 fits 4000

tries_rep_formats : (n : ℕ) → Tries ok (rep_formats n)
unfolding rep_formats items
tries_rep_formats n = search (tries_rep_format) depth 40 fits 4000

tries_rep_format_idx : (n : ℕ) (i : ℕ) → Tries ok (rep_format_idx n i)
unfolding rep_format_idx
tries_rep_format_idx n i = search depth 40 fits 4000

tries_rep_format_idxs : (n : ℕ) (m : ℕ) → Tries ok (rep_format_idxs n m)
unfolding rep_format_idxs items
tries_rep_format_idxs n m = search (tries_rep_format_idx) depth 40 fits 4000

tries_formats : (n : ℕ) → Tries ok (formats n)
unfolding formats
tries_formats n = search (tries_rep_formats, tries_rep_format_idxs) depth 40 fits 4000

tries_poc_lsb_not_present : (flags : List (List ℕ)) (i : ℕ) → Tries ok (poc_lsb_not_present flags i)
unfolding poc_lsb_not_present
tries_poc_lsb_not_present flags i = search depth 40 fits 4000

tries_poc_lsbs_not_present : (n : ℕ) (flags : List (List ℕ)) → Tries ok (poc_lsbs_not_present n flags)
unfolding poc_lsbs_not_present items
tries_poc_lsbs_not_present n flags = search (tries_poc_lsb_not_present) depth 40 fits 4000

tries_pictures : (n : ℕ) (flags : List (List ℕ)) → Tries ok (pictures n flags)
unfolding pictures
tries_pictures n flags = search (tries_poc_lsbs_not_present) depth 40 fits 4000

tries_buffering : (necessary : List Bool) (k : ℕ) → Tries ok (buffering necessary k)
unfolding buffering
tries_buffering necessary k = search depth 40 fits 4000

tries_bufferings : (necessary : List Bool) → Tries ok (bufferings necessary)
unfolding bufferings items
tries_bufferings necessary = search (tries_buffering) depth 40 fits 4000

tries_dpb_numbers : (necessary : List Bool) → Tries ok (dpb_numbers necessary)
unfolding dpb_numbers
tries_dpb_numbers necessary = search (tries_bufferings) depth 40 fits 4000

tries_dpb_sub_layer : (necessary : List Bool) (flag : ℕ) (j : ℕ) → Tries ok (dpb_sub_layer necessary flag j)
unfolding dpb_sub_layer
tries_dpb_sub_layer necessary flag j = search (tries_dpb_numbers) depth 40 fits 4000

tries_dpb_sub_layers : (set : DpbLayers) (flag : ℕ) → Tries ok (dpb_sub_layers set flag)
unfolding dpb_sub_layers items
tries_dpb_sub_layers set flag = search (tries_dpb_sub_layer) depth 40 fits 4000

tries_dpb_set : (set : DpbLayers) → Tries ok (dpb_set set)
unfolding dpb_set
tries_dpb_set set = search (tries_dpb_sub_layers) depth 40 fits 4000

tries_dpb_of_set : (sets : List DpbLayers) (i : ℕ) → Tries ok (dpb_of_set sets i)
unfolding dpb_of_set
tries_dpb_of_set sets i = search (tries_dpb_set) depth 40 fits 4000

tries_dpb_size : (sets : List DpbLayers) → Tries ok (dpb_size sets)
unfolding dpb_size items
tries_dpb_size sets = search (tries_dpb_of_set) depth 40 fits 4000

tries_dpb_sizes : (args : VpsArgsValue) (infos : List LayerInfoValue) (references : VpsDependenciesValue) (sets : List OlsLayers) → Tries ok (dpb_sizes args infos references sets)
unfolding dpb_sizes
tries_dpb_sizes args infos references sets = search (tries_dpb_size) depth 40 fits 4000

tries_dependency_type : (width : ℕ) (flags : List (List ℕ)) (i : ℕ) (j : ℕ) → Tries ok (dependency_type width flags i j)
unfolding dependency_type
tries_dependency_type width flags i j = search depth 40 fits 4000

tries_layer_dependency_types : (width : ℕ) (flags : List (List ℕ)) (i : ℕ) → Tries ok (layer_dependency_types width flags i)
unfolding layer_dependency_types items
tries_layer_dependency_types width flags i = search (tries_dependency_type) depth 40 fits 4000

tries_dependency_types : (n : ℕ) (width : ℕ) (flags : List (List ℕ)) → Tries ok (dependency_types n width flags)
unfolding dependency_types items
tries_dependency_types n width flags = search (tries_layer_dependency_types) depth 40 fits 4000

tries_types : (n : ℕ) (flags : List (List ℕ)) → Tries ok (types n flags)
unfolding types
tries_types n flags = search (tries_dependency_types) depth 40 fits 4000

tries_ext_ending : Tries ok ext_ending
unfolding ext_ending items each
tries_ext_ending = search depth 40 fits 4000

tries_vps_extension : (args : VpsArgsValue) → Tries ok (vps_extension args)
unfolding vps_extension
tries_vps_extension args = search (tries_dimensions, tries_dependencies, tries_profiles, tries_output_sets, tries_formats, tries_pictures, tries_dpb_sizes, tries_types, tries_ext_ending) depth 40 fits 4000

pub tries_vps_fields : Tries ok vps_fields
unfolding vps_fields
tries_vps_fields = search (tries_aligned_base, tries_vps_extension) depth 40 fits 4000
