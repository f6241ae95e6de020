-- The bounds that the arguments and the parts of an extension give.
use Rattle.std.proofs.Common.{◌≡◌, ℕ, zero, suc, ◌+◌, ◌^◌, ◌<◌, ◌≤◌, ltb, eqb, not, Bool, true, false, List, [], get_or, length, Option, Some, None, Ok, refl, sym, subst, arith}
use Rattle.std.specs.List.{filter, range_with_len}
use Rattle.std.proofs.lemmas.List.{get_or_past}
use Rattle.std.proofs.lemmas.List.Filters.{length-filter_both}
use Rattle.std.proofs.lemmas.List.FromFn.{length-range_with_len}
use Rattle.std.proofs.lemmas.Bool.{ltb-false, ltb-true, eqb-false}
use Rattle.mv_vpssets.proofs.Bounds.{at_each_place}
use Rattle.mv_syntax.specs.Table.{u, when, Valid}
use Rattle.mv_syntax.specs.inner.Reader.{read}
use Rattle.mv_syntax.specs.Words.{◌!◌∶◌, ◌otherwise◌, is}
use Rattle.mv_syntax.specs.Loops.{each}
use Rattle.mv_syntax.proofs.TableLaws.{reads-read}
use Rattle.mv_syntax.proofs.LoopLaws.{items-length, items-valid}
use Rattle.mv_rules.specs.declared.rule.Rule.TheVariants.{VpsLimit}
use Rattle.mv_layers.specs.LayerSets.{has_layer, layers_in, set_flags}
use Rattle.mv_layers.specs.OutputLayers.{layer_set_of, ols_layers}
use Rattle.mv_vpslayers.specs.Dimensions.{VpsDimensionsValue}
use Rattle.mv_vpsext.specs.Args.{VpsArgsValue, AreVpsArgs, layer_set, layer_sets}
use Rattle.mv_vpslayers.specs.Dependencies.{VpsDependenciesValue, all_sub_layers_max, dependencies}
use Rattle.mv_vpsext.specs.Profiles.{VpsProfilesValue, profiles}

-- there are at most 1023 layer sets from 1 on, with at most 63 flags each
pub sets_within : (args : VpsArgsValue) → AreVpsArgs args → length args.layer_id_included_flag ≤ 1023
unfolding layer_sets
sets_within args h =
    let all : length args.layer_id_included_flag ≡ args.vps_num_layer_sets_minus1 =
    items-length (each (layer_set args.vps_max_layer_id)) 1 args.vps_num_layer_sets_minus1 args.layer_id_included_flag h.each_set in
    omega (arith, h.sets)

set_within : (m : ℕ) (flags : List ℕ) → m ≤ 62 → Valid (layer_set m) flags → length flags ≤ 63
unfolding layer_set
set_within m flags low h = let all : length flags ≡ m + 1 = items-length (each (u 1)) 0 (m + 1) flags h in omega arith

pub flags_within : (args : VpsArgsValue) → AreVpsArgs args → (k : ℕ) → length (get_or args.layer_id_included_flag k []) ≤ 63
unfolding layer_sets each
flags_within args h k =
    at_each_place (λ flags. length flags ≤ 63) args.layer_id_included_flag [] k
    (λ within. set_within args.vps_max_layer_id _ h.layer_ids
    (items-valid (each (layer_set args.vps_max_layer_id)) 1 args.vps_num_layer_sets_minus1 args.layer_id_included_flag k (1 + k) [] h.each_set within refl))
    (omega arith)

-- each layer has at most 7 sub-layers
not_seven : (v : ℕ) → v < 2 ^ 3 → eqb v 7 ≡ false → v ≤ 6
not_seven v h e = let other : v ≡ 7 → ⊥ = eqb-false v 7 e in omega arith

coded_within : (n : ℕ) (c : Bool) (coded : Option (List ℕ)) → Valid (when c (all_sub_layers_max n)) coded → (k : ℕ) → get_or (coded otherwise []) k 0 ≤ 6
unfolding all_sub_layers_max each
coded_within n c None h k = omega arith
coded_within n c (Some coded) h k =
    at_each_place (λ v. v ≤ 6) coded 0 k
    (λ within. let here = items-valid (each (u 3 ! VpsLimit ∶ is 7)) 0 (n + 1) coded k (0 + k) 0 h.1 within refl in not_seven (get_or coded k 0) here.0 here.1)
    (omega arith)

pub sub_layers_of_valid : (m : ℕ) (first : VpsDimensionsValue) (sets : List (List ℕ)) (v : VpsDependenciesValue) → Valid (dependencies m first sets) v
    → (k : ℕ) → get_or (v.sub_layers_vps_max_minus1 otherwise []) k 0 ≤ 6
unfolding dependencies
sub_layers_of_valid m first sets v h k = coded_within m _ v.sub_layers_vps_max_minus1 h.0.1.1.1.0 k

pub sub_layers_of_read : (m : ℕ) (first : VpsDimensionsValue) (sets : List (List ℕ)) (b : List Bool) (v : VpsDependenciesValue) (rest : List Bool)
    → read (dependencies m first sets) b ≡ Ok (v, rest) → (k : ℕ) → get_or (v.sub_layers_vps_max_minus1 otherwise []) k 0 ≤ 6
sub_layers_of_read m first sets b v rest e k = sub_layers_of_valid m first sets v (reads-read (dependencies m first sets) b v rest e).0 k

-- there are at most 64 profile_tier_level
pub profiles_of_valid : (s : ℕ) (v : VpsProfilesValue) → Valid (profiles s) v → v.vps_num_profile_tier_level_minus1 ≤ 63
unfolding profiles
profiles_of_valid s v h = ltb-false 63 v.vps_num_profile_tier_level_minus1 h.0.0.1

pub profiles_of_read : (s : ℕ) (b : List Bool) (v : VpsProfilesValue) (rest : List Bool) → read (profiles s) b ≡ Ok (v, rest) → v.vps_num_profile_tier_level_minus1 ≤ 63
profiles_of_read s b v rest e = profiles_of_valid s v (reads-read (profiles s) b v rest e).0
