-- What an extension takes from the fields before it.
use Rattle.std.proofs.Common.{◌≡◌, ℕ, ◌+◌, ◌-◌, ◌<◌, ◌≤◌, Bool, false, List, Ok, arith, nat_eq, nat_lt}
use Rattle.mv_syntax.specs.Table.{Valid}
use Rattle.mv_syntax.specs.inner.Reader.{read}
use Rattle.mv_syntax.proofs.TableLaws.{reads-of}
use Rattle.mv_vpsext.specs.Args.{AreVpsArgs}
use Rattle.mv_vps.specs.Opening.{VpsOpeningValue, opening}
use Rattle.mv_vps.specs.LayerSets.{VpsLayerSetsValue, all_layer_sets}
use Rattle.mv_vps.specs.Base.{VpsBaseValue, base, aligned_base, args_of}

-- a field of n bits that isn't its greatest value
pub below_all : (v most : ℕ) → v < most + 1 → nat_eq v most ≡ false → v ≤ most - 1
below_all v most h other = grind arith

pub opening_few : (v : VpsOpeningValue) → Valid opening v → (v.vps_max_layers_minus1 ≤ 62) × (v.vps_max_sub_layers_minus1 ≤ 6)
unfolding opening
opening_few v h = (
  below_all v.vps_max_layers_minus1 63 h.0.1.1.1.0.0 h.0.1.1.1.0.1,
  below_all v.vps_max_sub_layers_minus1 7 h.0.1.1.1.1.0.0 h.0.1.1.1.1.0.1,
)

pub sets_few : (v : VpsLayerSetsValue) → Valid all_layer_sets v → (v.vps_max_layer_id ≤ 62) × (v.vps_num_layer_sets_minus1 ≤ 1023)
unfolding all_layer_sets
sets_few v h = (below_all v.vps_max_layer_id 63 h.0.0.0 h.0.0.1, within v.vps_num_layer_sets_minus1 h.0.1.0.1)
  where
    within : (n : ℕ) → nat_lt 1023 n ≡ false → n ≤ 1023
    within n e = grind arith

-- what an extension takes from valid fields is within its limits
pub args_valid : (v : VpsBaseValue) → Valid aligned_base v → AreVpsArgs (args_of v)
unfolding aligned_base base all_layer_sets
args_valid v h =
    let first : (v.opening.vps_max_layers_minus1 ≤ 62) × (v.opening.vps_max_sub_layers_minus1 ≤ 6) = opening_few v.opening h.0.0 in
    let sets : (v.layer_sets.vps_max_layer_id ≤ 62) × (v.layer_sets.vps_num_layer_sets_minus1 ≤ 1023) = sets_few v.layer_sets h.0.1.1.0 in
    record { layers = first.0; sub_layers = first.1; layer_ids = sets.0; sets = sets.1; each_set = h.0.1.1.0.0.1.1 }

pub args_read : (b : List Bool) (v : VpsBaseValue) (rest : List Bool) → read aligned_base b ≡ Ok (v, rest) → AreVpsArgs (args_of v)
args_read b v rest e = args_valid v (reads-of aligned_base b v rest e).valid

pub few_valid : (v : VpsBaseValue) → Valid aligned_base v → v.opening.vps_max_sub_layers_minus1 ≤ 6
unfolding aligned_base base
few_valid v h = (opening_few v.opening h.0.0).1

pub ruleset base_steps = (args_read)
