-- What the extension of a video parameter set takes from the fields before it (F.7.3.2.1).
use Rattle.std.specs.Prelude.{ℕ, ◌+◌, ◌≤◌, List}
use Rattle.mv_syntax.specs.Table.{Table, Valid, named}
use Rattle.mv_syntax.specs.Loops.{items, each, us}

-- the numbers of layers, sub-layers and layer sets, the greatest nuh_layer_id in a layer set, and the flags of the layer sets
-- from 1 on
pub record VpsArgsValue : Type 0 where
  pub vps_max_layers_minus1 : ℕ
  pub vps_max_sub_layers_minus1 : ℕ
  pub vps_max_layer_id : ℕ
  pub vps_num_layer_sets_minus1 : ℕ
  pub layer_id_included_flag : List (List ℕ)

-- one layer set: for j = 0 to vps_max_layer_id, whether it has the layer with nuh_layer_id j
unfoldable pub layer_set : ℕ → Table (List ℕ)
layer_set vps_max_layer_id = named "layer_id_included_flag" (us 0 (vps_max_layer_id + 1) 1)

-- for i = 1 to vps_num_layer_sets_minus1
unfoldable pub layer_sets : ℕ → ℕ → Table (List (List ℕ))
layer_sets vps_num_layer_sets_minus1 vps_max_layer_id = items 1 vps_num_layer_sets_minus1 (each (layer_set vps_max_layer_id))

-- the numbers are within their limits (this project's profile), and the layer sets have just the flags that these give
pub record AreVpsArgs (args : VpsArgsValue) : Type 0 where
  pub layers : args.vps_max_layers_minus1 ≤ 62
  pub sub_layers : args.vps_max_sub_layers_minus1 ≤ 6
  pub layer_ids : args.vps_max_layer_id ≤ 62
  pub sets : args.vps_num_layer_sets_minus1 ≤ 1023
  pub each_set : Valid (layer_sets args.vps_num_layer_sets_minus1 args.vps_max_layer_id) args.layer_id_included_flag
