-- What the first part of the extension and the dependency flags say of the layers (F.7.4.3.1.1). A layer has an index, from 0; those
-- that are coded are from index 1 on.
use Rattle.std.specs.Prelude.{ℕ, zero, suc, ◌+◌, List, get_or, map, Option, None}
use Rattle.std.specs.List.{range_with_len}
use Rattle.mv_syntax.specs.Words.{◌otherwise◌}
use Rattle.mv_layers.specs.LayerInfos.{LayerInfoValue, CodedLayers, layer_infos}
use Rattle.mv_vpslayers.specs.declared.dimensions.VpsLayer.{VpsLayer}

-- a layer whose nuh_layer_id isn't coded, and whose view order index is 0
abbrev pub plain_layer : VpsLayer
plain_layer = record { layer_id_in_nuh = None; dimension_id = 0 }

-- layer_id_in_nuh[i]: of layer 0 it is 0, and where it isn't coded it is i
abbrev pub nuh_layer_id : List VpsLayer → ℕ → ℕ
nuh_layer_id layers zero = 0
nuh_layer_id layers (suc k) = (get_or layers k plain_layer).layer_id_in_nuh otherwise (suc k)

-- the view order index of the layer of index i: of layer 0 it is 0
abbrev pub view_order_index : List VpsLayer → ℕ → ℕ
view_order_index layers zero = 0
view_order_index layers (suc k) = (get_or layers k plain_layer).dimension_id

-- what is coded of vps_max_layers_minus1 + 1 layers
abbrev pub coded_layers : ℕ → List VpsLayer → Option (List ℕ) → List (List ℕ) → CodedLayers
coded_layers vps_max_layers_minus1 layers view_id_val direct_dependency_flag = record {
  layer_id_in_nuh = map (nuh_layer_id layers) (range_with_len 0 (vps_max_layers_minus1 + 1));
  view_order_index = map (view_order_index layers) (range_with_len 0 (vps_max_layers_minus1 + 1));
  view_id_val = view_id_val;
  direct_dependency_flag = direct_dependency_flag;
}

-- the layers that it describes
unfoldable pub layers_described : ℕ → List VpsLayer → Option (List ℕ) → List (List ℕ) → List LayerInfoValue
layers_described vps_max_layers_minus1 layers view_id_val direct_dependency_flag =
    layer_infos (coded_layers vps_max_layers_minus1 layers view_id_val direct_dependency_flag)
