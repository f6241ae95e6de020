-- What is derived of each layer of a video parameter set (F.7.4.3.1.1): its view, and the layers that it refers to.
use Rattle.std.specs.Prelude.{◌≡◌, ℕ, List, [], get_or, length, map, Option, Some, None, option_map, nat_eq, Bool}
use Rattle.std.specs.List.{filter, find, list_any, position, range_with_len}
use Rattle.mv_syntax.specs.Words.{◌otherwise◌}
use Rattle.mv_layers.specs.References.{direct_indexes, closure_indexes}

-- a layer: its nuh_layer_id, view order index and view identifier, its direct reference layers (IdDirectRefLayer), and itself
-- with its direct and indirect reference layers (IdRefLayer), all by nuh_layer_id, rising
pub record LayerInfoValue : Type 0 where
  pub layer : ℕ
  pub view_order : ℕ
  pub view_id : ℕ
  pub directs : List ℕ
  pub closure : List ℕ

-- the view identifier of a view order index: view_id_val there, or where none is coded the index itself (ViewId)
abbrev pub view_identifier : Option (List ℕ) → ℕ → ℕ
view_identifier None view_order = view_order
view_identifier (Some view_id_val) view_order = get_or view_id_val view_order 0

-- what a video parameter set codes of its layers: the nuh_layer_id and the view order index of each, by its index from 0 on,
-- view_id_val where it is coded, and direct_dependency_flag of the layers from index 1 on
pub record CodedLayers : Type 0 where
  pub layer_id_in_nuh : List ℕ
  pub view_order_index : List ℕ
  pub view_id_val : Option (List ℕ)
  pub direct_dependency_flag : List (List ℕ)

-- the nuh_layer_id of the layer of index i
abbrev pub nuh_layer_id : CodedLayers → ℕ → ℕ
nuh_layer_id coded i = get_or coded.layer_id_in_nuh i 0

-- the layer of index i
abbrev pub layer_info : CodedLayers → ℕ → LayerInfoValue
layer_info coded i = record {
  layer = nuh_layer_id coded i;
  view_order = get_or coded.view_order_index i 0;
  view_id = view_identifier coded.view_id_val (get_or coded.view_order_index i 0);
  directs = map (nuh_layer_id coded) (direct_indexes coded.direct_dependency_flag i);
  closure = map (nuh_layer_id coded) (closure_indexes coded.direct_dependency_flag i);
}

-- all layers, by their indexes
unfoldable pub layer_infos : CodedLayers → List LayerInfoValue
layer_infos coded = map (layer_info coded) (range_with_len 0 (length coded.layer_id_in_nuh))

-- a layer has this nuh_layer_id
abbrev pub is_layer : ℕ → LayerInfoValue → Bool
is_layer id info = nat_eq info.layer id

-- the video parameter set has a layer of this nuh_layer_id
abbrev pub is_known : List LayerInfoValue → ℕ → Bool
is_known infos id = list_any (is_layer id) infos

-- the number of layers that have no direct reference layer
abbrev pub independent_layers : List LayerInfoValue → ℕ
independent_layers infos = length (filter (λ (info : LayerInfoValue). nat_eq (length info.directs) 0) infos)

-- of a layer by its nuh_layer_id, its direct reference layers, and it with all its reference layers; a layer that the video
-- parameter set hasn't has none
abbrev pub directs_of : List LayerInfoValue → ℕ → List ℕ
directs_of infos id = option_map (λ (info : LayerInfoValue). info.directs) (find (is_layer id) infos) otherwise []

abbrev pub closure_of : List LayerInfoValue → ℕ → List ℕ
closure_of infos id = option_map (λ (info : LayerInfoValue). info.closure) (find (is_layer id) infos) otherwise []

-- the index of a layer, if the video parameter set has it
abbrev pub layer_index : List LayerInfoValue → ℕ → Option ℕ
layer_index infos id = position (is_layer id) infos
