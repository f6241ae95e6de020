-- The output layer sets of a video parameter set (F.7.4.3.1.1), from the values of its extension.
use Rattle.std.specs.Prelude.{ℕ, max, List, [], ◌∷◌, map, Option, option_map}
use Rattle.std.specs.List.{fold, enumerate_from}
use Rattle.mv_syntax.specs.Words.{or_zero, ◌otherwise◌}
use Rattle.mv_layers.specs.LayerInfos.{LayerInfoValue, layer_index}
use Rattle.mv_layers.specs.OutputLayers.{OlsLayers, ols_layers, ols_outputs, is_among, with_necessary}
use Rattle.mv_layers.specs.PerLayer.{sub_layers_at}
use Rattle.mv_vpssets.specs.OutputSets.{OutputLayerSetValue, VpsOutputSetsValue}
use Rattle.mv_vpssets.specs.DpbSizes.{DpbLayers}

-- output layer set i, from 1 on, as it is coded; the layer sets are those from 1 on
abbrev pub coded_set : List LayerInfoValue → List (List ℕ) → ℕ → ℕ → OutputLayerSetValue → OlsLayers
coded_set infos sets idc i coded =
    let layers : List ℕ = ols_layers sets i coded.layer_set_idx_for_ols_minus1 in
    with_necessary infos layers (ols_outputs layers coded.output_layer_flag idc)

-- those from 1 on
unfoldable pub coded_sets : List LayerInfoValue → List (List ℕ) → ℕ → List OutputLayerSetValue → List OlsLayers
coded_sets infos sets idc coded = map (λ numbered. coded_set infos sets idc numbered.0 numbered.1) (enumerate_from 1 coded)

-- output layer set 0 has layer 0 alone, as its output
abbrev pub base_set : List LayerInfoValue → OlsLayers
base_set infos = with_necessary infos (0 ∷ []) (0 ∷ [])

-- those from 0 on
abbrev pub all_sets : List LayerInfoValue → List (List ℕ) → VpsOutputSetsValue → List OlsLayers
all_sets infos sets coded = base_set infos ∷ coded_sets infos sets (or_zero coded.default_output_layer_idc) coded.output_layer_sets

-- sub_layers_vps_max_minus1 of a layer by its nuh_layer_id
abbrev pub sub_layers_of : List LayerInfoValue → ℕ → Option (List ℕ) → ℕ → ℕ
sub_layers_of infos vps_max_sub_layers_minus1 coded id =
    option_map (sub_layers_at vps_max_sub_layers_minus1 coded) (layer_index infos id) otherwise 0

-- what dpb_size takes of an output layer set
abbrev pub dpb_layers : List LayerInfoValue → ℕ → Option (List ℕ) → OlsLayers → DpbLayers
dpb_layers infos vps_max_sub_layers_minus1 coded set = record {
  necessary = map (is_among set.necessary) set.layers;
  greatest = fold (λ so_far id. max so_far (sub_layers_of infos vps_max_sub_layers_minus1 coded id)) 0 set.layers;
}

-- the same of each of some output layer sets
unfoldable pub all_dpb_layers : List LayerInfoValue → ℕ → Option (List ℕ) → List OlsLayers → List DpbLayers
all_dpb_layers infos vps_max_sub_layers_minus1 coded all = map (dpb_layers infos vps_max_sub_layers_minus1 coded) all
