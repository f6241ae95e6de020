-- What is derived from a video parameter set and its extension (F.7.4.3.1.1): its layers and its output layer sets.
use Rattle.std.specs.Prelude.{ℕ, zero, suc, List, [], get_or, map, Option, Some, None, option_map}
use Rattle.std.specs.List.{enumerate_from}
use Rattle.mv_syntax.specs.Words.{last_coded}
use Rattle.mv_layers.specs.LayerInfos.{LayerInfoValue}
use Rattle.mv_layers.specs.OutputLayers.{OlsLayers}
use Rattle.mv_layers.specs.Derived.{OlsValue, DerivedValue, ols_value}
use Rattle.mv_vpsext.specs.Args.{VpsArgsValue}
use Rattle.mv_vpssets.specs.Sets.{all_sets}
use Rattle.mv_vpssets.specs.DpbSizes.{DpbNumbersValue, DpbSubLayerValue, DpbSetValue}
use Rattle.mv_vpsext.specs.VpsExt.{VpsExtValue, ext_layers}

-- max_vps_num_reorder_pics of a sub-layer, if it is coded
abbrev pub coded_reorder : DpbSubLayerValue → Option ℕ
coded_reorder sub_layer = option_map (λ (n : DpbNumbersValue). n.max_vps_num_reorder_pics) sub_layer.numbers

-- max_vps_num_reorder_pics of the highest sub-layer: where it isn't coded, that of the sub-layer below
abbrev pub reorder_pics : DpbSetValue → ℕ
reorder_pics set = last_coded (map coded_reorder set.sub_layers) 0

abbrev pub no_dpb : DpbSetValue
no_dpb = record { sub_layer_flag_info_present_flag = 0; sub_layers = [] }

-- the reorder number of output layer set i, the sizes being those of the sets from 1 on
abbrev pub reorder : List DpbSetValue → ℕ → Option ℕ
reorder dpb_size zero = None
reorder dpb_size (suc k) = Some (reorder_pics (get_or dpb_size k no_dpb))

-- an output layer set by its number
abbrev pub numbered_ols : List DpbSetValue → ℕ × OlsLayers → OlsValue
numbered_ols dpb_size numbered = ols_value numbered.1 (reorder dpb_size numbered.0)

-- output layer sets, which are those from 0 on
unfoldable pub all_ols : List OlsLayers → List DpbSetValue → List OlsValue
all_ols sets dpb_size = map (numbered_ols dpb_size) (enumerate_from 0 sets)

-- the layers in rising order, and the output layer sets
abbrev pub derived : VpsArgsValue → VpsExtValue → DerivedValue
derived args ext =
    let infos : List LayerInfoValue = ext_layers args ext.dimensions ext.dependencies in
    record { layers = infos; sets = all_ols (all_sets infos args.layer_id_included_flag ext.output_sets) ext.dpb_size }
