-- What a video parameter set says of a layer.
use Rattle.std.specs.Prelude.{ℕ, Bool, List, is_some, option_map, nat_eq, slice_get}
use Rattle.std.specs.List.{find}
use Rattle.mv_syntax.specs.Words.{◌otherwise◌}
use Rattle.mv_layers.specs.Derived.{OlsValue, is_kept}
use Rattle.mv_layers.specs.LayerInfos.{LayerInfoValue, directs_of, is_layer}
use Rattle.mv_vps.specs.Vps.{WholeVps}

-- it has the layer
abbrev pub has_layer : WholeVps → ℕ → Bool
has_layer v layer = is_some (find (is_layer layer) v.derived.layers)

-- the layer is kept for output layer set o
abbrev pub kept_in : WholeVps → ℕ → ℕ → Bool
kept_in v o layer = option_map (λ (set : OlsValue). is_kept set layer) (slice_get v.derived.sets o) otherwise nat_eq layer 0

-- ViewId, and the direct reference layers
abbrev pub view_in : WholeVps → ℕ → ℕ
view_in v layer = option_map (λ (info : LayerInfoValue). info.view_id) (find (is_layer layer) v.derived.layers) otherwise 0

abbrev pub directs_in : WholeVps → ℕ → List ℕ
directs_in v layer = directs_of v.derived.layers layer
