-- The greatest sub-layer of a set of layers is at most 6.
use Rattle.std.proofs.Common.{ℕ, zero, suc, ◌≤◌, max, List, [], ◌∷◌, get_or, map, Option, Some, None, option_map, arith}
use Rattle.std.specs.List.{fold}
use Rattle.mv_syntax.specs.Words.{◌otherwise◌}
use Rattle.mv_layers.specs.LayerInfos.{LayerInfoValue, layer_index}
use Rattle.mv_layers.specs.OutputLayers.{OlsLayers}
use Rattle.mv_layers.specs.PerLayer.{sub_layers_at}
use Rattle.mv_vpssets.specs.DpbSizes.{DpbLayers, no_layers}
use Rattle.mv_vpssets.specs.Sets.{sub_layers_of, dpb_layers}

at_small : (most : ℕ) (coded : Option (List ℕ)) → most ≤ 6 → ((k : ℕ) → get_or (coded otherwise []) k 0 ≤ 6) → (i : Option ℕ)
    → (option_map (sub_layers_at most coded) i otherwise 0) ≤ 6
at_small most coded h small None = omega arith
at_small most None h small (Some i) = h
at_small most (Some coded) h small (Some i) = small i

greatest_small : (f : ℕ → ℕ) → ((id : ℕ) → f id ≤ 6) → (so_far : ℕ) (ids : List ℕ) → so_far ≤ 6 → fold (λ greatest id. max greatest (f id)) so_far ids ≤ 6
greatest_small f small so_far [] h = h
greatest_small f small so_far (id ∷ ids) h = greatest_small f small (max so_far (f id)) ids (omega (arith, small id))

pub dpb_layers_small : (infos : List LayerInfoValue) (most : ℕ) (coded : Option (List ℕ)) → most ≤ 6 → ((k : ℕ) → get_or (coded otherwise []) k 0 ≤ 6)
    → (set : OlsLayers) → (dpb_layers infos most coded set).greatest ≤ 6
dpb_layers_small infos most coded h small set =
    greatest_small (sub_layers_of infos most coded) (λ id. at_small most coded h small (layer_index infos id)) 0 set.layers (omega arith)

pub all_small : (f : OlsLayers → DpbLayers) → ((set : OlsLayers) → (f set).greatest ≤ 6) → (sets : List OlsLayers) (k : ℕ) → (get_or (map f sets) k no_layers).greatest ≤ 6
all_small f small [] k = omega arith
all_small f small (set ∷ sets) zero = small set
all_small f small (set ∷ sets) (suc k) = all_small f small sets k
