-- The layers and the output layer sets at a unit (F.7.4.3.1.1), by the video parameter set that is in force there. Where
-- none is, or where it doesn't read, there are none.
use Rattle.std.specs.Prelude.{ℕ, Bool, true, List, [], Option, Some, None, option_map, option_and_then, slice_get, nat_eq}
use Rattle.std.specs.List.{find}
use Rattle.mv_syntax.specs.Words.{◌otherwise◌}
use Rattle.mv_layers.specs.LayerInfos.{LayerInfoValue, is_known, is_layer, directs_of, closure_of}
use Rattle.mv_layers.specs.Derived.{OlsValue, is_kept}
use Rattle.mv_vps.specs.Vps.{WholeVps}
use Rattle.mv_pictures.specs.Carried.{Carried, value_of}

-- the video parameter set in force, if there is one
abbrev pub InForce : Type 0
InForce = Option (Carried WholeVps)

-- what it says, where it reads
abbrev pub whole : InForce → Option WholeVps
whole at = option_and_then value_of at

unfoldable pub layers_at : InForce → List LayerInfoValue
layers_at at = option_map (λ (v : WholeVps). v.derived.layers) (whole at) otherwise []

unfoldable pub sets_at : InForce → List OlsValue
sets_at at = option_map (λ (v : WholeVps). v.derived.sets) (whole at) otherwise []

-- output layer set o
unfoldable pub set_at : InForce → ℕ → Option OlsValue
set_at at o = slice_get (sets_at at) o

-- a unit of this layer is known: no video parameter set was accepted, or it has the layer (this project's profile)
unfoldable pub knows : InForce → ℕ → Bool
knows at layer = option_map (λ (v : WholeVps). is_known v.derived.layers layer) (whole at) otherwise true

-- the direct reference layers of a layer, and it with its direct and indirect ones
unfoldable pub directs : InForce → ℕ → List ℕ
directs at layer = directs_of (layers_at at) layer

unfoldable pub closure : InForce → ℕ → List ℕ
closure at layer = closure_of (layers_at at) layer

-- ViewId of a layer
unfoldable pub view : InForce → ℕ → ℕ
view at layer = option_map (λ (info : LayerInfoValue). info.view_id) (find (is_layer layer) (layers_at at)) otherwise 0

-- a unit of this layer is kept for output layer set o: layer 0 and the necessary layers of o are, and all are where no
-- video parameter set is in force (this project's profile)
unfoldable pub keeps : ℕ → InForce → ℕ → Bool
keeps o None layer = true
keeps o (Some vps) layer = option_map (λ set. is_kept set layer) (set_at (Some vps) o) otherwise nat_eq layer 0
