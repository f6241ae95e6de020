-- What is derived from a video parameter set and its extension (F.7.4.3.1.1): its layers and its output layer sets; and what is
-- kept for an output layer set (this project's profile).
use Rattle.std.specs.Prelude.{◌≡◌, ℕ, ◌<◌, Bool, true, ◌||◌, List, map, Option, nat_eq}
use Rattle.std.specs.List.{All, Contains}
use Rattle.std.specs.List.Sorted.{IsStrictlyIncreasing}
use Rattle.mv_layers.specs.LayerInfos.{LayerInfoValue, directs_of}
use Rattle.mv_layers.specs.OutputLayers.{OlsLayers, is_among}

-- an output layer set, and its greatest number of pictures that precede one in decoding order and follow it in output order; None
-- for set 0, which has that of its sequence parameter set
pub record OlsValue : Type 0 where
  pub layers : List ℕ
  pub outputs : List ℕ
  pub necessary : List ℕ
  pub reorder : Option ℕ

abbrev pub ols_value : OlsLayers → Option ℕ → OlsValue
ols_value set reorder = record { layers = set.layers; outputs = set.outputs; necessary = set.necessary; reorder = reorder }

-- the layers in rising order, and the output layer sets
pub record DerivedValue : Type 0 where
  pub layers : List LayerInfoValue
  pub sets : List OlsValue

-- the layer of this nuh_layer_id is kept for an output layer set: it is layer 0 or a necessary layer of the set
abbrev pub is_kept : OlsValue → ℕ → Bool
is_kept set id = nat_eq id 0 || is_among set.necessary id

-- what holds of a layer among these: its lists rise; a direct reference goes to a lower layer; the layer itself is in its
-- closure, and with a layer its direct reference layers
pub record IsOrderlyLayer (infos : List LayerInfoValue) (info : LayerInfoValue) : Type 0 where
  pub directs_rise : IsStrictlyIncreasing info.directs
  pub closure_rises : IsStrictlyIncreasing info.closure
  pub directs_below : (id : ℕ) → is_among info.directs id ≡ true → id < info.layer
  pub itself : is_among info.closure info.layer ≡ true
  pub closed : (id direct : ℕ) → is_among info.closure id ≡ true → is_among (directs_of infos id) direct ≡ true → is_among info.closure direct ≡ true

-- what holds of an output layer set: its lists rise; outputs and necessary layers are layers of it; its outputs are necessary,
-- and what is kept for it is closed under direct references
pub record IsOrderlySet (infos : List LayerInfoValue) (set : OlsValue) : Type 0 where
  pub layers_rise : IsStrictlyIncreasing set.layers
  pub outputs_rise : IsStrictlyIncreasing set.outputs
  pub necessary_rises : IsStrictlyIncreasing set.necessary
  pub outputs_within : (id : ℕ) → is_among set.outputs id ≡ true → is_among set.layers id ≡ true
  pub necessary_within : (id : ℕ) → is_among set.necessary id ≡ true → is_among set.layers id ≡ true
  pub outputs_kept : (id : ℕ) → is_among set.outputs id ≡ true → is_kept set id ≡ true
  pub kept_closed : (id direct : ℕ) → is_kept set id ≡ true → is_among (directs_of infos id) direct ≡ true → is_kept set direct ≡ true

-- what holds of all that is derived: the layers rise, and each layer and each set is as it has to be
pub record IsOrderly (derived : DerivedValue) : Type 0 where
  pub layers_rise : IsStrictlyIncreasing (map (λ (info : LayerInfoValue). info.layer) derived.layers)
  pub each_layer : All (IsOrderlyLayer derived.layers) derived.layers
  pub each_set : All (IsOrderlySet derived.layers) derived.sets
