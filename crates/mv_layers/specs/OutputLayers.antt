-- The layers, outputs and necessary layers of an output layer set (F.7.4.3.1.1), all by nuh_layer_id, rising.
use Rattle.std.specs.Prelude.{ℕ, ◌+◌, ◌-◌, Bool, false, ◌&&◌, List, [], ◌∷◌, drop, get_or, length, map, Option, Some, None, nat_eq, nat_le, nat_lt, if◌then◌else◌}
use Rattle.std.specs.List.{list_any, filter, range_with_len}
use Rattle.mv_syntax.specs.Words.{is_set, or_zero}
use Rattle.mv_layers.specs.LayerInfos.{LayerInfoValue, directs_of}
use Rattle.mv_layers.specs.LayerSets.{layers_in, set_flags}

-- the layer set of output layer set i: below NumLayerSets, layer set i; a later one names its own
abbrev pub layer_set_of : ℕ → ℕ → Option ℕ → ℕ
layer_set_of num_layer_sets i layer_set_idx_for_ols_minus1 =
    if nat_le num_layer_sets i then or_zero layer_set_idx_for_ols_minus1 + 1 else i

-- its layers; the flags of the layer sets are those from layer set 1 on
abbrev pub ols_layers : List (List ℕ) → ℕ → Option ℕ → List ℕ
ols_layers sets i layer_set_idx_for_ols_minus1 = layers_in (set_flags sets (layer_set_of (length sets + 1) i layer_set_idx_for_ols_minus1))

-- the highest layer, as a list of one
abbrev pub highest : List ℕ → List ℕ
highest layers = drop (length layers - 1) layers

-- of these layers, those whose output_layer_flag is 1, or without flags all (default_output_layer_idc 0) or the highest (1)
abbrev pub ols_outputs : List ℕ → Option (List ℕ) → ℕ → List ℕ
ols_outputs layers (Some output_layer_flag) idc =
    map (λ j. get_or layers j 0) (filter (λ j. is_set (get_or output_layer_flag j 0)) (range_with_len 0 (length layers)))
ols_outputs layers None idc = if nat_eq idc 0 then layers else highest layers

-- a layer is one of these
abbrev pub is_among : List ℕ → ℕ → Bool
is_among layers id = list_any (λ layer. nat_eq layer id) layers

-- a layer is necessary: it is an output or a reference layer of one, direct or indirect
abbrev pub is_necessary : List LayerInfoValue → List ℕ → ℕ → Bool
is_necessary infos outputs id = list_any (λ (info : LayerInfoValue). is_among outputs info.layer && is_among info.closure id) infos

-- there is one output, and it has direct reference layers
abbrev pub one_output_refers : List LayerInfoValue → List ℕ → Bool
one_output_refers infos [] = false
one_output_refers infos (output ∷ []) = nat_lt 0 (length (directs_of infos output))
one_output_refers infos (output ∷ other ∷ outputs) = false

-- the layers, outputs and necessary layers of an output layer set
pub record OlsLayers : Type 0 where
  pub layers : List ℕ
  pub outputs : List ℕ
  pub necessary : List ℕ

-- the set with these layers and outputs: of its layers, those that are necessary (NecessaryLayerFlag)
abbrev pub with_necessary : List LayerInfoValue → List ℕ → List ℕ → OlsLayers
with_necessary infos layers outputs =
    record { layers = layers; outputs = outputs; necessary = filter (is_necessary infos outputs) layers }
