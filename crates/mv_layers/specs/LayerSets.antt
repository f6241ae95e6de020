-- The layer sets of a video parameter set (7.4.3.1), and the rules on them, tried on all from 1 on (this project's profile).
use Rattle.std.specs.Prelude.{ℕ, zero, suc, Bool, not, ◌&&◌, List, [], ◌∷◌, get_or, length}
use Rattle.std.specs.List.{list_any, filter, range_with_len}
use Rattle.mv_syntax.specs.Words.{is_set}
use Rattle.mv_layers.specs.LayerInfos.{LayerInfoValue, is_known}

-- a layer set, given by its flags layer_id_included_flag[j], has the layer of nuh_layer_id j
abbrev pub has_layer : List ℕ → ℕ → Bool
has_layer flags j = is_set (get_or flags j 0)

-- the layers of a layer set, by nuh_layer_id, rising
abbrev pub layers_in : List ℕ → List ℕ
layers_in flags = filter (has_layer flags) (range_with_len 0 (length flags))

-- the flags of layer set n: layer set 0 is layer 0, and the others are coded
abbrev pub set_flags : List (List ℕ) → ℕ → List ℕ
set_flags coded zero = 1 ∷ []
set_flags coded (suc k) = get_or coded k []

-- LayerSetBase (21): it lacks layer 0
abbrev pub lacks_base : List ℕ → Bool
lacks_base flags = not (has_layer flags 0)

-- LayerSetClosure (22): it has a layer and lacks one of its direct reference layers
abbrev pub lacks_reference : List ℕ → LayerInfoValue → Bool
lacks_reference flags info = list_any (λ id. not (has_layer flags id)) info.directs

abbrev pub not_closed : List LayerInfoValue → List ℕ → Bool
not_closed infos flags = list_any (λ (info : LayerInfoValue). has_layer flags info.layer && lacks_reference flags info) infos

-- LayerSetUnknown (23): it has a layer that the video parameter set hasn't
abbrev pub has_unknown : List LayerInfoValue → List ℕ → Bool
has_unknown infos flags = list_any (λ id. not (is_known infos id)) (layers_in flags)
