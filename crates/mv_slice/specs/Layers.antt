-- The direct reference layers that a picture refers to (F.7.4.7.1). They are numbered from 0 in rising order of their layers.
use Rattle.std.specs.Prelude.{ℕ, ◌+◌, Bool, not, ◌&&◌, ◌||◌, List, length, get_or, take, Option, nat_le, nat_eq, nat_lt, if◌then◌else◌}
use Rattle.std.specs.List.{filter, range_with_len}
use Rattle.mv_syntax.specs.Words.{is_set, or_zero, coded_set, over, ◌otherwise◌}
use Rattle.mv_slice.specs.Context.{SliceContextValue}

-- what the video parameter set says of a direct reference layer: its greatest sub-layer, and the sub-layers of it, from 0 up to
-- but not including this number, that the layer above refers to
pub record DirectLayer : Type 0 where
  pub sub_layers_vps_max_minus1 : ℕ
  pub max_tid_il_ref_pics_plus1 : ℕ

-- whether a picture of this TemporalId may refer to the layer
abbrev pub may_refer : ℕ → DirectLayer → Bool
may_refer tid direct =
    nat_le tid direct.sub_layers_vps_max_minus1 && (nat_eq tid 0 || nat_lt tid direct.max_tid_il_ref_pics_plus1)

-- layer i of some
abbrev pub layer_at : List DirectLayer → ℕ → DirectLayer
layer_at directs i = get_or directs i (record { sub_layers_vps_max_minus1 = 0; max_tid_il_ref_pics_plus1 = 0 })

-- the numbers i of the direct reference layers that a picture of this TemporalId may refer to, in rising order
abbrev pub eligible : ℕ → List DirectLayer → List ℕ
eligible tid directs = filter (λ i. may_refer tid (layer_at directs i)) (range_with_len 0 (length directs))

-- NumActiveRefLayerPics, from inter_layer_pred_enabled_flag and num_inter_layer_ref_pics_minus1
unfoldable pub num_active_ref_layer_pics : SliceContextValue → Option ℕ → Option ℕ → ℕ
num_active_ref_layer_pics ctx enabled coded =
    if nat_eq ctx.layer 0 || nat_eq (length ctx.eligible) 0 then 0
    else (if is_set ctx.default_ref_layers_active_flag then length ctx.eligible
    else (if not (coded_set enabled) then 0
    else (if is_set ctx.max_one_active_ref_layer_flag || nat_eq ctx.directs 1 then 1
    else or_zero coded + 1)))

-- whether this number of active layers asks for more than may be referred to, with no layer named: it is that of all direct
-- reference layers, and fewer are eligible
unfoldable pub lacks_layers : SliceContextValue → ℕ → Bool
lacks_layers ctx num_active = nat_eq num_active ctx.directs && over (length ctx.eligible) num_active

-- the active layers, by their numbers: those that are named, or else the first eligible ones
abbrev pub active_layers : SliceContextValue → ℕ → Option (List ℕ) → List ℕ
active_layers ctx num_active inter_layer_pred_layer_idc = inter_layer_pred_layer_idc otherwise take num_active ctx.eligible
