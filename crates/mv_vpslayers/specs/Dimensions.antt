-- vps_extension (F.7.3.2.1.1), first part, up to view_id_val: the profile of layer 0, the scalability dimensions and the views.
use Rattle.std.specs.Prelude.{ℕ, ◌+◌, Bool, false, not, ◌&&◌, ◌||◌, List, get_or, length, Option, refl, nat_eq, nat_le, if◌then◌else◌}
use Rattle.std.specs.List.{list_any}
use Rattle.mv_syntax.specs.Table.{Table, ◌>>=◌, u, named, when, shaped}
use Rattle.mv_syntax.specs.Words.{◌under◌, ◌▸◌, ◌>>◌, ◌!◌∶◌, over, is_set, or_zero}
use Rattle.mv_syntax.specs.Loops.{items, items_after, us}
use Rattle.mv_rules.specs.declared.rule.Rule.{Rule}
use Rattle.mv_rules.specs.declared.rule.Rule.TheVariants.{Depth, Spatial, Auxiliary, ReservedDimension, NoViewDimension, SameView, Splitting, VpsLimit}
use Rattle.mv_common.specs.ProfileTier.{ProfileTierValue, profile_tier_level}
use Rattle.mv_vpslayers.specs.declared.dimensions.VpsLayer.{VpsLayer}
use Rattle.mv_vpslayers.specs.Layers.{nuh_layer_id}

-- the rule that scalability_mask_flag[i] can break (this project's profile)
abbrev pub mask_rule : ℕ → Rule
mask_rule i =
    if nat_eq i 0 then Depth else (if nat_eq i 1 then NoViewDimension else (if nat_eq i 2 then Spatial else (if nat_eq i 3 then Auxiliary else ReservedDimension)))

-- scalability_mask_flag[i] breaks it: views, of index 1, have to be there with more than one layer, and no other dimension
abbrev pub mask_breaks : ℕ → ℕ → ℕ → Bool
mask_breaks vps_max_layers_minus1 i flag = if nat_eq i 1 then over 0 vps_max_layers_minus1 && not (is_set flag) else is_set flag

unfoldable pub mask_flag : ℕ → ℕ → Table ℕ
mask_flag vps_max_layers_minus1 i = named "scalability_mask_flag" (u 1 ! mask_rule i ∶ mask_breaks vps_max_layers_minus1 i)

-- for i = 0 to 15
unfoldable pub mask_flags : ℕ → Table (List ℕ)
mask_flags vps_max_layers_minus1 = items 0 16 (mask_flag vps_max_layers_minus1)

-- a nuh_layer_id is 63 or not above that of the layer before: past its limit, 26 (this project's profile)
abbrev pub no_layer_id : ℕ → ℕ → Bool
no_layer_id before id = nat_eq id 63 || nat_le id before

-- a layer has the view order index of an earlier one, that of layer 0 being 0: SameView, 18 (this project's profile)
abbrev pub same_view : List VpsLayer → ℕ → Bool
same_view before id = nat_eq id 0 || list_any (λ (earlier : VpsLayer). nat_eq earlier.dimension_id id) before

-- the layer of index i, behind those from index 1 on
unfoldable pub vps_layer : Bool → ℕ → ℕ → List VpsLayer → Table VpsLayer
vps_layer present dimension_id_len i before = shaped
    (λ (layer_id_in_nuh, dimension_id). record {
      layer_id_in_nuh = layer_id_in_nuh;
      dimension_id = dimension_id;
    })
    (λ v.
    v.layer_id_in_nuh
    ▸ v.dimension_id)
    (λ _. refl)
    do
      named "layer_id_in_nuh" (when present (u 6 ! VpsLimit ∶ no_layer_id (nuh_layer_id before (length before))))
      named "dimension_id" (u dimension_id_len ! SameView ∶ same_view before)

-- for i = 1 to vps_max_layers_minus1
unfoldable pub vps_layers : ℕ → Bool → ℕ → Table (List VpsLayer)
vps_layers vps_max_layers_minus1 present dimension_id_len = items_after 1 vps_max_layers_minus1 (vps_layer present dimension_id_len)

-- for i = 0 to vps_max_layers_minus1
unfoldable pub view_id_vals : ℕ → ℕ → Table (List ℕ)
view_id_vals vps_max_layers_minus1 view_id_len = named "view_id_val" (us 0 (vps_max_layers_minus1 + 1) view_id_len)

-- view identifiers are coded, and a view order index has none: past its limit, 26 (this project's profile)
abbrev pub lacks_view_id : ℕ → List VpsLayer → ℕ → Bool
lacks_view_id vps_max_layers_minus1 layers view_id_len =
    over 0 view_id_len && list_any (λ (layer : VpsLayer). over vps_max_layers_minus1 layer.dimension_id) layers

pub record VpsDimensionsValue : Type 0 where
  pub profile_tier_level : Option ProfileTierValue
  pub splitting_flag : ℕ
  pub scalability_mask_flag : List ℕ
  pub dimension_id_len_minus1 : Option ℕ
  pub vps_nuh_layer_id_present_flag : ℕ
  pub layers : List VpsLayer
  pub view_id_len : ℕ
  pub view_id_val : Option (List ℕ)

unfoldable pub dimensions : ℕ → ℕ → Table VpsDimensionsValue
dimensions vps_max_layers_minus1 vps_max_sub_layers_minus1 = shaped
    (λ (profile_tier_level, (splitting_flag, (scalability_mask_flag, (dimension_id_len_minus1, (vps_nuh_layer_id_present_flag, (layers, (view_id_len, view_id_val))))))). record {
      profile_tier_level = profile_tier_level;
      splitting_flag = splitting_flag;
      scalability_mask_flag = scalability_mask_flag;
      dimension_id_len_minus1 = dimension_id_len_minus1;
      vps_nuh_layer_id_present_flag = vps_nuh_layer_id_present_flag;
      layers = layers;
      view_id_len = view_id_len;
      view_id_val = view_id_val;
    })
    (λ v.
    v.profile_tier_level
    ▸ v.splitting_flag
    ▸ v.scalability_mask_flag
    ▸ v.dimension_id_len_minus1
    ▸ v.vps_nuh_layer_id_present_flag
    ▸ v.layers
    ▸ v.view_id_len
    ▸ v.view_id_val)
    (λ _. refl)
    do
      when (over 0 vps_max_layers_minus1) (profile_tier_level false vps_max_sub_layers_minus1 under VpsLimit)
      named "splitting_flag" (u 1 ! Splitting ∶ is_set)
      scalability_mask_flag ← mask_flags vps_max_layers_minus1
      dimension_id_len_minus1 ← named "dimension_id_len_minus1" (when (is_set (get_or scalability_mask_flag 1 0)) (u 3))
      vps_nuh_layer_id_present_flag ← named "vps_nuh_layer_id_present_flag" (u 1)
      layers ← vps_layers vps_max_layers_minus1 (is_set vps_nuh_layer_id_present_flag) (or_zero dimension_id_len_minus1 + 1)
      view_id_len ← named "view_id_len" (u 4 ! VpsLimit ∶ lacks_view_id vps_max_layers_minus1 layers)
      when (over 0 view_id_len) (view_id_vals vps_max_layers_minus1 view_id_len)
