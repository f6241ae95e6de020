-- vps_extension (F.7.3.2.1.1), sixth part, up to poc_lsb_not_present_flag: what holds of the pictures of a layer.
use Rattle.std.specs.Prelude.{ℕ, List, Option, refl}
use Rattle.mv_syntax.specs.Table.{Table, u, named, when, shaped}
use Rattle.mv_syntax.specs.Words.{◌▸◌, ◌>>◌}
use Rattle.mv_syntax.specs.Loops.{items}
use Rattle.mv_layers.specs.References.{independent}

-- for i = 1 to vps_max_layers_minus1, where layer i has no direct reference layer
unfoldable pub poc_lsb_not_present : List (List ℕ) → ℕ → Table (Option ℕ)
poc_lsb_not_present flags i = named "poc_lsb_not_present_flag" (when (independent flags i) (u 1))

unfoldable pub poc_lsbs_not_present : ℕ → List (List ℕ) → Table (List (Option ℕ))
poc_lsbs_not_present vps_max_layers_minus1 flags = items 1 vps_max_layers_minus1 (poc_lsb_not_present flags)

pub record VpsPicturesValue : Type 0 where
  pub max_one_active_ref_layer_flag : ℕ
  pub vps_poc_lsb_aligned_flag : ℕ
  pub poc_lsb_not_present_flag : List (Option ℕ)

unfoldable pub pictures : ℕ → List (List ℕ) → Table VpsPicturesValue
pictures vps_max_layers_minus1 flags = shaped
    (λ (max_one_active_ref_layer_flag, (vps_poc_lsb_aligned_flag, poc_lsb_not_present_flag)). record {
      max_one_active_ref_layer_flag = max_one_active_ref_layer_flag;
      vps_poc_lsb_aligned_flag = vps_poc_lsb_aligned_flag;
      poc_lsb_not_present_flag = poc_lsb_not_present_flag;
    })
    (λ v.
    v.max_one_active_ref_layer_flag
    ▸ v.vps_poc_lsb_aligned_flag
    ▸ v.poc_lsb_not_present_flag)
    (λ _. refl)
    do
      named "max_one_active_ref_layer_flag" (u 1)
      named "vps_poc_lsb_aligned_flag" (u 1)
      poc_lsbs_not_present vps_max_layers_minus1 flags
