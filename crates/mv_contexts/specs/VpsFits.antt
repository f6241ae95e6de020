-- What slice segment headers need of a video parameter set for a layer: each field within its limit.
use Rattle.std.specs.Prelude.{ℕ, ◌≤◌, length}
use Rattle.mv_syntax.specs.Words.{◌otherwise◌}
use Rattle.mv_layers.specs.LayerInfos.{directs_of}
use Rattle.mv_vps.specs.Vps.{WholeVps}
use Rattle.mv_vps.specs.Getters.{poc_lsb_not_present, default_ref_layers_active, max_one_active_ref_layer}
use Rattle.mv_slice.specs.Context.{IsFlag}

pub record VpsFits (v : WholeVps) (layer : ℕ) : Type 0 where
  pub few_layers : layer ≤ 62
  pub few_directs : length (directs_of v.derived.layers layer) ≤ 62
  pub poc_lsb_not_present_flag : IsFlag (poc_lsb_not_present v layer otherwise 0)
  pub default_ref_layers_active_flag : IsFlag (default_ref_layers_active v)
  pub max_one_active_ref_layer_flag : IsFlag (max_one_active_ref_layer v)
