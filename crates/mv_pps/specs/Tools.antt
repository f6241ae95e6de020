-- The flags of a picture parameter set that switch coding tools on (7.3.2.3.1).
use Rattle.std.specs.Prelude.{refl}
use Rattle.mv_syntax.specs.Table.{Table, u, named, shaped}
use Rattle.mv_syntax.specs.Words.{◌▸◌, ◌>>◌}
use Rattle.mv_pps.specs.declared.tools.PpsTools.{PpsTools}

unfoldable pub tools : Table PpsTools
tools = shaped
    (λ (weighted_pred_flag, (weighted_bipred_flag, (transquant_bypass_enabled_flag, (tiles_enabled_flag, entropy_coding_sync_enabled_flag)))). record {
      weighted_pred_flag = weighted_pred_flag;
      weighted_bipred_flag = weighted_bipred_flag;
      transquant_bypass_enabled_flag = transquant_bypass_enabled_flag;
      tiles_enabled_flag = tiles_enabled_flag;
      entropy_coding_sync_enabled_flag = entropy_coding_sync_enabled_flag;
    })
    (λ v.
    v.weighted_pred_flag
    ▸ v.weighted_bipred_flag
    ▸ v.transquant_bypass_enabled_flag
    ▸ v.tiles_enabled_flag
    ▸ v.entropy_coding_sync_enabled_flag)
    (λ _. refl)
    do
      named "weighted_pred_flag" (u 1)
      named "weighted_bipred_flag" (u 1)
      named "transquant_bypass_enabled_flag" (u 1)
      named "tiles_enabled_flag" (u 1)
      named "entropy_coding_sync_enabled_flag" (u 1)
