-- Parameter sets that were read, and whose pictures have a size (7.4.3.2.1, F.7.4.3.1.1).
use Rattle.std.specs.Prelude.{ℕ, ◌≤◌, Bool, List, Option}
use Rattle.mv_common.specs.declared.format.Format.{Format}
use Rattle.mv_syntax.specs.Payload.{ValidPayload}
use Rattle.mv_pps.specs.Pps.{pps}
use Rattle.mv_sps.specs.Sps.{sps_payload}
use Rattle.mv_sets.specs.Sets.{ActiveValue}

-- a format has some samples, and at most 16384 in width and in height (this project's profile)
pub record IsSized (format : Format) : Type 0 where
  pub some_width : 1 ≤ format.width
  pub few_width : format.width ≤ 16384
  pub some_height : 1 ≤ format.height
  pub few_height : format.height ≤ 16384

-- the sets that serve a slice segment are valid ones of some layer, whatever stands behind their fields, and their format is sized
pub record AreSets (active : ActiveValue) : Type 0 where
  pub layer : ℕ
  pub vps_sub_layers : ℕ
  pub sps_tail : Option (List Bool)
  pub pps_tail : Option (List Bool)
  pub sps : ValidPayload (sps_payload layer vps_sub_layers) (active.sps.value.0, sps_tail)
  pub pps : ValidPayload pps (active.pps.value.0, pps_tail)
  pub format : IsSized active.format
