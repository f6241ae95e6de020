-- Parameter sets that were received, as they are kept.
use Rattle.std.specs.Prelude.{ℕ, Bool, List, Option, Ok}
use Rattle.mv_common.specs.declared.format.Format.{Format}
use Rattle.mv_pps.specs.Pps.{PpsValue}
use Rattle.mv_sps.specs.Sps.{SpsValue}
use Rattle.mv_pictures.specs.Carried.{Carried}

-- a sequence and a picture parameter set: the layer and the payload of its unit, and the fields and the tail that were read
pub record SpsSetValue : Type 0 where
  pub layer : ℕ
  pub payload : List ℕ
  pub value : SpsValue × Option (List Bool)

pub record PpsSetValue : Type 0 where
  pub layer : ℕ
  pub payload : List ℕ
  pub value : PpsValue × Option (List Bool)

-- as units carry them
abbrev pub carried_sps : SpsSetValue → Carried SpsValue
carried_sps s = record { layer = s.layer; payload = s.payload; reading = Ok s.value.0 }

abbrev pub carried_pps : PpsSetValue → Carried PpsValue
carried_pps s = record { layer = s.layer; payload = s.payload; reading = Ok s.value.0 }

-- those that serve a slice segment, with the format that they give
pub record ActiveValue : Type 0 where
  pub sps : SpsSetValue
  pub pps : PpsSetValue
  pub format : Format
