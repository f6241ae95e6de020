-- Parameter sets as they are kept: a unit's payload, and what was read there.
use Rattle.std.specs.Prelude.{ℕ, Bool, List, Option, Some, None, Ok, option_map, ⊤}
use Rattle.mv_syntax.specs.Bits.{byte_bits}
use Rattle.mv_syntax.specs.Payload.{ReadsPayload}
use Rattle.mv_vps.specs.Vps.{WholeVps, ValidVps, vps}
use Rattle.mv_sps.specs.Sps.{SpsValue}
use Rattle.mv_pps.specs.Pps.{PpsValue}
use Rattle.mv_pictures.specs.Carried.{Carried}
use Rattle.mv_pictures.specs.Layers.{InForce}

-- a video parameter set that was accepted, of layer 0
pub record VpsInForceValue : Type 0 where
  pub payload : List ℕ
  pub value : WholeVps

-- a sequence and a picture parameter set: the fields and the tail
pub record CarriedSpsValue : Type 0 where
  pub payload : List ℕ
  pub value : SpsValue × Option (List Bool)

pub record CarriedPpsValue : Type 0 where
  pub payload : List ℕ
  pub value : PpsValue × Option (List Bool)

-- as units carry them
abbrev pub carried_of : VpsInForceValue → Carried WholeVps
carried_of v = record { layer = 0; payload = v.payload; reading = Ok v.value }

abbrev pub sps_carried : ℕ → CarriedSpsValue → Carried SpsValue
sps_carried layer s = record { layer = layer; payload = s.payload; reading = Ok s.value.0 }

abbrev pub pps_carried : ℕ → CarriedPpsValue → Carried PpsValue
pps_carried layer s = record { layer = layer; payload = s.payload; reading = Ok s.value.0 }

-- what is in force
unfoldable pub in_force : Option VpsInForceValue → InForce
in_force o = option_map carried_of o

-- what is kept is what reads in the payload
pub record IsRead (v : VpsInForceValue) : Type 0 where
  pub reads : ReadsPayload vps (byte_bits v.payload) v.value.coded
  pub valid : ValidVps v.value

abbrev pub AreRead : Option VpsInForceValue → Type 0
AreRead None = ⊤
AreRead (Some v) = IsRead v
