-- Parameter sets as units carry them: the payload, and what the table of its syntax reads there.
use Rattle.std.specs.Prelude.{ℕ, Bool, List, Option, Some, None, Result, Ok, Err}
use Rattle.mv_units.specs.declared.head.UnitHead.{UnitHead}
use Rattle.mv_units.specs.Escapes.{payload}
use Rattle.mv_syntax.specs.Bits.{Fault, byte_bits}
use Rattle.mv_syntax.specs.Payload.{Payload}
use Rattle.mv_syntax.specs.inner.PayloadReader.{read_payload}
use Rattle.mv_vps.specs.Base.{args_of}
use Rattle.mv_vps.specs.Vps.{VpsValue, WholeVps, vps, described}
use Rattle.mv_sps.specs.Sps.{SpsValue, sps_payload}
use Rattle.mv_pps.specs.Pps.{PpsValue, pps}

-- a parameter set of a layer: a value that reads in its payload, or the fault that stands there
pub record Carried (A : Type 0) : Type 0 where
  pub layer : ℕ
  pub payload : List ℕ
  pub reading : Result A Fault

-- its value, where one reads
abbrev pub value_of : {A : Type 0} → Carried A → Option A
value_of c = elim (c.reading) [ Ok v ↦ Some v | Err fault ↦ None ]

-- what a payload reads as, as the value that it is kept as
abbrev pub carried : {A B : Type 0} → Payload A → (A × Option (List Bool) → B) → UnitHead → List ℕ → Carried B
carried table as_value head bytes = record {
  layer = head.layer;
  payload = payload bytes;
  reading = elim (read_payload table (byte_bits (payload bytes))) [ Ok v ↦ Ok (as_value v) | Err fault ↦ Err fault ];
}

-- a video parameter set, with the layers and output layer sets that it describes (7.3.2.1, F.7.4.3.1.1)
abbrev pub whole_vps : VpsValue × Option (List Bool) → WholeVps
whole_vps coded = record { coded = coded; derived = described (args_of coded.0.base) coded.0.extension }

unfoldable pub carried_vps : UnitHead → List ℕ → Carried WholeVps
carried_vps = carried vps whole_vps

-- a sequence parameter set, which takes vps_max_sub_layers_minus1 of the video parameter set (7.3.2.2.1)
unfoldable pub carried_sps : ℕ → UnitHead → List ℕ → Carried SpsValue
carried_sps vps_sub_layers head = carried (sps_payload head.layer vps_sub_layers) (λ coded. coded.0) head

-- a picture parameter set (7.3.2.3.1)
unfoldable pub carried_pps : UnitHead → List ℕ → Carried PpsValue
carried_pps = carried pps (λ coded. coded.0)
