-- What is answered of a parameter set's payload, and of the unit around it.
use Rattle.std.specs.Prelude.{◌≡◌, ⊤, ◌⊎◌, ℕ, ◌&&◌, Bool, true, false, List, length, Option, Result, Ok, Err, nat_eq, nat_lt, if◌then◌else◌}
use Rattle.mv_syntax.specs.Bits.{Fault, short, breaks, byte_bits}
use Rattle.mv_syntax.specs.inner.PayloadReader.{read_payload}
use Rattle.mv_rules.specs.Rule.{rule_number}
use Rattle.mv_rules.specs.declared.rule.Rule.{Rule}
use Rattle.mv_rules.specs.declared.refusal.ReadFault.{ReadFault}
use Rattle.mv_rules.specs.declared.refusal.ReadFault.TheVariants.{Refused, Memory as out_of_memory}
use Rattle.mv_vps.specs.Vps.{VpsValue, WholeVps, vps}
use Rattle.mv_sps.specs.Sps.{SpsValue, sps_payload}
use Rattle.mv_pps.specs.Pps.{PpsValue, pps}
use Rattle.mv_pictures.specs.Carried.{whole_vps}
use Rattle.mv_walk_sets.specs.InForce.{VpsInForceValue}
use Rattle.mv_walk_sets.specs.declared.fault.VpsFault.{VpsFault}

-- ---- Payloads

-- what a payload reads as
abbrev pub as_whole : Result (VpsValue × Option (List Bool)) Fault → Result WholeVps Fault
as_whole reading = elim reading [ Ok v ↦ Ok (whole_vps v) | Err fault ↦ Err fault ]

unfoldable pub vps_reading : List ℕ → Result WholeVps Fault
vps_reading p = as_whole (read_payload vps (byte_bits p))

abbrev pub sps_reading : ℕ → ℕ → List ℕ → Result (SpsValue × Option (List Bool)) Fault
sps_reading layer vps_sub_layers p = read_payload (sps_payload layer vps_sub_layers) (byte_bits p)

abbrev pub pps_reading : List ℕ → Result (PpsValue × Option (List Bool)) Fault
pps_reading p = read_payload pps (byte_bits p)

-- this rule refuses a payload: it cuts it, or it is the syntax rule and nothing reads and no rule cuts
abbrev pub Refuses : {A : Type 0} → Rule → Result A Fault → Rule → Type 0
Refuses syntax reading rule = (reading ≡ Err (breaks (rule_number rule))) ⊎ ((rule ≡ syntax) × (reading ≡ Err short))

-- what is answered is what reads, or a rule that refuses; want of memory says nothing
abbrev pub Reads : {A : Type 0} → Rule → Result A Fault → Result A ReadFault → Type 0
Reads syntax reading (Ok v) = reading ≡ Ok v
Reads syntax reading (Err (Refused rule)) = Refuses syntax reading rule
Reads syntax reading (Err out_of_memory) = ⊤

-- ---- Video parameter sets: TemporalId behind the payload, and then the output layer set that is asked for

abbrev pub checked : ℕ → ℕ → ℕ → Result ⊤ VpsFault
checked asked tid count =
    if nat_lt 0 tid then Err (VpsFault.Refused Rule.VpsTid) else (if nat_lt asked count then Ok tt else Err (VpsFault.NoSuchSet asked count))

abbrev pub fault_of : ReadFault → VpsFault
fault_of (Refused rule) = VpsFault.Refused rule
fault_of out_of_memory = VpsFault.Memory

abbrev pub IsOfPayload : {A : Type 0} → Result A Fault → VpsFault → Type 0
IsOfPayload reading (VpsFault.Refused rule) = Refuses Rule.VpsSyntax reading rule
IsOfPayload reading (VpsFault.NoSuchSet asked count) = ⊥
IsOfPayload reading VpsFault.Memory = ⊤

abbrev pub ReadsVps : ℕ → ℕ → Result WholeVps Fault → Result WholeVps VpsFault → Type 0
ReadsVps asked tid reading (Ok v) = (reading ≡ Ok v) × (checked asked tid (length v.derived.sets) ≡ Ok tt)
ReadsVps asked tid reading (Err fault) =
    IsOfPayload reading fault ⊎ ((v : WholeVps) × (reading ≡ Ok v) × (checked asked tid (length v.derived.sets) ≡ Err fault))

-- the same, with the payload
abbrev pub ReadsNew : ℕ → ℕ → List ℕ → Result VpsInForceValue VpsFault → Type 0
ReadsNew asked tid p (Ok new) = (new.payload ≡ p) × (vps_reading p ≡ Ok new.value) × (checked asked tid (length new.value.derived.sets) ≡ Ok tt)
ReadsNew asked tid p (Err fault) = ReadsVps asked tid (vps_reading p) (Err fault)

-- ---- Sequence parameter sets: TemporalId comes before the limit rule, and behind every other

abbrev pub with_tid : ℕ → Rule → Rule
with_tid tid rule = if nat_lt 0 tid && nat_eq (rule_number rule) (rule_number Rule.SpsLimit) then Rule.SpsTid else rule

abbrev pub ReadsSps : {A : Type 0} → ℕ → Result A Fault → Result A ReadFault → Type 0
ReadsSps tid reading (Ok v) = (reading ≡ Ok v) × (nat_lt 0 tid ≡ false)
ReadsSps {A} tid reading (Err (Refused rule)) =
    ((broken : Rule) × Refuses Rule.SpsSyntax reading broken × (rule ≡ with_tid tid broken))
    ⊎ ((v : A) × (reading ≡ Ok v) × (nat_lt 0 tid ≡ true) × (rule ≡ Rule.SpsTid))
ReadsSps tid reading (Err out_of_memory) = ⊤
