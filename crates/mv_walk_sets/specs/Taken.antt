-- What is answered of a unit that carries a parameter set, by the rules on it (this project's profile).
use Rattle.std.specs.Prelude.{◌≡◌, ⊤, ℕ, true, false, List, ◌++◌, Option, Some, None, Result, Ok, Err, nat_lt, if◌then◌else◌}
use Rattle.mv_rules.specs.declared.refusal.ReadFault.{ReadFault}
use Rattle.mv_rules.specs.declared.rule.Rule.{Rule}
use Rattle.mv_rules.specs.declared.refusal.ReadFault.TheVariants.{Refused, Memory as out_of_memory}
use Rattle.mv_judging.specs.declared.stop.Objection.{Objection}
use Rattle.mv_units.specs.Rules.{bad_head}
use Rattle.mv_vps.specs.Vps.{WholeVps}
use Rattle.mv_pictures.specs.Carried.{Carried}
use Rattle.mv_pictures.specs.Items.{Item, is_first_vps, is_vps, turns}
use Rattle.mv_pictures.specs.Facts.{Fact}
use Rattle.mv_pictures.specs.Rules.{item_cases, set_cases}
use Rattle.mv_pictures.specs.Verdict.{lacking}
use Rattle.mv_walk_sets.specs.declared.fault.VpsFault.{VpsFault}
use Rattle.mv_walk_sets.specs.declared.vps.NewVps.{NewVps}
use Rattle.mv_walk_sets.specs.InForce.{CarriedPpsValue, CarriedSpsValue, IsRead, VpsInForceValue, carried_of, in_force, pps_carried, sps_carried}
use Rattle.mv_walk_sets.specs.Readings.{vps_reading}
use Rattle.mv_walk_sets.specs.Roles.{least}

-- a video parameter set of a payload
abbrev pub of_payload : List ℕ → Carried WholeVps
of_payload p = record { layer = 0; payload = p; reading = vps_reading p }

-- the item of a unit that is a video parameter set of layer 0, with this TemporalId and payload, behind this one in force; its
-- head is in order
pub record IsVpsOf (i : Item) (old : Option VpsInForceValue) (tid : ℕ) (p : List ℕ) : Type 0 where
  pub clean : bad_head i.bytes ≡ false
  pub it : is_vps i ≡ true
  pub tid_is : i.head.tid ≡ tid
  pub before_is : i.before ≡ in_force old
  pub at_is : i.at ≡ Some (of_payload p)

-- a video parameter set that breaks no rule and has output layer set o: whether it is the first or a changed one, and what is in
-- force at it; else the least rule that it breaks, or how many output layer sets it has
abbrev pub TakesVps : ℕ → Item → Result NewVps VpsFault → Type 0
TakesVps o i (Ok NewVps.Repeated) = (least (item_cases i) ≡ None) × (lacking o i ≡ None) × (is_first_vps i ≡ false) × (turns i ≡ false) × (i.at ≡ i.before)
TakesVps o i (Ok (NewVps.First new)) =
    (least (item_cases i) ≡ None) × (lacking o i ≡ None) × (is_first_vps i ≡ true) × (turns i ≡ false) × (i.at ≡ Some (carried_of new)) × IsRead new
TakesVps o i (Ok (NewVps.Changed new)) =
    (least (item_cases i) ≡ None) × (lacking o i ≡ None) × (is_first_vps i ≡ false) × (turns i ≡ true) × (i.at ≡ Some (carried_of new)) × IsRead new
TakesVps o i (Err (VpsFault.Refused rule)) = least (item_cases i) ≡ Some rule
TakesVps o i (Err (VpsFault.NoSuchSet asked count)) =
    (least (item_cases i) ≡ None) × (lacking o i ≡ Some (Objection.NoSuchSet asked count))
TakesVps o i (Err VpsFault.Memory) = ⊤

-- a repeated one is asked for its TemporalId alone, and stays in force
abbrev pub again : ℕ → Result NewVps VpsFault
again tid = if nat_lt 0 tid then Err (VpsFault.Refused Rule.VpsTid) else Ok NewVps.Repeated

-- what is in force from now on is what reads in its payload
abbrev pub IsNewRead : Result NewVps VpsFault → Type 0
IsNewRead (Ok NewVps.Repeated) = ⊤
IsNewRead (Ok (NewVps.First new)) = IsRead new
IsNewRead (Ok (NewVps.Changed new)) = IsRead new
IsNewRead (Err fault) = ⊤

-- a sequence parameter set that breaks no rule: what the unit carries; else the least rule that it breaks
abbrev pub TakesSps : Item → Fact → Result CarriedSpsValue ReadFault → Type 0
TakesSps i f (Ok s) = (least (item_cases i) ≡ None) × (least (set_cases f) ≡ None) × (f.sps_unit ≡ Some (sps_carried i.head.layer s))
TakesSps i f (Err (Refused rule)) = least (item_cases i ++ set_cases f) ≡ Some rule
TakesSps i f (Err out_of_memory) = ⊤

-- a picture parameter set
abbrev pub TakesPps : Item → Fact → Result CarriedPpsValue ReadFault → Type 0
TakesPps i f (Ok p) = (least (set_cases f) ≡ None) × (f.pps_unit ≡ Some (pps_carried i.head.layer p))
TakesPps i f (Err (Refused rule)) = least (set_cases f) ≡ Some rule
TakesPps i f (Err out_of_memory) = ⊤
