-- What a store of parameter sets stands for, and which sets it answers (7.4.1.4.1, F.7.4.1.4.1). Histories have the latest
-- first.
use Rattle.std.specs.Prelude.{◌≡◌, ◌+◌, ℕ, Bool, false, ◌&&◌, List, [], ◌∷◌, length, Option, Some, None, option_map, Result, Ok, Err, nat_eq, ⊤}
use Rattle.std.specs.List.{filter_map, find}
use Rattle.mv_syntax.specs.Words.{◌otherwise◌}
use Rattle.mv_rules.specs.declared.rule.Rule.{Rule}
use Rattle.mv_rules.specs.declared.refusal.ReadFault.{ReadFault}
use Rattle.mv_common.specs.declared.format.Format.{Format}
use Rattle.mv_vps.specs.Vps.{WholeVps}
use Rattle.mv_pps.specs.Pps.{PpsValue}
use Rattle.mv_sps.specs.Sps.{SpsValue}
use Rattle.mv_history.specs.History.{since}
use Rattle.mv_pictures.specs.Layers.{whole}
use Rattle.mv_pictures.specs.Carried.{Carried, value_of}
use Rattle.mv_pictures.specs.AccessUnits.{Placed}
use Rattle.mv_pictures.specs.Facts.{Fact, Sets, has_pps_id, has_sps_id, pps_id, turned}
use Rattle.mv_sets.specs.Sets.{ActiveValue, carried_pps, carried_sps}
use Rattle.mv_sets.specs.Numbered.{Numbered, TableValue}
use Rattle.mv_sets.specs.StoreValue.{StoreValue}
use Rattle.mv_sets.specs.Tables.{found}

-- ---- What it stands for

-- the sets of one kind that came since the video parameter set last changed
abbrev pub received : {A : Type 0} → (Fact → Option A) → List Fact → List A
received unit past = filter_map unit (since turned past)

-- each with its number among those before it and itself
unfoldable pub numbered : {A : Type 0} → List A → List (Numbered A)
numbered [] = []
numbered (a ∷ past) = record { number = length past + 1; set = a } ∷ numbered past

-- one of a layer and an id
abbrev pub is_of : {A : Type 0} → (ℕ → A → Bool) → ℕ → ℕ → Numbered (Carried A) → Bool
is_of has_id id layer n = nat_eq layer n.set.layer && (option_map (has_id id) (value_of n.set) otherwise false)

abbrev pub with_number : {A B : Type 0} → (A → B) → Numbered A → Numbered B
with_number as_carried n = record { number = n.number; set = as_carried n.set }

-- a table keeps of each layer and id the latest of the sets that were received
pub record KeepsLatest {S A : Type 0} (as_carried : S → Carried A) (has_id : ℕ → A → Bool) (t : TableValue S) (sets : List (Carried A)) : Type 0 where
  pub count_is : t.count ≡ length sets
  pub entries_are : (id layer : ℕ) → option_map (with_number as_carried) (found t id layer) ≡ find (is_of has_id id layer) (numbered sets)

-- a store stands for a history
pub record Stands (s : StoreValue) (past : List Fact) : Type 0 where
  pub sps : KeepsLatest carried_sps has_sps_id s.sps (received (λ f. f.sps_unit) past)
  pub pps : KeepsLatest carried_pps has_pps_id s.pps (received (λ f. f.pps_unit) past)

-- ---- What comes to it

-- a unit that carries this sequence parameter set
pub record CarriesSps (f : Fact) (layer : ℕ) (payload : List ℕ) (value : SpsValue) : Type 0 where
  pub sps_is : f.sps_unit ≡ Some (record { layer = layer; payload = payload; reading = Ok value })
  pub no_pps : f.pps_unit ≡ None
  pub stays : turned f ≡ false

-- a unit that carries this picture parameter set
pub record CarriesPps (f : Fact) (layer : ℕ) (payload : List ℕ) (value : PpsValue) : Type 0 where
  pub pps_is : f.pps_unit ≡ Some (record { layer = layer; payload = payload; reading = Ok value })
  pub no_sps : f.sps_unit ≡ None
  pub stays : turned f ≡ false

-- ---- What it answers

-- a slice segment of this layer that names this picture parameter set, with the video parameter set in force at it
pub record IsAsked (vps : WholeVps) (layer id : ℕ) (p : Placed) : Type 0 where
  pub vps_is : whole p.item.at ≡ Some vps
  pub layer_is : p.item.head.layer ≡ layer
  pub id_is : pps_id p ≡ Some id

-- the sets, where none lacks, or the rule that refuses the segment
abbrev pub serving : Sets → Result (Carried PpsValue × Carried SpsValue × Format) Rule
serving s = elim (s.pps) [
  | None ↦ Err Rule.MissingPps
  | Some pps ↦ elim (s.sps) [
    | None ↦ Err Rule.MissingSps
    | Some sps ↦ elim (s.format) [
      | None ↦ Err Rule.MissingSps
      | Some format ↦ Ok (pps, sps, format)
    ]
  ]
]

abbrev pub carried_sets : ActiveValue → Carried PpsValue × Carried SpsValue × Format
carried_sets a = (carried_pps a.pps, carried_sps a.sps, a.format)

-- an answer is this one, or want of memory
abbrev pub Gives : Result ActiveValue ReadFault → Result (Carried PpsValue × Carried SpsValue × Format) Rule → Type 0
Gives (Ok active) answer = answer ≡ Ok (carried_sets active)
Gives (Err (ReadFault.Refused rule)) answer = answer ≡ Err rule
Gives (Err ReadFault.Memory) answer = ⊤
