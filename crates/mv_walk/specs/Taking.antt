-- What is answered of a unit behind others, and what is kept then (this project's profile).
use Rattle.std.specs.Prelude.{ℕ, ℤ, ◌+◌, ◌^◌, ◌<◌, ◌≡◌, ⊤, Bool, true, false, List, [], ◌∷◌, ◌++◌, length, reverse, Option, Some, None, option_map, Result, Ok, Err}
use Rattle.mv_units.specs.Rules.{bad_head, unit_rule}
use Rattle.mv_units.specs.Head.{head}
use Rattle.mv_units.specs.declared.head.UnitHead.{UnitHead}
use Rattle.mv_judging.specs.declared.stop.Objection.{Objection}
use Rattle.mv_slice.specs.declared.opening.SliceOpening.{SliceOpening}
use Rattle.mv_pictures.specs.AccessUnits.{begins, number}
use Rattle.mv_pictures.specs.Facts.{Fact, turned}
use Rattle.mv_pictures.specs.History.{history_of}
use Rattle.mv_pictures.specs.Items.{is_first_segment, is_known, items, opening_of}
use Rattle.mv_pictures.specs.Kinds.{is_pps_kind, is_sps_kind}
use Rattle.mv_pictures.specs.Look.{look}
use Rattle.mv_commuting.specs.OneMore.{fact_behind}
use Rattle.mv_au.specs.Tracker as tracker
use Rattle.mv_au.specs.declared.access_units.AuStep.{AuStep}
use Rattle.mv_au.specs.declared.states.PicState.{PicState}
use Rattle.mv_sets.specs.Formats.{SpsFormatFits}
use Rattle.mv_sets.specs.Store as store
use Rattle.mv_sets.specs.StoreValue.{StoreValue}
use Rattle.mv_walk_sets.specs.InForce.{CarriedPpsValue, CarriedSpsValue, VpsInForceValue, pps_carried, sps_carried}
use Rattle.mv_walk_sets.specs.Roles.{Decides, role}
use Rattle.mv_walk_sets.specs.declared.roles.Role.{Role}
use Rattle.mv_walk_sets.specs.declared.vps.NewVps.{NewVps}
use Rattle.mv_walk_laws.specs.Streams.{item_behind, objected, placed_units}
use Rattle.mv_walk.specs.Courses.{Stood}
use Rattle.mv_walk.specs.Decoders.{DecoderStands}
use Rattle.mv_walk.specs.Told.{picture_told}
use Rattle.mv_walk.specs.declared.course.Course.{Course}
use Rattle.mv_walk.specs.declared.ending.Stop.{Stop}

-- it is of this role, and has this head; and what its role decides of the rules on it alone
pub record IsRole (us : List (List ℕ)) (u : List ℕ) (h : UnitHead) (r : Role) : Type 0 where
  pub clean : unit_rule u ≡ None
  pub good : bad_head u ≡ false
  pub low : h.layer < 64
  pub head_is : head u ≡ h
  pub role_is : role (item_behind us u) ≡ Ok r
  pub decides : Decides (item_behind us u) (fact_behind us u) (Ok r)

-- what is told of its picture
abbrev pub told_behind : List (List ℕ) → List ℕ → Option (PicState × Option ℤ)
told_behind us u = picture_told (look (history_of us) (fact_behind us u)) (fact_behind us u)

-- it is accepted and told, and what is kept stands for it too; or it is objected to, by its least rule or for a set that is lacking;
-- a fault of the viewer and want of memory say nothing of it
abbrev pub Takes : {R W P : Type 0} → ℕ → List (List ℕ) → List ℕ → Course R W P → Result (Option (PicState × Option ℤ)) Stop → Type 0
Takes o us u new (Ok told) = (objected o us u ≡ None) × Stood new (us ++ u ∷ []) × (told ≡ told_behind us u)
Takes o us u new (Err (Stop.Breaks rule)) = objected o us u ≡ Some (Objection.Breaks rule)
Takes o us u new (Err (Stop.Lacks asked count)) = objected o us u ≡ Some (Objection.NoSuchSet asked count)
Takes o us u new (Err Stop.View) = ⊤
Takes o us u new (Err Stop.Memory) = ⊤

-- ---- Units that are no slice segments

-- such a unit joins its access unit: the tracker stands for it, and the pictures for those before it, with its access unit; all
-- else that is kept is as it was
pub record Joined {R W P : Type 0} (us : List (List ℕ)) (u : List ℕ) (old new : Course R W P) : Type 0 where
  pub units_are : tracker.Stands new.units (item_behind us u ∷ items (reverse us))
  pub decoder_is : DecoderStands new.decoder new.vps (history_of us) (number (placed_units us) (item_behind us u))
  pub vps_is : new.vps ≡ old.vps
  pub changed_is : new.changed ≡ old.changed
  pub sets_are : new.sets ≡ old.sets
  pub asked_is : new.decoder.asked ≡ old.decoder.asked

abbrev pub step_behind : List (List ℕ) → List ℕ → AuStep
step_behind us u = record { au = number (placed_units us) (item_behind us u); begins = begins (placed_units us) (item_behind us u) }

-- it breaks no rule on access units
abbrev pub Joins : {R W P : Type 0} → List (List ℕ) → List ℕ → Course R W P → Course R W P → Result AuStep Stop → Type 0
Joins us u old new (Ok step) = Joined us u old new × (step ≡ step_behind us u)
Joins us u old new (Err (Stop.Breaks rule)) = ⊥
Joins us u old new (Err (Stop.Lacks asked count)) = ⊥
Joins us u old new (Err Stop.View) = ⊤
Joins us u old new (Err Stop.Memory) = ⊤

-- ---- What a call may ask

-- what is kept stands for some units, behind which such a unit comes
pub record MayTake {R W P : Type 0} (c : Course R W P) (u : List ℕ) (h : UnitHead) (r : Role) : Type 0 where
  pub units : List (List ℕ)
  pub stood : Stood c units
  pub few : length units + 1 < 2 ^ 64
  pub its_role : IsRole units u h r

-- the first fields of a slice segment: whether it is the first one of its picture, and the id of its picture parameter set
pub record Peeks (u : List ℕ) (h : UnitHead) (is_first : Bool) (id : ℕ) : Type 0 where
  pub first_is : is_first_segment (opening_of h u) ≡ is_first
  pub id_is : option_map (λ (o : SliceOpening). o.slice_pic_parameter_set_id) (opening_of h u) ≡ Some id

-- ---- Parameter sets

-- a video parameter set: a repeated one changes nothing; the first one is in force; behind a changed one no set is left too, and
-- its access unit is the latest with one
pub record IsNewVps {R W P : Type 0} (v : VpsInForceValue) (old new : Course R W P) : Type 0 where
  pub vps_is : new.vps ≡ Some v
  pub units_are : new.units ≡ old.units
  pub decoder_is : new.decoder ≡ old.decoder

abbrev pub PutsVps : {R W P : Type 0} → NewVps → ℕ → Course R W P → Course R W P → Type 0
PutsVps NewVps.Repeated au old new = new ≡ record old { last = new.last }
PutsVps (NewVps.First v) au old new = IsNewVps v old new × (new.sets ≡ old.sets) × (new.changed ≡ old.changed)
PutsVps (NewVps.Changed v) au old new =
    IsNewVps v old new × ((past : List Fact) (f : Fact) → turned f ≡ true → store.Stands new.sets (f ∷ past)) × (new.changed ≡ Some au)

-- a sequence parameter set that a store may keep, and a picture parameter set
pub record CanKeepSps (s : StoreValue) (layer : ℕ) (carried : CarriedSpsValue) : Type 0 where
  pub in_layers : layer < 64
  pub id_is : carried.value.0.opening.sps_seq_parameter_set_id < 16
  pub fits : SpsFormatFits carried.value.0
  pub few : s.sps.count + 1 < 2 ^ 64

pub record CanKeepPps (s : StoreValue) (layer : ℕ) (carried : CarriedPpsValue) : Type 0 where
  pub in_layers : layer < 64
  pub id_is : carried.value.0.opening.pps_pic_parameter_set_id < 64
  pub few : s.pps.count + 1 < 2 ^ 64

-- a unit behind others that carries it, and isn't objected to
pub record IsNewSps (o : ℕ) (us : List (List ℕ)) (u : List ℕ) (layer : ℕ) (carried : CarriedSpsValue) : Type 0 where
  pub clean : unit_rule u ≡ None
  pub known : is_known (item_behind us u) ≡ true
  pub kind_is : is_sps_kind (item_behind us u).head.kind ≡ true
  pub layer_is : (item_behind us u).head.layer ≡ layer
  pub carried_is : (fact_behind us u).sps_unit ≡ Some (sps_carried layer carried)
  pub accepted : objected o us u ≡ None

pub record IsNewPps (o : ℕ) (us : List (List ℕ)) (u : List ℕ) (layer : ℕ) (carried : CarriedPpsValue) : Type 0 where
  pub clean : unit_rule u ≡ None
  pub known : is_known (item_behind us u) ≡ true
  pub kind_is : is_pps_kind (item_behind us u).head.kind ≡ true
  pub layer_is : (item_behind us u).head.layer ≡ layer
  pub carried_is : (fact_behind us u).pps_unit ≡ Some (pps_carried layer carried)
  pub accepted : objected o us u ≡ None
