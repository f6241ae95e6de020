-- What is kept of output layer sets stands for a history (C.5.2). Histories have the latest first.
use Rattle.std.specs.Prelude.{◌≡◌, ℕ, ◌<◌, ◌≤◌, ℤ, Bool, true, List, [], ◌∷◌, All, length, map, Option, Some, option_and_then, Result, ⊤, nat_eq, if◌then◌else◌}
use Rattle.std.specs.List.{filter, find, list_any, range_with_len}
use Rattle.mv_history.specs.History.{Throughout}
use Rattle.mv_rules.specs.declared.rule.Rule.{Rule}
use Rattle.mv_dpb.specs.declared.set_order.Counted.{Counted}
use Rattle.mv_dpb.specs.SetOrder.{order_after, order_of}
use Rattle.mv_sps.specs.Sps.{SpsValue}
use Rattle.mv_vps.specs.Vps.{WholeVps}
use Rattle.mv_pictures.specs.Carried.{Carried, value_of}
use Rattle.mv_pictures.specs.Layers.{InForce, sets_at, whole}
use Rattle.mv_pictures.specs.Facts.{Fact}
use Rattle.mv_pictures.specs.SliceFields.{is_put_out}
use Rattle.mv_pictures.specs.Judged.{Judged, au, begins, layer, vps_at}
use Rattle.mv_pictures.specs.Look.{look, sequence}
use Rattle.mv_pictures.specs.Starts.{is_sequence_start}
use Rattle.mv_pictures.specs.Output.{count_of, is_late, is_output, sequence_before, sps_reorder}
use Rattle.mv_walk_order.specs.OrderValues.{OrdersValue, SetValue}
use Rattle.mv_walk_order.specs.OrderSteps.{refusal, set_of, set_value}

-- ---- Access units that have an output picture

-- a picture's access unit, with the picture's count
abbrev pub unit_of : Judged → Counted
unit_of d = record { au = au d.fact; count = count_of d }

abbrev pub is_unit : ℕ → Counted → Bool
is_unit n unit = nat_eq unit.au n

-- access units, each once
unfoldable pub each_once : List Counted → List Counted
each_once [] = []
each_once (unit ∷ units) = if list_any (is_unit unit.au) units then each_once units else unit ∷ each_once units

-- the access units of some pictures that have an output picture of set o
unfoldable pub output_units : ℕ → List Judged → List Counted
output_units o pictures = each_once (map unit_of (filter (is_output o) pictures))

-- ---- What is kept

-- the sets of a video parameter set, and of set 0 the number of a sequence parameter set
abbrev pub sets_of : InForce → Option (Carried SpsValue) → List SetValue
sets_of at sps = map (set_value (sps_reorder sps)) (sets_at at)

-- what is kept are these sets, and of each its order behind these units of the sequence
pub record Holds (s : OrdersValue) (at : InForce) (sps : Option (Carried SpsValue)) (units : List Judged) : Type 0 where
  pub all : length s.check ≡ 64
  pub few : length s.sets ≤ 64
  pub sets_are : s.sets ≡ sets_of at sps
  pub orders_are : (o : ℕ) → o < length s.sets → order_of s.check o ≡ order_after (set_of s.sets o).reorder (output_units o units)

-- the base picture that starts the latest sequence, and its sets
abbrev pub root : List Judged → Option Judged
root past = find begins past

-- it stands for a history: the sets are those of the latest sequence
abbrev pub Stands : OrdersValue → List Judged → Type 0
Stands s past =
    Holds s (option_and_then (λ (d : Judged). vps_at d.fact) (root past)) (option_and_then (λ (d : Judged). d.fact.sets.sps) (root past)) (sequence past)

-- it stands for what a picture is judged by: the sets are those of the picture's sequence, which it may start
abbrev pub StandsBefore : OrdersValue → List Judged → Judged → Type 0
StandsBefore s past d = Holds s d.seq_vps d.seq_sps (sequence_before past d)

-- ---- What is asked

-- a base picture that starts a sequence, with these parameter sets
pub record IsBegun (vps : WholeVps) (sps : SpsValue) (past : List Judged) (p : Fact) : Type 0 where
  pub starts : is_sequence_start (look past p) p ≡ true
  pub vps_is : whole (vps_at p) ≡ Some vps
  pub sps_is : option_and_then value_of p.sets.sps ≡ Some sps

-- a decoded picture that may be put out
pub record IsShown (n unit : ℕ) (count : ℤ) (d : Judged) : Type 0 where
  pub decoded : d.decoded ≡ true
  pub put_out : is_put_out d.fact ≡ true
  pub layer_is : layer d.fact ≡ n
  pub unit_is : au d.fact ≡ unit
  pub count_is : d.count ≡ Some count

-- a unit is of no earlier access unit than those before it, and the decoded pictures of its access unit have its count
pub record IsSteady (past : List Judged) (d : Judged) : Type 0 where
  pub rises : All (λ (e : Judged). au e.fact ≤ au d.fact) past
  pub one_count : d.decoded ≡ true → All (λ (e : Judged). e.decoded ≡ true → au e.fact ≡ au d.fact → count_of e ≡ count_of d) past

-- all units so far are such
abbrev pub AreSteady : List Judged → Type 0
AreSteady = Throughout IsSteady

-- the least set for which a picture is late refuses it
abbrev pub answer : List Judged → Judged → Result ⊤ Rule
answer past d = refusal (find (λ o. is_late o past d) (range_with_len 0 (length (sets_at d.seq_vps))))
