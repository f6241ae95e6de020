-- How what is kept of output layer sets goes on by a sequence's start and by a picture.
use Rattle.std.specs.Prelude.{ℕ, ◌≤◌, zero, suc, ℤ, Bool, ◌&&◌, List, [], length, get_or, slice_set, Option, Some, None, option_map, Result, Ok, Err, ⊤, if◌then◌else◌}
use Rattle.std.specs.List.{find, last_or, range_with_len}
use Rattle.mv_syntax.specs.Words.{◌otherwise◌}
use Rattle.mv_rules.specs.declared.rule.Rule.{Rule}
use Rattle.mv_common.specs.declared.sub_layer_ordering.SubLayer.{SubLayer}
use Rattle.mv_common.specs.SubLayerOrdering.{SubLayerOrderingValue}
use Rattle.mv_layers.specs.Derived.{OlsValue}
use Rattle.mv_layers.specs.OutputLayers.{is_among}
use Rattle.mv_sps.specs.Sps.{SpsValue}
use Rattle.mv_dpb.specs.OrderValue.{OrderValue}
use Rattle.mv_dpb.specs.SetOrder.{begun, comes_late, order_of, with_unit}
use Rattle.mv_walk_order.specs.OrderValues.{OrdersValue, SetValue}

-- sps_max_num_reorder_pics of the greatest sub-layer
abbrev pub last_reorder : List SubLayer → ℕ
last_reorder sub_layers = option_map (λ (s : SubLayer). s.max_num_reorder_pics) (last_or None sub_layers) otherwise 0

abbrev pub reorder_in : SpsValue → ℕ
reorder_in sps = option_map (λ (o : SubLayerOrderingValue). last_reorder o.sub_layers) sps.pictures.ordering otherwise 0

-- a set, with the number of a sequence parameter set where it has none of its own
abbrev pub set_value : ℕ → OlsValue → SetValue
set_value number set = record { outputs = set.outputs; reorder = set.reorder otherwise number }

-- a set is within the limits
abbrev pub FitsSet : ℕ → OlsValue → Type 0
FitsSet number set = ((set.reorder otherwise number) ≤ 15) × (length set.outputs ≤ 64)

-- where there is no set of a number
abbrev pub no_set : SetValue
no_set = record { outputs = []; reorder = 0 }

abbrev pub no_ols : OlsValue
no_ols = record { layers = []; outputs = []; necessary = []; reorder = Some 0 }

abbrev pub set_of : List SetValue → ℕ → SetValue
set_of sets o = get_or sets o no_set

abbrev pub puts_out : List SetValue → ℕ → ℕ → Bool
puts_out sets o layer = is_among (set_of sets o).outputs layer

-- the first n sets begin
abbrev pub begun_upto : List SetValue → ℕ → List OrderValue → List OrderValue
begun_upto sets zero check = check
begun_upto sets (suc n) check = slice_set (begun_upto sets n check) n (begun (set_of sets n).reorder)

-- what a sequence with these sets begins with
abbrev pub begun_with : List SetValue → OrdersValue → OrdersValue
begun_with sets s = record { check = begun_upto sets (length sets) s.check; sets = sets }

-- a picture of a layer comes late for a set
abbrev pub is_late_in : List SetValue → List OrderValue → ℕ → ℤ → ℕ → Bool
is_late_in sets check layer count o = puts_out sets o layer && comes_late (order_of check o) count

-- it is counted for one set, and for the first n sets
abbrev pub counted_in : List SetValue → ℕ → ℕ → ℤ → ℕ → List OrderValue → List OrderValue
counted_in sets layer au count o check = if puts_out sets o layer then slice_set check o (with_unit (order_of check o) au count) else check

abbrev pub counted_upto : List SetValue → ℕ → ℕ → ℤ → ℕ → List OrderValue → List OrderValue
counted_upto sets layer au count zero check = check
counted_upto sets layer au count (suc n) check = counted_in sets layer au count n (counted_upto sets layer au count n check)

-- of the first n sets the least for which it comes late
abbrev pub late_set : List SetValue → List OrderValue → ℕ → ℤ → ℕ → Option ℕ
late_set sets check layer count n = find (is_late_in sets check layer count) (range_with_len 0 n)

abbrev pub refusal : Option ℕ → Result ⊤ Rule
refusal None = Ok tt
refusal (Some o) = Err (Rule.Reorder o)

-- a picture is counted for the sets before the one that refuses it
abbrev pub counted_with : ℕ → ℕ → ℤ → OrdersValue → OrdersValue
counted_with layer au count s =
    let n : ℕ = late_set s.sets s.check layer count (length s.sets) otherwise length s.sets in
    record { check = counted_upto s.sets layer au count n s.check; sets = s.sets }
