-- The reorder number of an output layer set: that of the last sub-layer for which one is coded, at most 15.
use Rattle.std.proofs.Common.{◌≡◌, ℕ, suc, ◌+◌, ◌-◌, ◌<◌, ◌≤◌, Bool, false, List, [], ◌∷◌, ◌++◌, get_or, length, map, take, Option, Some, None, option_map, refl, ap, ◌∙◌, arith}
use Rattle.std.proofs.lemmas.List.{map_more, take_all}
use Rattle.std.proofs.lemmas.Bool.{ltb-false}
use Rattle.mv_syntax.specs.Table.{when, Valid}
use Rattle.mv_syntax.specs.Words.{◌otherwise◌, last_coded, over}
use Rattle.mv_syntax.proofs.LoopLaws.{items-valid}
use Rattle.mv_vpssets.specs.DpbSizes.{DpbNumbersValue, DpbSubLayerValue, DpbSetValue, DpbLayers, dpb_numbers, dpb_sub_layer, dpb_sub_layers, dpb_set, dpb_of_set, dpb_size}
use Rattle.mv_vpssets.proofs.Bounds.{at_each_place}
use Rattle.mv_vpsext.specs.Derived.{no_dpb, coded_reorder, reorder_pics}

-- one value more
pub last_coded-more : {A : Type 0} (os : List (Option A)) (o : Option A) (stated : A) → last_coded (os ++ o ∷ []) stated ≡ o otherwise (last_coded os stated)
last_coded-more [] o stated = refl
last_coded-more (p ∷ os) o stated = last_coded-more os o (p otherwise stated)

pub reorder_more : (subs : List DpbSubLayerValue) (i : ℕ) (d : DpbSubLayerValue) → i < length subs
    → last_coded (map coded_reorder (take (i + 1) subs)) 0 ≡ coded_reorder (get_or subs i d) otherwise (last_coded (map coded_reorder (take i subs)) 0)
reorder_more subs i d h =
    ap (λ os. last_coded os 0) (map_more coded_reorder subs i d h)
    ∙ last_coded-more (map coded_reorder (take i subs)) (coded_reorder (get_or subs i d)) 0

pub reorder_of_all : (subs : List DpbSubLayerValue) (i : ℕ) → length subs ≤ i → last_coded (map coded_reorder (take i subs)) 0 ≡ last_coded (map coded_reorder subs) 0
reorder_of_all subs i h = ap (λ s. last_coded (map coded_reorder s) 0) (take_all i subs h)

pub ruleset reorder_steps = (reorder_more, reorder_of_all)

-- ---- at most 15, in a valid value
at_most : (v : ℕ) → over 15 v ≡ false → v ≤ 15
at_most v h = ltb-false 15 v h

numbers_within : (c : Bool) (necessary : List Bool) (numbers : Option DpbNumbersValue) (below : ℕ) → Valid (when c (dpb_numbers necessary)) numbers → below ≤ 15
    → (option_map (λ (n : DpbNumbersValue). n.max_vps_num_reorder_pics) numbers otherwise below) ≤ 15
unfolding dpb_numbers
numbers_within c necessary None below h low = low
numbers_within c necessary (Some n) below h low = at_most n.max_vps_num_reorder_pics h.1.0.1.0.1

sub_layer_within : (necessary : List Bool) (flag j : ℕ) (s : DpbSubLayerValue) (below : ℕ) → Valid (dpb_sub_layer necessary flag j) s → below ≤ 15
    → (coded_reorder s otherwise below) ≤ 15
unfolding dpb_sub_layer
sub_layer_within necessary flag j s below h low = numbers_within _ necessary s.numbers below h.0.1 low

-- each of some sub-layers from index j on
subs_within : (necessary : List Bool) (flag : ℕ) (subs : List DpbSubLayerValue) (below : ℕ)
    → ((k : ℕ) → k < length subs → (j : ℕ) × Valid (dpb_sub_layer necessary flag j) (get_or subs k (record { sub_layer_dpb_info_present_flag = None; numbers = None })))
    → below ≤ 15 → last_coded (map coded_reorder subs) below ≤ 15
subs_within necessary flag [] below h low = low
subs_within necessary flag (s ∷ subs) below h low =
    let first = h 0 (omega arith) in
    subs_within necessary flag subs (coded_reorder s otherwise below) (λ k lt. h (suc k) (omega arith)) (sub_layer_within necessary flag first.0 s below first.1 low)

set_within : (layers : DpbLayers) (set : DpbSetValue) → Valid (dpb_set layers) set → reorder_pics set ≤ 15
unfolding dpb_set dpb_sub_layers
set_within layers set h =
    subs_within layers.necessary set.sub_layer_flag_info_present_flag set.sub_layers 0
    (λ k lt. (0 + k, items-valid (dpb_sub_layer layers.necessary set.sub_layer_flag_info_present_flag) 0 (layers.greatest + 1) set.sub_layers k (0 + k) _ h.0.1 lt refl))
    (omega arith)

pub reorder_within : (sets : List DpbLayers) (all : List DpbSetValue) → Valid (dpb_size sets) all → (k : ℕ) → reorder_pics (get_or all k no_dpb) ≤ 15
unfolding dpb_size dpb_of_set
reorder_within sets all h k =
    at_each_place (λ set. reorder_pics set ≤ 15) all no_dpb k
    (λ within. set_within _ _ (items-valid (dpb_of_set sets) 1 (length sets - 1) all k (1 + k) no_dpb h within refl))
    (omega arith)
