-- What is within limits in a valid sequence parameter set: a reorder number of at most 15.
use Rattle.std.proofs.Common.{ℕ, suc, ◌+◌, ◌-◌, ◌<◌, ◌≤◌, Bool, not, List, [], ◌∷◌, length, get_or, Option, Some, None, refl, arith}
use Rattle.std.specs.Prelude.{option_map}
use Rattle.std.specs.List.{last_or}
use Rattle.std.proofs.lemmas.Bool.{ltb-false}
use Rattle.mv_syntax.specs.Table.{Valid, when}
use Rattle.mv_syntax.specs.Words.{◌otherwise◌, ◌under◌}
use Rattle.mv_syntax.specs.Payload.{ValidPayload}
use Rattle.mv_syntax.specs.Loops.{each}
use Rattle.mv_syntax.proofs.LoopLaws.{items-valid}
use Rattle.mv_rules.specs.declared.rule.Rule.TheVariants.{SpsLimit}
use Rattle.mv_common.specs.declared.sub_layer_ordering.ParameterSet.TheVariants.{Sequence}
use Rattle.mv_common.specs.declared.sub_layer_ordering.SubLayer.{SubLayer}
use Rattle.mv_common.specs.SubLayerOrdering.{SubLayerOrderingValue, first_coded, sub_layer, sub_layer_ordering, sub_layers}
use Rattle.mv_sps.specs.Pictures.{SpsPicturesValue, pictures}
use Rattle.mv_sps.specs.Sps.{SpsValue, behind_opening, sps_fields, sps_payload}
use Rattle.mv_walk_order.specs.OrderSteps.{last_reorder, reorder_in}

no_sub_layer : SubLayer
no_sub_layer = record { max_dec_pic_buffering_minus1 = 0; max_num_reorder_pics = 0; max_latency_increase_plus1 = 0 }

one_low : (s : SubLayer) → Valid (sub_layer Sequence) s → s.max_num_reorder_pics ≤ 15
unfolding sub_layer
one_low s h = ltb-false 15 s.max_num_reorder_pics h.0.1.0.1

last_low : (x : SubLayer) (xs : List SubLayer) → ((k : ℕ) → k < length (x ∷ xs) → (get_or (x ∷ xs) k no_sub_layer).max_num_reorder_pics ≤ 15)
    → (option_map (λ (s : SubLayer). s.max_num_reorder_pics) (last_or (Some x) xs) otherwise 0) ≤ 15
last_low x [] h = h 0 (omega arith)
last_low x (y ∷ ys) h = last_low y ys (λ k lt. h (suc k) (omega (arith, lt)))

all_low : (xs : List SubLayer) → ((k : ℕ) → k < length xs → (get_or xs k no_sub_layer).max_num_reorder_pics ≤ 15) → last_reorder xs ≤ 15
all_low [] h = omega arith
all_low (x ∷ xs) h = last_low x xs h

ordering_low : (subs : ℕ) (o : SubLayerOrderingValue) → Valid (sub_layer_ordering Sequence subs) o → last_reorder o.sub_layers ≤ 15
unfolding sub_layer_ordering sub_layers each
ordering_low subs o h =
    all_low o.sub_layers (λ k within. one_low (get_or o.sub_layers k no_sub_layer)
    (items-valid (each (sub_layer Sequence)) (first_coded o.sub_layer_ordering_info_present_flag subs) (subs + 1 - first_coded o.sub_layer_ordering_info_present_flag subs) o.sub_layers k
    (first_coded o.sub_layer_ordering_info_present_flag subs + k) no_sub_layer h.0.1 within refl))

low_if : (c : Bool) (subs : ℕ) (o : Option SubLayerOrderingValue) → Valid (when c (sub_layer_ordering Sequence subs under SpsLimit)) o
    → (option_map (λ (o : SubLayerOrderingValue). last_reorder o.sub_layers) o otherwise 0) ≤ 15
low_if c subs None h = omega arith
low_if c subs (Some o) h = ordering_low subs o h.1

pictures_low : (ext : Bool) (subs : ℕ) (v : SpsPicturesValue) → Valid (pictures ext subs) v → (option_map (λ (o : SubLayerOrderingValue). last_reorder o.sub_layers) v.ordering otherwise 0) ≤ 15
unfolding pictures
pictures_low ext subs v h = low_if (not ext) subs v.ordering h.0.1.1.1

pub reorder_low : (layer vps_sub_layers : ℕ) (v : SpsValue × Option (List Bool)) → ValidPayload (sps_payload layer vps_sub_layers) v → reorder_in v.0 ≤ 15
unfolding sps_payload sps_fields behind_opening
reorder_low layer vps_sub_layers v h = pictures_low _ _ v.0.pictures h.fields.0.1.0
