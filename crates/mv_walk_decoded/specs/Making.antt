-- What the steps make of a decoded picture, by its header and what is kept of the layers (8.3, F.8.3).
use Rattle.std.specs.Prelude.{ℕ, ℤ, ◌^◌, Bool, List, length, Option, Some, None, option_and_then, Result, Ok, Err, if◌then◌else◌}
use Rattle.std.specs.Option.{option_or}
use Rattle.mv_rules.specs.declared.rule.Rule.{Rule}
use Rattle.mv_slice.specs.Context.{SliceContextValue}
use Rattle.mv_slice.specs.declared.slice.SliceFull.{SliceFull}
use Rattle.mv_slice.specs.declared.slice.SliceHead.{SliceHead}
use Rattle.mv_pictures.specs.Layers.{InForce, view}
use Rattle.mv_dpb.specs.declared.held.Held.{Held as InBuffer}
use Rattle.mv_rps.specs.declared.counts.PocAsk.{PocAsk}
use Rattle.mv_rps.specs.Asked.{counted}
use Rattle.mv_rps.specs.RefSet.{RefSetValue, entries_of, refusal}
use Rattle.mv_rps.specs.Resolving.{is_after, is_before, is_long, missing, part}
use Rattle.mv_reflists.specs.declared.inter_layer_sets.Active2.{Active2}
use Rattle.mv_reflists.specs.declared.sizes.Sizes.{Sizes}
use Rattle.mv_reflists.specs.InterLayer.{InterLayerSets, inter_layer_sets, missing_inter_layer}
use Rattle.mv_reflists.specs.Rules.{list_rule}
use Rattle.mv_reflists.specs.Sizes.{total}
use Rattle.mv_walk_layer.specs.LayerValue.{LayerValue, found}
use Rattle.mv_walk_order.specs.OrderValues.{OrdersValue}
use Rattle.mv_walk_order.specs.OrderSteps.{counted_with, late_set, refusal as late_refusal}
use Rattle.mv_walk_decoded.specs.Asked.{rule_if}

-- the rule of an answer
abbrev pub rule_of : {A : Type 0} → Result A Rule → Option Rule
rule_of (Ok v) = None
rule_of (Err rule) = Some rule

-- ---- References

-- the set of a picture with a count
abbrev pub set_by : SliceContextValue → SliceHead → ℤ → RefSetValue
set_by ctx header count = record { entries = entries_of ctx header; max_lsb = 2 ^ ctx.lsb_bits; current = count }

-- IrapRefers, TooManyRefs and MissingRef
abbrev pub set_refuses : ℕ → RefSetValue → List InBuffer → Option Rule
set_refuses kind set held = option_or (refusal kind set.entries) (missing set held)

-- the same behind the rules on counts
abbrev pub after_count : ℕ → SliceContextValue → SliceHead → List InBuffer → Result ℤ Rule → Option Rule
after_count kind ctx header held (Err rule) = Some rule
after_count kind ctx header held (Ok count) = set_refuses kind (set_by ctx header count) held

-- of a layer's pictures the rule that refuses a picture by its count and its set
abbrev pub references_refuse : {P : Type 0} → LayerValue P → PocAsk → SliceContextValue → SliceHead → Option Rule
references_refuse own asked ctx header = after_count asked.kind ctx header (found asked.start own) (counted own.counts asked)

-- ---- Inter-layer references

-- MissingInterLayer
abbrev pub layers_refuse : List Active2 → Option Rule
layers_refuse actives = rule_if Rule.MissingInterLayer (missing_inter_layer actives)

abbrev pub sets_between : InForce → ℕ → List Active2 → InterLayerSets
sets_between at layer actives = inter_layer_sets (view at layer) (view at 0) actives

-- ---- Lists

-- how many references there are of each part
abbrev pub sizes_by : RefSetValue → List InBuffer → InterLayerSets → Sizes
sizes_by set held between = record {
  before = length (part is_before set held);
  after = length (part is_after set held);
  long = length (part is_long set held);
  zero = length between.zero;
  one = length between.one;
}

-- ListEntry, NoRefs and Collocated of a full header
abbrev pub lists_refuse : Sizes → SliceContextValue → Option SliceFull → Option Rule
lists_refuse sizes ctx full = option_and_then (list_rule (total sizes) ctx) full

-- ---- Output order

-- reorder of a picture that may be put out
abbrev pub order_refuses : Bool → OrdersValue → ℕ → ℤ → Option Rule
order_refuses put_out order layer count =
    if put_out then rule_of (late_refusal (late_set order.sets order.check layer count (length order.sets))) else None

abbrev pub order_after : Bool → OrdersValue → ℕ → ℕ → ℤ → OrdersValue
order_after put_out order layer au count = if put_out then counted_with layer au count order else order
