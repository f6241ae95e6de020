-- The active reference layers of a picture, by what is kept of the layers (F.7.4.7.1, F.8.1.6).
use Rattle.std.specs.Prelude.{ℕ, Bool, false, not, ◌&&◌, List, [], map, get_or, slice_get, Option, Some, Ok, is_some, option_and_then, option_map}
use Rattle.std.specs.Option.{option_or}
use Rattle.std.specs.List.{list_any}
use Rattle.mv_syntax.specs.Words.{◌otherwise◌}
use Rattle.mv_rules.specs.declared.rule.Rule.{Rule}
use Rattle.mv_common.specs.declared.format.Format.{Format}
use Rattle.mv_vps.specs.Vps.{WholeVps}
use Rattle.mv_pictures.specs.Layers.{InForce, directs, view}
use Rattle.mv_pictures.specs.PictureRules.{same_format}
use Rattle.mv_reflists.specs.declared.inter_layer_sets.Active2.{Active2}
use Rattle.mv_walk_layer.specs.LayerValue.{LatestValue, LayerValue, is_other_sps, latest_here, no_pictures}
use Rattle.mv_walk_decoded.specs.Asked.{rule_if}

-- a video parameter set as one in force
abbrev pub in_place : WholeVps → InForce
in_place vps = Some (record { layer = 0; payload = []; reading = Ok vps })

-- what is kept of a layer, and its decoded picture in an access unit
abbrev pub layer_of : {P : Type 0} → List (LayerValue P) → ℕ → LayerValue P
layer_of layers n = get_or layers n no_pictures

abbrev pub here : {P : Type 0} → List (LayerValue P) → ℕ → ℕ → Option LatestValue
here layers au n = option_and_then (latest_here au) (slice_get layers n)

abbrev pub active_at : {P : Type 0} → List (LayerValue P) → InForce → ℕ → ℕ → Active2
active_at layers at au n = record { layer = n; view = view at n; here = is_some (here layers au n) }

-- the same by its number among the direct reference layers
abbrev pub active_named : {P : Type 0} → List (LayerValue P) → InForce → ℕ → List ℕ → ℕ → Active2
active_named layers at au directs number = active_at layers at au (get_or directs number 0)

-- the reference layers with these numbers among the direct ones
abbrev pub named : List ℕ → List ℕ → List ℕ
named directs numbers = map (λ number. get_or directs number 0) numbers

abbrev pub actives_at : {P : Type 0} → List (LayerValue P) → InForce → ℕ → ℕ → List ℕ → List Active2
actives_at layers at layer au numbers = map (active_at layers at au) (named (directs at layer) numbers)

-- FormatDiffers: a picture of the access unit that is actively referred to has another format
abbrev pub is_of_other_format : Format → LatestValue → Bool
is_of_other_format format latest = not (same_format format latest.format)

abbrev pub has_other_format : {P : Type 0} → List (LayerValue P) → ℕ → Format → ℕ → Bool
has_other_format layers au format n = option_map (is_of_other_format format) (here layers au n) otherwise false

abbrev pub format_differs : {P : Type 0} → List (LayerValue P) → ℕ → Format → List Active2 → Bool
format_differs layers au format actives = list_any (λ (a : Active2). has_other_format layers au format a.layer) actives

-- SpsChanged: the picture is no start, and its layer's decoded picture before has another sequence parameter set
abbrev pub sps_changes : {P : Type 0} → LayerValue P → List ℕ → Bool → Bool
sps_changes own payload start = not start && is_other_sps payload own

-- the first of both that refuses the picture
abbrev pub sets_refuse : {P : Type 0} → List (LayerValue P) → ℕ → List ℕ → Bool → ℕ → Format → List Active2 → Option Rule
sets_refuse layers layer payload start au format actives =
    option_or (rule_if Rule.SpsChanged (sps_changes (layer_of layers layer) payload start)) (rule_if Rule.FormatDiffers (format_differs layers au format actives))
