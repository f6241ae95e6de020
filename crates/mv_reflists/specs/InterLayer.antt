-- The inter-layer reference pictures of a picture, by nuh_layer_id (F.8.1.6, G.8.1.3).
use Rattle.std.specs.Prelude.{ℕ, Bool, not, List, map}
use Rattle.std.specs.List.{filter, list_any}
use Rattle.mv_pictures.specs.References.{is_side_of_base}
use Rattle.mv_reflists.specs.declared.inter_layer_sets.Active2.{Active2}

-- RefPicSetInterLayer0 and RefPicSetInterLayer1, by the layers of their pictures
pub record InterLayerSets : Type 0 where
  pub zero : List ℕ
  pub one : List ℕ

-- ViewId of the picture and of layer 0: the reference layer stands on the side of the picture's view on which layer 0 stands
abbrev pub is_zero_side : ℕ → ℕ → Active2 → Bool
is_zero_side view base_view a = is_side_of_base view base_view a.view

abbrev pub is_one_side : ℕ → ℕ → Active2 → Bool
is_one_side view base_view a = not (is_zero_side view base_view a)

-- of the active reference layers those that pass a test, in their order
abbrev pub layers_where : (Active2 → Bool) → List Active2 → List ℕ
layers_where test active = map (λ (a : Active2). a.layer) (filter test active)

unfoldable pub inter_layer_sets : ℕ → ℕ → List Active2 → InterLayerSets
inter_layer_sets view base_view active = record {
  zero = layers_where (is_zero_side view base_view) active;
  one = layers_where (is_one_side view base_view) active;
}

-- MissingInterLayer: an active reference layer has no decoded picture in the access unit
abbrev pub missing_inter_layer : List Active2 → Bool
missing_inter_layer active = list_any (λ (a : Active2). not a.here) active
