-- What is said of a layer by what is in force.
use Rattle.std.proofs.Common.{◌≡◌, ℕ, Bool, true, false, ◌||◌, List, [], ◌∷◌, Some, refl, sym, ap, cond}
use Rattle.std.specs.Prelude.{is_some, option_map}
use Rattle.std.specs.List.{find, list_any}
use Rattle.mv_syntax.specs.Words.{◌otherwise◌}
use Rattle.mv_layers.specs.LayerInfos.{LayerInfoValue, directs_of, is_layer}
use Rattle.mv_vps.specs.Vps.{WholeVps}
use Rattle.mv_pictures.specs.Layers.{InForce, directs, keeps, knows, layers_at, set_at, sets_at, view, whole}
use Rattle.mv_walk_sets.specs.InForce.{VpsInForceValue, in_force}
use Rattle.mv_walk_sets.specs.Steps.{directs_in, has_layer, kept_in, view_in}

find_any : {A : Type 0} (p : A → Bool) (xs : List A) → is_some (find p xs) ≡ list_any p xs
find_any p [] = refl
find_any {A} p (x ∷ xs) = go (p x) (find_any p xs)
  where
    go : (b : Bool) → is_some (find p xs) ≡ list_any p xs → is_some (cond b (Some x) (find p xs)) ≡ (b || list_any p xs)
    go true rest = refl
    go false rest = rest

pub knows_some : (v : VpsInForceValue) (layer : ℕ) → has_layer v.value layer ≡ knows (in_force (Some v)) layer
unfolding knows in_force
knows_some v layer = find_any (is_layer layer) v.value.derived.layers

pub keeps_some : (v : VpsInForceValue) (o layer : ℕ) → kept_in v.value o layer ≡ keeps o (in_force (Some v)) layer
unfolding keeps in_force set_at sets_at
keeps_some v o layer = refl

pub view_is : (at : InForce) (v : WholeVps) (layer : ℕ) → whole at ≡ Some v → view_in v layer ≡ view at layer
unfolding view layers_at
view_is at v layer e =
    ap (λ w. option_map (λ (info : LayerInfoValue). info.view_id) (find (is_layer layer) (option_map (λ (x : WholeVps). x.derived.layers) w otherwise [])) otherwise 0) (sym e)

pub directs_is : (at : InForce) (v : WholeVps) (layer : ℕ) → whole at ≡ Some v → directs_in v layer ≡ directs at layer
unfolding directs layers_at
directs_is at v layer e = ap (λ w. directs_of (option_map (λ (x : WholeVps). x.derived.layers) w otherwise []) layer) (sym e)
