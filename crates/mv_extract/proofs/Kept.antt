-- What is kept, by the sets of the video parameter set in force.
use Rattle.std.proofs.Common.{◌≡◌, ℕ, Bool, [], Option, None, Some, ap, sym, ◌∙◌}
use Rattle.std.specs.Prelude.{option_map, slice_get, nat_eq}
use Rattle.mv_syntax.specs.Words.{◌otherwise◌}
use Rattle.mv_layers.specs.Derived.{OlsValue, is_kept}
use Rattle.mv_vps.specs.Vps.{WholeVps}
use Rattle.mv_pictures.specs.Layers.{InForce, keeps, set_at, sets_at, whole}

-- whether a layer is kept for a set that may be there
abbrev kept_for : Option OlsValue → ℕ → Bool
kept_for set layer = option_map (λ (s : OlsValue). is_kept s layer) set otherwise nat_eq layer 0

pub keeps-is : (at : InForce) (v : WholeVps) (o layer : ℕ) (set : Option OlsValue) → whole at ≡ Some v → set ≡ slice_get v.derived.sets o → keeps o at layer ≡ kept_for set layer
unfolding keeps set_at sets_at
keeps-is None v o layer set e is = absurd (cc)
keeps-is (Some c) v o layer set e is =
    ap (λ (w : Option WholeVps). kept_for (slice_get (option_map (λ (x : WholeVps). x.derived.sets) w otherwise []) o) layer) e
    ∙ ap (λ s. kept_for s layer) (sym is)
