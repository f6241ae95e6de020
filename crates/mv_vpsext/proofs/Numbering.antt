-- One output layer set more, with its reorder number.
use Rattle.std.proofs.Common.{◌≡◌, ℕ, List, [], ◌∷◌, ◌++◌, length, map, sym, ap, ap₂, ◌∙◌, arith}
use Rattle.std.specs.List.{enumerate_from}
use Rattle.std.proofs.lemmas.List.{map-append, length-map}
use Rattle.std.proofs.lemmas.List.FromFn.{length-enumerate_from}
use Rattle.mv_layers.specs.Derived.{OlsValue}
use Rattle.mv_layers.specs.OutputLayers.{OlsLayers}
use Rattle.mv_vpssets.specs.DpbSizes.{DpbSetValue}
use Rattle.mv_vpssets.proofs.SetSteps.{numbered_more}
use Rattle.mv_vpsext.specs.Derived.{numbered_ols}

pub ols_more : (sizes : List DpbSetValue) (before : List OlsLayers) (set : OlsLayers) (all new : List OlsValue) (one : OlsValue) (number : ℕ)
    → all ≡ map (numbered_ols sizes) (enumerate_from 0 before) → number ≡ length all → one ≡ numbered_ols sizes (number, set) → new ≡ all ++ one ∷ []
    → new ≡ map (numbered_ols sizes) (enumerate_from 0 (before ++ set ∷ []))
ols_more sizes before set all new one number so_far count is e =
    let counted : length all ≡ length before =
    ap length so_far ∙ length-map (enumerate_from 0 before) (numbered_ols sizes) ∙ length-enumerate_from 0 before in
    e ∙ ap₂ (λ l o. l ++ o ∷ []) so_far is
    ∙ sym (map-append (numbered_ols sizes) (enumerate_from 0 before) ((number, set) ∷ []))
    ∙ ap (map (numbered_ols sizes)) (sym (numbered_more 0 before set number (omega (arith, count, counted))))
