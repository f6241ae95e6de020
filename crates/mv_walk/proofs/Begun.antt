-- What is kept of a layer where a decoded picture of it begins.
use Rattle.std.proofs.Common.{◌≡◌, ◌<◌, ℕ, Bool, List, length, ap, sym, subst, ◌∙◌, arith}
use Rattle.std.specs.Prelude.{All, get_or, slice_set}
use Rattle.std.proofs.lemmas.List.{get_or-set_same, set-get_or}
use Rattle.mv_dpb.specs.declared.held.Keep.{Keep}
use Rattle.mv_walk_layer.specs.LayerValue.{LatestValue, LayerValue, no_pictures, with_decoded}
use Rattle.mv_walk.specs.Decoders.{layer_at}

-- a place within a list has one value, whatever is told beside it
at-list : {A : Type 0} (xs : List A) (i : ℕ) (d e : A) → i < length xs → get_or xs i d ≡ get_or xs i e
at-list xs i d e lt = sym (get_or-set_same xs i (get_or xs i d) e lt) ∙ ap (λ ys. get_or ys i e) (set-get_or xs i d)

-- the layer is found at its number
layer-here : {P : Type 0} (kept : List (LayerValue P)) (j k : ℕ) (found : LayerValue P) → length kept ≡ 64 → k < 64 → j ≡ k → found ≡ get_or kept j found → found ≡ layer_at kept k
layer-here kept j k found all low same is = is ∙ ap (λ i. get_or kept i found) same ∙ at-list kept k found no_pictures (omega arith)

pub within-here : {P : Type 0} (kept : List (LayerValue P)) (j k : ℕ) (found : LayerValue P) (keep : List Keep) → length kept ≡ 64 → k < 64 → j ≡ k → found ≡ get_or kept j found →
    All (λ (it : Keep). it.place < length (layer_at kept k).buffer) keep → All (λ (it : Keep). it.place < length found.buffer) keep
within-here {P} kept j k found keep all low same is within =
    subst (λ (l : LayerValue P). All (λ (it : Keep). it.place < length l.buffer) keep) (sym (layer-here kept j k found all low same is)) within

pub layers-begun : {P : Type 0} (kept : List (LayerValue P)) (j k : ℕ) (found after : LayerValue P) (start : Bool) (kept_of keep : List Keep) (latest told : LatestValue) → length kept ≡ 64 → k < 64 → j ≡ k → found ≡ get_or kept j found →
    after ≡ with_decoded start kept_of told found → kept_of ≡ keep → told ≡ latest → slice_set kept j after ≡ slice_set kept k (with_decoded start keep latest (layer_at kept k))
layers-begun {P} kept j k found after start kept_of keep latest told all low same is made keeps telling =
    ap (λ i. slice_set kept i after) same
    ∙ ap (slice_set kept k) (made ∙ ap (λ ks. with_decoded start ks told found) keeps ∙ ap (λ (t : LatestValue). with_decoded start keep t found) telling ∙ ap (with_decoded start keep latest) (layer-here kept j k found all low same is))
