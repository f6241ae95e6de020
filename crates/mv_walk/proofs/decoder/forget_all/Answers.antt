use Rattle.std.proofs.Common.{◌≡◌, ◌≤◌, ◌++◌, ◌∷◌, [], ℕ, List, arith, ap, ◌∙◌, drop, length, map, refl, replicate, set, take}
use Rattle.std.proofs.lemmas.List.{append-nil, drop_all, take_all}
use Rattle.std.proofs.lemmas.List.Edits.{map_over_more}
use Rattle.mv_walk_layer.specs.LayerValue.{no_pictures}
use Rattle.mv_walk.proofs.decoder.forget_all.Goals as goal

-- each is this one
blank : {X : Type 0} (y : X) (xs : List X) → map (λ (x : X). y) xs ≡ replicate (length xs) y
blank y [] = refl
blank y (x ∷ xs) = ap (λ zs. y ∷ zs) (blank y xs)

all-blank : {X : Type 0} (y : X) (xs ys : List X) (i : ℕ) → length xs ≤ i → ys ≡ map (λ (x : X). y) (take i xs) ++ drop i xs → ys ≡ replicate (length xs) y
all-blank {X} y xs ys i all h =
    h
    ∙ ap (λ (zs : List X). map (λ (x : X). y) zs ++ drop i xs) (take_all i xs all)
    ∙ ap (λ (zs : List X). map (λ (x : X). y) xs ++ zs) (drop_all i xs all)
    ∙ append-nil (map (λ (x : X). y) xs)
    ∙ blank y xs

pub loop-layer-preserved : goal.loop-layer-preserved
loop-layer-preserved g c =
    ap (λ layer. set c.loop-layer.layers c.loop-layer.layer-index layer) c.forget.ensures
    ∙ map_over_more (λ layer. no_pictures) c.args.layers.now c.loop-layer.layers c.loop-layer.layer-index c.layer-item.result (omega (arith, c.loop-layer-test.true)) c.loop-layer.invariant c.layer-item.is

pub returns : goal.returns
returns g c = all-blank no_pictures c.args.layers.now c.loop-layer.layers c.loop-layer.layer-index c.loop-layer-test.false c.loop-layer.invariant
