use Rattle.std.proofs.Common.{◌≡◌, ℕ, List, [], ◌∷◌, map, IfOk, refl, ap, subst, ◌∙◌}
use Rattle.mv_pictures.specs.Layers.{InForce}
use Rattle.mv_walk_layer.specs.LayerValue.{LayerValue}
use Rattle.mv_walk_decoded.specs.Actives.{active_at, active_named, in_place, named}
use Rattle.mv_walk_decoded.proofs.actives.actives_of.Goals as goal

all-named : {P : Type 0} (layers : List (LayerValue P)) (at : InForce) (au : ℕ) (ds ns : List ℕ) → map (active_named layers at au ds) ns ≡ map (active_at layers at au) (named ds ns)
all-named layers at au ds [] = refl
all-named layers at au ds (n ∷ ns) = ap (λ xs. active_named layers at au ds n ∷ xs) (all-named layers at au ds ns)

pub returns-clause-is : goal.returns-clause-is
returns-clause-is g c =
    subst (λ xs. IfOk c.actives_among.result (λ v. v.items ≡ xs))
    (ap (λ ds. map (active_named c.args.layers.now (in_place c.args.vps.now) c.args.au ds) c.args.numbers.now) (c.directs.ensures (in_place c.args.vps.now) refl)
    ∙ all-named c.args.layers.now (in_place c.args.vps.now) c.args.au _ c.args.numbers.now)
    c.actives_among.ensures.is
