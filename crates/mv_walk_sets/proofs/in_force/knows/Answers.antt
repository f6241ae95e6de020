use Rattle.std.proofs.Common.{◌∙◌, ap, sym}
use Rattle.std.specs.Option.{option_copied}
use Rattle.mv_pictures.specs.Layers.{knows}
use Rattle.mv_walk_sets.specs.InForce.{VpsInForceValue, in_force}
use Rattle.mv_walk_sets.specs.Steps.{has_layer}
use Rattle.mv_walk_sets.proofs.LayerLaws.{knows_some}
use Rattle.mv_walk_sets.proofs.in_force.knows.Goals as goal

pub returns-in-None : goal.returns-in-None
unfolding knows in_force
returns-in-None c = ap (λ o. knows (in_force (option_copied o)) c.args.layer) (sym c.in-None.is)

pub returns-in-Some : goal.returns-in-Some
returns-in-Some c =
    c.has_layer.ensures
    ∙ ap (λ (v : VpsInForceValue). has_layer v.value c.args.layer) c.vps.view_is
    ∙ knows_some c.in-Some.vps.now c.args.layer
    ∙ ap (λ o. knows (in_force (option_copied o)) c.args.layer) (sym c.in-Some.is)
