use Rattle.std.proofs.Common.{◌∙◌, ap, sym}
use Rattle.std.specs.Option.{option_copied}
use Rattle.mv_pictures.specs.Layers.{keeps}
use Rattle.mv_walk_sets.specs.InForce.{VpsInForceValue, in_force}
use Rattle.mv_walk_sets.specs.Steps.{kept_in}
use Rattle.mv_walk_sets.proofs.LayerLaws.{keeps_some}
use Rattle.mv_walk_sets.proofs.in_force.keeps.Goals as goal

pub returns-in-None : goal.returns-in-None
unfolding keeps in_force
returns-in-None c = ap (λ o. keeps c.args.ols (in_force (option_copied o)) c.args.layer) (sym c.in-None.is)

pub returns-in-Some : goal.returns-in-Some
returns-in-Some c =
    c.keeps_in.ensures
    ∙ ap (λ (v : VpsInForceValue). kept_in v.value c.args.ols c.args.layer) c.vps.view_is
    ∙ keeps_some c.in-Some.vps.now c.args.ols c.args.layer
    ∙ ap (λ o. keeps c.args.ols (in_force (option_copied o)) c.args.layer) (sym c.in-Some.is)
