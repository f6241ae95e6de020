use Rattle.std.proofs.Common.{take, option_map}
use Rattle.mv_vpssets.specs.Sets.{dpb_layers}
use Rattle.mv_vpssets.proofs.SetLayerLaws.{dpb_layers_small, all_small}
use Rattle.mv_vpssets.proofs.sets.all_dpb_layers_of.Goals as goal

pub returns-clause-few : goal.returns-clause-few
returns-clause-few c k =
    let coded = option_map (λ v. v.items) c.args.sub_layers_vps_max_minus1.now in
    let small = all_small (dpb_layers c.args.infos.now c.args.vps_max_sub_layers_minus1 coded)
    (dpb_layers_small c.args.infos.now c.args.vps_max_sub_layers_minus1 coded c.requires.sub_layers c.requires.coded)
    (take c.loop-set.set-index c.args.sets.now) k in
    rw c.loop-set.invariant small
