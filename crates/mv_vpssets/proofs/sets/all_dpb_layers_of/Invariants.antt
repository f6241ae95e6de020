use Rattle.std.proofs.Common.{◌≡◌, map, option_map, take}
use Rattle.mv_vpssets.specs.Sets.{dpb_layers}
use Rattle.mv_vpssets.proofs.sets.all_dpb_layers_of.Given as goal

abbrev pub invariant-loop-set : goal.invariant-loop-set
invariant-loop-set l =
    l.all.items ≡ map (dpb_layers l.infos l.vps_max_sub_layers_minus1 (option_map (λ v. v.items) l.sub_layers_vps_max_minus1)) (take l.set-index l.sets)
