use Rattle.std.proofs.Common.{◌≡◌, ◌-◌, take}
use Rattle.mv_syntax.specs.Printed.{printed}
use Rattle.mv_syntax.specs.Loops.{items}
use Rattle.mv_vpsext.specs.Profiles.{vps_profile}
use Rattle.mv_vpsext.proofs.profiles.print_vps_profiles.Given as goal

abbrev pub invariant-loop-k : goal.invariant-loop-k
invariant-loop-k l =
    l.out ≡ printed (items 2 (l.vps_num_profile_tier_level_minus1 - 1) (vps_profile l.vps_max_sub_layers_minus1)) (take l.k l.all) l.fn.out
