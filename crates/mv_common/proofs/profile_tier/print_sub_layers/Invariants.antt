use Rattle.std.proofs.Common.{◌≡◌, take}
use Rattle.mv_syntax.specs.Loops.{columns}
use Rattle.mv_syntax.specs.Printed.{printed}
use Rattle.mv_common.specs.ProfileTier.{sub_layer}
use Rattle.mv_common.proofs.profile_tier.print_sub_layers.Given as goal

abbrev pub invariant-loop-i : goal.invariant-loop-i
invariant-loop-i l = l.out ≡ printed (columns 0 l.subs (sub_layer l.profile_flags l.level_flags)) (take l.i l.profiles, take l.i l.levels) l.fn.out
