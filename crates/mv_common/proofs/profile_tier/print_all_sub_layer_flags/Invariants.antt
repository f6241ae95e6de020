use Rattle.std.proofs.Common.{◌≡◌, take}
use Rattle.mv_syntax.specs.Loops.{columns}
use Rattle.mv_syntax.specs.Printed.{printed}
use Rattle.mv_common.specs.ProfileTier.{sub_layer_flags}
use Rattle.mv_common.proofs.profile_tier.print_all_sub_layer_flags.Given as goal

abbrev pub invariant-loop-i : goal.invariant-loop-i
invariant-loop-i l = l.out ≡ printed (columns 0 l.subs sub_layer_flags) (take l.i l.profile_flags, take l.i l.level_flags) l.fn.out
