use Rattle.std.proofs.Common.{◌≡◌, ◌-◌, take}
use Rattle.mv_syntax.specs.Loops.{items}
use Rattle.mv_syntax.specs.Printed.{printed}
use Rattle.mv_common.specs.ProfileTier.{reserved_pair}
use Rattle.mv_common.proofs.profile_tier.print_reserved_bits.Given as goal

abbrev pub invariant-loop-i : goal.invariant-loop-i
invariant-loop-i l = l.out ≡ printed (items l.subs (8 - l.subs) reserved_pair) (take l.i l.reserved) l.fn.out
