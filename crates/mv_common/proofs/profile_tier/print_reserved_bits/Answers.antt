use Rattle.std.proofs.Common.{◌+◌, ◌-◌, arith}
use Rattle.mv_syntax.proofs.PrintingLoops.{print_items_step}
use Rattle.mv_common.specs.ProfileTier.{reserved_pair}
use Rattle.mv_common.proofs.profile_tier.print_reserved_bits.Goals as goal

pub loop-i-preserved : goal.loop-i-preserved
unfolding reserved_pair
loop-i-preserved c =
    print_items_step reserved_pair c.args.subs (8 - c.args.subs) _ _ c.loop-i.i (c.from.result + c.loop-i.i) _ _ c.loop-i.invariant c.loop-i-test.true (omega arith) c.in_ok-outer.ensures
    c.in_ok-print_reserved_pair.ensures c.close.ensures
