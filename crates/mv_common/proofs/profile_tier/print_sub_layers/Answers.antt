use Rattle.std.proofs.Common.{◌≡◌, length, arith}
use Rattle.mv_syntax.proofs.LoopLaws.{columns-lengths}
use Rattle.mv_syntax.proofs.PrintingLoops.{print_columns_step}
use Rattle.mv_common.specs.ProfileTier.{sub_layer, sub_layers}
use Rattle.mv_common.proofs.profile_tier.print_sub_layers.Goals as goal

pub loop-i-preserved : goal.loop-i-preserved
unfolding sub_layers
loop-i-preserved c =
    let t = sub_layer c.args.profile_flags.now c.args.level_flags.now in
    let lengths = columns-lengths t 0 c.args.subs c.args.profiles.now c.args.levels.now c.requires.valid in
    print_columns_step t 0 c.args.subs _ _ _ c.loop-i.i c.loop-i.i _ _ _ c.loop-i.invariant c.loop-i-test.true (omega arith) (omega arith)
    c.in_ok-outer.ensures c.in_ok-print_sub_layer.ensures c.close.ensures
