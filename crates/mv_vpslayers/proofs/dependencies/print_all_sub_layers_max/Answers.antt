use Rattle.std.proofs.Common.{◌+◌, arith}
use Rattle.mv_syntax.specs.Table.{u}
use Rattle.mv_syntax.specs.Words.{◌!◌∶◌, is}
use Rattle.mv_syntax.specs.Loops.{each}
use Rattle.mv_syntax.proofs.LoopLaws.{items-valid}
use Rattle.mv_syntax.proofs.PrintingLoops.{print_items_step}
use Rattle.mv_rules.specs.declared.rule.Rule.TheVariants.{VpsLimit}
use Rattle.mv_vpslayers.specs.Dependencies.{all_sub_layers_max}
use Rattle.mv_vpslayers.proofs.dependencies.print_all_sub_layers_max.Goals as goal

pub u8-requires-clause-fits : goal.u8-requires-clause-fits
unfolding all_sub_layers_max each
u8-requires-clause-fits c =
    (items-valid (each (u 3 ! VpsLimit ∶ is 7)) 0 (c.args.vps_max_layers_minus1 + 1) c.args.all.now c.loop-i.i c.loop-i.i 0 c.requires c.loop-i-test.true (omega arith)).0

pub loop-i-preserved : goal.loop-i-preserved
unfolding each
loop-i-preserved c =
    print_items_step (each (u 3 ! VpsLimit ∶ is 7)) 0 (c.args.vps_max_layers_minus1 + 1) _ _ c.loop-i.i c.loop-i.i _ _ c.loop-i.invariant c.loop-i-test.true (omega arith) c.in_ok-outer.ensures
    c.in_ok-u8.ensures c.close.ensures
