use Rattle.std.proofs.Common.{◌≡◌, ◌+◌, take, codes}
use Rattle.mv_syntax.specs.Table.{u}
use Rattle.mv_syntax.specs.Words.{◌!◌∶◌, is}
use Rattle.mv_syntax.specs.Printed.{printed_in}
use Rattle.mv_syntax.specs.Loops.{items, each}
use Rattle.mv_rules.specs.declared.rule.Rule.TheVariants.{VpsLimit}
use Rattle.mv_vpslayers.proofs.dependencies.print_all_sub_layers_max.Given as goal

abbrev pub invariant-loop-i : goal.invariant-loop-i
invariant-loop-i l =
    l.out ≡ printed_in (items 0 (l.vps_max_layers_minus1 + 1) (each (u 3 ! VpsLimit ∶ is 7))) (codes "sub_layers_vps_max_minus1") (take l.i l.all) l.fn.out
