use Rattle.std.proofs.Common.{◌≡◌, get_or, pos, rules, arith, to_z, of_z}
use Rattle.std.specs.Prelude.{if◌then◌else◌}
use mir.Syntax.{w32}
use Rattle.mv_syntax.proofs.PrintingLoops.{print_item_step, item_valid}
use Rattle.mv_common.specs.ScalingLists.{num_coefficients, coefficient, coefficients}
use Rattle.mv_common.proofs.scaling_lists.print_coefficients.Goals as goal

pub print_coefficient-requires : goal.print_coefficient-requires
unfolding coefficients coefficient
print_coefficient-requires c =
    let value : to_z w32 (of_z w32 (get_or c.args.list.now c.loop-k.k (pos 0))) ≡ get_or c.args.list.now c.loop-k.k (pos 0) = search rules in
    item_valid coefficient 0 (if c.args.coded then num_coefficients c.args.s else 0) c.args.list.now c.loop-k.k c.loop-k.k _ _ c.requires c.loop-k-test.true (omega arith) value

pub loop-k-preserved : goal.loop-k-preserved
unfolding coefficient
loop-k-preserved c =
    let value : to_z w32 (of_z w32 (get_or c.args.list.now c.loop-k.k (pos 0))) ≡ get_or c.args.list.now c.loop-k.k (pos 0) = search rules in
    print_item_step coefficient 0 (if c.args.coded then num_coefficients c.args.s else 0) _ _ c.loop-k.k c.loop-k.k _ _ _ c.loop-k.invariant c.loop-k-test.true (omega arith) value
    c.in_ok-outer.ensures c.in_ok-print_coefficient.ensures c.close.ensures
