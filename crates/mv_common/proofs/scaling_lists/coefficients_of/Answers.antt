use Rattle.std.proofs.Common.{refl, arith}
use Rattle.std.specs.Prelude.{if◌then◌else◌}
use Rattle.mv_syntax.proofs.LoopLaws.{items_begin}
use Rattle.mv_common.specs.ScalingLists.{num_coefficients, coefficient, coefficients}
use Rattle.mv_common.proofs.scaling_lists.coefficients_of.Goals as goal

pub loop-k-init : goal.loop-k-init
unfolding coefficients
loop-k-init c = (
  rw c.new-list.ensures.items
      (items_begin coefficient 0 (if c.args.coded then num_coefficients c.args.s else 0) c.count_coefficients-turns.result c.args.bits.now.left
      (omega (arith, c.count_coefficients-turns.ensures))),
  refl,
)
