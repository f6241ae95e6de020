use Rattle.std.proofs.Common.{arith}
use Rattle.mv_dpb.proofs.WaitsLaws.{units-few}
use Rattle.mv_dpb.proofs.waits.units_with.Goals as goal

pub overflow_add-result : goal.overflow_add-result
overflow_add-result c = omega (arith, units-few c.args.waits.now, c.requires.units, c.requires.room)
