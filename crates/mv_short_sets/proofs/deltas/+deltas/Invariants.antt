-- Each set is asked with fewer sets before it.
use Rattle.std.proofs.Common.{◌+◌, ◌*◌, length}
use Rattle.mv_short_sets.proofs.deltas.+deltas.Given as goal

abbrev pub decreases-reference_deltas : goal.decreases-reference_deltas
decreases-reference_deltas l = 2 * length l.args.now.earlier.now

abbrev pub decreases-deltas_of : goal.decreases-deltas_of
decreases-deltas_of l = 2 * length l.args.now.earlier.now + 1
