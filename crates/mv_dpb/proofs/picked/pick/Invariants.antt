use Rattle.std.proofs.Common.{◌≡◌, vec_capacity}
use Rattle.mv_dpb.proofs.Picking.{Picking}
use Rattle.mv_dpb.proofs.picked.pick.Given as goal

abbrev pub invariant-loop-i : goal.invariant-loop-i
invariant-loop-i g l = Picking l.fn.items.items l.items.items l.keep l.i × (vec_capacity l.items ≡ vec_capacity l.fn.items)
