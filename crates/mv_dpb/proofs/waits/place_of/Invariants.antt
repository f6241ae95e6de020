use Rattle.std.proofs.Common.{◌≡◌, ◌+◌, drop}
use Rattle.std.specs.List.{position_or_len}
use Rattle.mv_dpb.specs.Waits.{comes_first}
use Rattle.mv_dpb.proofs.waits.place_of.Given as goal

abbrev pub invariant-loop-i : goal.invariant-loop-i
invariant-loop-i l = position_or_len (comes_first l.waits) l.others ≡ l.i + position_or_len (comes_first l.waits) (drop l.i l.others)
