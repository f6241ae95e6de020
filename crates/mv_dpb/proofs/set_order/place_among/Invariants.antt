use Rattle.std.proofs.Common.{◌≡◌, ◌+◌, drop}
use Rattle.std.specs.Prelude.{int_lt}
use Rattle.std.specs.List.{position_or_len}
use Rattle.mv_dpb.proofs.set_order.place_among.Given as goal

abbrev pub invariant-loop-i : goal.invariant-loop-i
invariant-loop-i l = position_or_len (int_lt l.count) l.counts ≡ l.i + position_or_len (int_lt l.count) (drop l.i l.counts)
