use Rattle.std.proofs.Common.{◌≡◌, take}
use Rattle.mv_syntax.specs.Printed.{printed}
use Rattle.mv_syntax.specs.Loops.{items_after}
use Rattle.mv_vps.specs.Timing.{flags_behind, next_hrd}
use Rattle.mv_vps.proofs.hrds.print_vps_hrds.Given as goal

abbrev pub invariant-loop-i : goal.invariant-loop-i
invariant-loop-i l = record {
  printed : l.out ≡ printed (items_after 0 l.n (next_hrd l.subs)) (take l.i l.all) l.fn.out;
  flags : l.flags ≡ flags_behind (take l.i l.all);
}
