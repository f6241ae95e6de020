use Rattle.std.proofs.Common.{◌≡◌, take}
use Rattle.std.specs.List.{filter_map}
use Rattle.mv_rps.specs.Matched.{index_in}
use Rattle.mv_rps.proofs.resolving.part_of.Given as goal

abbrev pub invariant-loop-i : goal.invariant-loop-i
invariant-loop-i l = l.out.items ≡ filter_map (index_in l.part l.keep) (take l.i l.matches)
