use Rattle.std.proofs.Common.{◌≡◌, ◌++◌, map, take}
use Rattle.mv_pictures.specs.SliceFields.{short_entry}
use Rattle.mv_rps.specs.RefSet.{entry_of}
use Rattle.mv_rps.proofs.entries.add_short.Given as goal

abbrev pub invariant-loop-i : goal.invariant-loop-i
invariant-loop-i l = map entry_of l.out.items ≡ map entry_of l.fn.out.items ++ map short_entry (take l.i l.deltas)
