use Rattle.std.proofs.Common.{◌≡◌, ◌≤◌, ◌*◌, ◌^◌, ◌++◌, map, take}
use Rattle.std.specs.List.{enumerate_from}
use Rattle.mv_pictures.specs.SliceFields.{long_entry}
use Rattle.mv_rps.specs.RefSet.{cycle_before, entry_of}
use Rattle.mv_rps.proofs.entries.add_long.Given as goal

abbrev pub invariant-loop-i : goal.invariant-loop-i
invariant-loop-i l =
    (l.cycle ≡ cycle_before l.long_terms l.i)
    × (l.cycle ≤ l.i * 2 ^ 32)
    × (map entry_of l.out.items ≡ map entry_of l.fn.out.items ++ map (long_entry l.ctx l.long_terms) (enumerate_from 0 (take l.i l.long_terms.entries)))
