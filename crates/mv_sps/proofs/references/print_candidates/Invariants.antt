use Rattle.std.proofs.Common.{◌≡◌, take}
use Rattle.mv_syntax.specs.Printed.{printed}
use Rattle.mv_syntax.specs.Loops.{each, columns}
use Rattle.mv_sps.specs.References.{candidate}
use Rattle.mv_sps.proofs.references.print_candidates.Given as goal

abbrev pub invariant-loop-i : goal.invariant-loop-i
invariant-loop-i l = l.out ≡ printed (columns 0 l.n (each (candidate l.lsb_bits))) (take l.i l.lsbs, take l.i l.used) l.fn.out
