use Rattle.std.proofs.Common.{◌≡◌, take}
use Rattle.mv_syntax.specs.Printed.{printed}
use Rattle.mv_syntax.specs.Loops.{items}
use Rattle.mv_slice.specs.LongTerms.{long_term}
use Rattle.mv_slice.proofs.long_terms.print_entries.Given as goal

abbrev pub invariant-loop-i : goal.invariant-loop-i
invariant-loop-i l = l.out ≡ printed (items 0 l.n (long_term l.ctx l.num_long_term_sps)) (take l.i l.all) l.fn.out
