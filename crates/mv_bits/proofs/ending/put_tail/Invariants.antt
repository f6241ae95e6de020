use Rattle.std.proofs.Common.{◌≡◌, ◌++◌, length}
use Rattle.mv_bits.proofs.ending.put_tail.Given as goal

abbrev pub invariant-piece : goal.invariant-piece
invariant-piece l = l.out ++ l.rest ≡ l.fn.out ++ l.fn.tail

abbrev pub decreases-piece : goal.decreases-piece
decreases-piece l = length l.rest
