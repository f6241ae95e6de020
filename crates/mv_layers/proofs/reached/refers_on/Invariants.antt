use Rattle.std.proofs.Common.{◌≡◌, false, ◌&&◌, [], get_or, take}
use Rattle.std.specs.List.{list_any, range_with_len}
use Rattle.mv_layers.specs.References.{depends}
use Rattle.mv_layers.proofs.reached.refers_on.Given as goal

abbrev pub invariant-loop-j : goal.invariant-loop-j
invariant-loop-j l =
    list_any (λ j. depends l.flags l.i j && get_or (get_or l.all j []) l.k false) (take l.j (range_with_len 0 l.i)) ≡ false
