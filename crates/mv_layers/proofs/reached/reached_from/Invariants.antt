use Rattle.std.proofs.Common.{◌≡◌, false, ◌||◌, [], get_or, map, nat_eq}
use Rattle.std.specs.List.{list_any, range_with_len}
use Rattle.mv_layers.specs.References.{direct_indexes}
use Rattle.mv_layers.proofs.reached.reached_from.Given as goal

abbrev pub invariant-loop-k : goal.invariant-loop-k
invariant-loop-k l =
    l.marks.items
    ≡ map (λ k. nat_eq l.i k || list_any (λ j. get_or (get_or l.all j []) k false) (direct_indexes l.flags l.i)) (range_with_len 0 l.k)
