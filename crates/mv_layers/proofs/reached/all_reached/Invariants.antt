use Rattle.std.proofs.Common.{◌≡◌, map}
use Rattle.std.specs.List.{range_with_len}
use Rattle.mv_layers.specs.References.{reaches}
use Rattle.mv_layers.proofs.reached.all_reached.Given as goal

abbrev pub invariant-loop-i : goal.invariant-loop-i
invariant-loop-i l = l.all.items ≡ map (λ i. map (reaches l.flags i) (range_with_len 0 l.count)) (range_with_len 0 l.i)
