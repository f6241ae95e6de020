use Rattle.std.proofs.Common.{◌≡◌, false, take}
use Rattle.std.specs.List.{list_any, range_with_len}
use Rattle.mv_layers.specs.References.{depends}
use Rattle.mv_layers.proofs.references.independent.Given as goal

abbrev pub invariant-loop-j : goal.invariant-loop-j
invariant-loop-j l = list_any (depends l.flags l.i) (take l.j (range_with_len 0 l.i)) ≡ false
