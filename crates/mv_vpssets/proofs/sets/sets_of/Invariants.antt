use Rattle.std.proofs.Common.{◌≡◌, ◌∷◌, take}
use Rattle.mv_vpssets.specs.Sets.{base_set, coded_sets}
use Rattle.mv_vpssets.proofs.sets.sets_of.Given as goal

abbrev pub invariant-loop-k : goal.invariant-loop-k
invariant-loop-k l = l.all.items ≡ base_set l.infos ∷ coded_sets l.infos l.sets l.idc (take l.k l.coded)
