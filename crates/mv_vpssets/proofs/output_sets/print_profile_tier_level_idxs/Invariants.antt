use Rattle.std.proofs.Common.{◌≡◌, length, take}
use Rattle.mv_syntax.specs.Printed.{printed}
use Rattle.mv_syntax.specs.Loops.{items}
use Rattle.mv_vpssets.specs.OutputSets.{profile_tier_level_idx}
use Rattle.mv_vpssets.proofs.output_sets.print_profile_tier_level_idxs.Given as goal

abbrev pub invariant-loop-j : goal.invariant-loop-j
invariant-loop-j l = l.out ≡ printed (items 0 (length l.set.layers) (profile_tier_level_idx l.profiles l.set)) (take l.j l.all) l.fn.out
