use Rattle.std.proofs.Common.{◌≡◌, map}
use Rattle.std.specs.List.{enumerate_from}
use Rattle.mv_vpsext.specs.Derived.{numbered_ols}
use Rattle.mv_vpsext.proofs.derived.all_ols.Given as goal

abbrev pub invariant-loop-set : goal.invariant-loop-set
invariant-loop-set l = l.all.items ≡ map (numbered_ols l.sizes) (enumerate_from 0 l.yielded)
