use Rattle.std.proofs.Common.{inr, refl}
use Rattle.std.proofs.lemmas.Bool.{lt-ltb}
use Rattle.mv_walk_sets.proofs.sps.value_of.Goals as goal

pub returns-then-head-gt0 : goal.returns-then-head-gt0
returns-then-head-gt0 c = inr (c.in-Ok.value, c.in-Ok.ensures, lt-ltb 0 c.args.head.tid c.if-head-gt0.true, refl)
