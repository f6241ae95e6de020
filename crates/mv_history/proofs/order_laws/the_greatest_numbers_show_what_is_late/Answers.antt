use Rattle.std.proofs.Common.{map, suc}
use Rattle.std.specs.Prelude.{int_lt}
use Rattle.mv_history.proofs.Bumping.{length-waits}
use Rattle.mv_history.proofs.Instances.{tops-above}
use Rattle.mv_history.proofs.Tops.{waits-staying}
use Rattle.mv_history.proofs.order_laws.the_greatest_numbers_show_what_is_late.Goals as goal

pub returns-clause-late : goal.returns-clause-late
returns-clause-late g c = tops-above

pub returns-clause-few : goal.returns-clause-few
returns-clause-few g c = λ count reorder past. length-waits (suc reorder) int_lt (map count past)

pub returns-clause-last : goal.returns-clause-last
returns-clause-last g c = waits-staying
