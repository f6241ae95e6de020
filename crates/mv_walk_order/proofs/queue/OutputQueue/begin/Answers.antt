use Rattle.std.proofs.Common.{ap}
use Rattle.mv_dpb.specs.Waiting.{WaitingValue}
use Rattle.mv_walk_order.proofs.QueueLaws.{none_came}
use Rattle.mv_walk_order.proofs.queue.OutputQueue.begin.Goals as goal

pub returns-clause-none : goal.returns-clause-none
returns-clause-none g c = none_came c.in-Ok.waiting (ap (λ (w : WaitingValue g.row.P.Denot). w.pictures) c.in-Ok.ensures)
