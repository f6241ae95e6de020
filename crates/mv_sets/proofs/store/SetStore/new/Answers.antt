use Rattle.std.proofs.Common.{ap}
use Rattle.mv_sets.proofs.Rooms.{new-is, new-stands}
use Rattle.mv_sets.proofs.store.SetStore.new.Goals as goal

pub invariant_of-result : goal.invariant_of-result
invariant_of-result c = new-is c.in_ok-sps.sps c.in_ok-pps.pps c.in_ok-sps.ensures c.in_ok-pps.ensures

pub returns-clause-stands : goal.returns-clause-stands
returns-clause-stands c = new-stands c.in_ok-sps.sps c.in_ok-pps.pps c.in_ok-sps.ensures c.in_ok-pps.ensures

pub returns-clause-counts : goal.returns-clause-counts
returns-clause-counts c = (ap (λ t. t.count) c.in_ok-sps.ensures, ap (λ t. t.count) c.in_ok-pps.ensures)
