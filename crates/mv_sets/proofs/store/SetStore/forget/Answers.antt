use Rattle.std.proofs.Common.{ap}
use Rattle.mv_sets.proofs.Rooms.{emptied-is, emptied-stands}
use Rattle.mv_sets.proofs.store.SetStore.forget.Goals as goal

pub invariant_of-self : goal.invariant_of-self
invariant_of-self c =
    emptied-is (record { sps = c.self.inside.sps; pps = c.self.inside.pps }) c.self.invariant c.clear.new.self c.clear-2.new.self c.clear.ensures c.clear-2.ensures

pub returns-clause-stands : goal.returns-clause-stands
returns-clause-stands c = emptied-stands (record { sps = c.self.inside.sps; pps = c.self.inside.pps }) c.clear.new.self c.clear-2.new.self c.clear.ensures c.clear-2.ensures

pub returns-clause-counts : goal.returns-clause-counts
returns-clause-counts c = (ap (λ t. t.count) c.clear.ensures, ap (λ t. t.count) c.clear-2.ensures)
