use Rattle.mv_sets.proofs.Rooms.{found-fits}
use Rattle.mv_sets.proofs.store.SetStore.answer.Goals as goal

pub format_by-requires-clause-fits : goal.format_by-requires-clause-fits
format_by-requires-clause-fits c = found-fits c.self.inside.sps c.self.invariant.formats c.sps_id.result c.closure_of-layers.result.now c.in-Some-latest.sps.now c.in-Some-latest.ensures
