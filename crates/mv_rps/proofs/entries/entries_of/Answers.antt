use Rattle.mv_slice.proofs.Totals.{own_valid, long_valid}
use Rattle.mv_rps.proofs.entries.entries_of.Goals as goal

pub short_deltas_of-requires-clause-valid : goal.short_deltas_of-requires-clause-valid
short_deltas_of-requires-clause-valid c = own_valid c.args.ctx.now c.args.coded.now c.requires.valid

pub add_long_if-requires : goal.add_long_if-requires
add_long_if-requires c = long_valid c.args.ctx.now c.args.coded.now c.requires.valid
