use Rattle.mv_slice.proofs.Totals.{own_valid, long_valid}
use Rattle.mv_slice.proofs.derived.num_used_of.Goals as goal

pub num_short_used_of-requires-clause-valid : goal.num_short_used_of-requires-clause-valid
num_short_used_of-requires-clause-valid c = own_valid c.args.ctx.now c.args.v.now c.requires.valid

pub num_long_used_of-requires : goal.num_long_used_of-requires
num_long_used_of-requires c = long_valid c.args.ctx.now c.args.v.now c.requires.valid
