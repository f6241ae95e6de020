use Rattle.mv_walk_values.proofs.Holding.{holds_decoded, holds_kept, holds_none, holds_start, holds_whole}
use Rattle.mv_walk_values.proofs.laws.buffers_hold_values.Goals as goal

pub returns-clause-kept : goal.returns-clause-kept
returns-clause-kept g c = holds_kept

pub returns-clause-none : goal.returns-clause-none
returns-clause-none g c = holds_none

pub returns-clause-start : goal.returns-clause-start
returns-clause-start g c = holds_start

pub returns-clause-decoded : goal.returns-clause-decoded
returns-clause-decoded g c = holds_decoded

pub returns-clause-whole : goal.returns-clause-whole
returns-clause-whole g c = holds_whole
