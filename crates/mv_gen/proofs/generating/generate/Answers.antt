use Rattle.mv_gen.proofs.Written.{none_written, not_all_written, one_more}
use Rattle.mv_gen.proofs.generating.generate.Goals as goal

pub unit-init : goal.unit-init
unit-init g c = rw c.new-stream.ensures (none_written _ _)

pub unit-preserved : goal.unit-preserved
unit-preserved g c = one_more _ _ _ _ _ _ c.in-Ok-true.field-0 c.unit.invariant c.in-Ok-true.ensures.writes c.in-Ok-true.field-0-test c.in-Ok-true.ensures.sink_count

pub returns-in-Err-clause-writes : goal.returns-in-Err-clause-writes
returns-in-Err-clause-writes g c = not_all_written _ _ _ _ _ _ c.in-Err.error c.unit.invariant c.in-Err.ensures.writes
