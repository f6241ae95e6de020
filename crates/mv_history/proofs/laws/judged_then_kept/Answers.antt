use Rattle.mv_history.proofs.Runs.{run_keep, run-filter, run_keep_twice, run_source}
use Rattle.mv_history.proofs.laws.judged_then_kept.Goals as goal

pub returns-clause-same : goal.returns-clause-same
returns-clause-same g c = run_keep

pub returns-clause-told : goal.returns-clause-told
returns-clause-told g c = run-filter

pub returns-clause-twice : goal.returns-clause-twice
returns-clause-twice g c = run_keep_twice

pub returns-clause-source : goal.returns-clause-source
returns-clause-source g c = run_source
