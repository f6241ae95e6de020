use Rattle.mv_walk_sets.proofs.CutLaws.{sps_cuts}
use Rattle.mv_walk_sets.proofs.laws.payloads_are_cut_by_their_rules.Goals as goal

pub returns-clause-sps : goal.returns-clause-sps
returns-clause-sps c = sps_cuts
