use Rattle.mv_rps.proofs.CountLaws.{counted_base, counted_decoded}
use Rattle.mv_rps.proofs.laws.counts_are_those_of_pictures.Goals as goal

pub returns-clause-decoded : goal.returns-clause-decoded
returns-clause-decoded c = counted_decoded

pub returns-clause-base : goal.returns-clause-base
returns-clause-base c = counted_base
