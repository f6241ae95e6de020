use Rattle.mv_walk_sets.proofs.ReadingLaws.{vps_reads}
use Rattle.mv_walk_sets.proofs.vps.read.Goals as goal

pub returns-clause-reads : goal.returns-clause-reads
returns-clause-reads c = vps_reads c.args.payload.now c.read_vps.result c.read_vps.ensures.coded c.read_vps.ensures.valid
