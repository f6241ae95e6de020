use Rattle.mv_provenance.proofs.Growing.{refers2}
use Rattle.mv_provenance.proofs.digest2.DigestRebuild2Rebuild.refer.Goals as goal

pub returns-clause-added : goal.returns-clause-added
returns-clause-added c = λ parts stands. refers2 c.args.work.now c.add_reference.new.message parts _ _ (c.add_reference.ensures _ stands.fed) stands
