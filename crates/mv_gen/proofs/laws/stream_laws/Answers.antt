use Rattle.mv_gen.proofs.Places.{length_is}
use Rattle.mv_gen.proofs.laws.stream_laws.Goals as goal

pub returns : goal.returns
returns c = length_is c.args.number c.args.count
