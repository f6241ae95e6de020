use Rattle.std.proofs.Common.{refl}
use Rattle.mv_walk.proofs.Empty.{decoder-empty}
use Rattle.mv_walk.proofs.decoder.Decoder.new.Goals as goal

pub returns-clause-keeps : goal.returns-clause-keeps
returns-clause-keeps g c = decoder-empty _ c.new.ensures c.in_ok-layers.ensures c.new-2.ensures.stands refl refl refl refl refl
