use Rattle.mv_bits.proofs.Windows.{Holds-from, Holds-aligned}
use Rattle.mv_bits.proofs.reader.BitReader.aligned.Goals as goal

pub returns : goal.returns
returns c = Holds-aligned (Holds-from _ _ _ _ c.args.self.now c.self.view_is c.self.invariant)
