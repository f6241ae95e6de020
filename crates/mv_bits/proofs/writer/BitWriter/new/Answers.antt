use Rattle.mv_bits.proofs.Written.{written_bits-none}
use Rattle.mv_bits.proofs.writer.BitWriter.new.Goals as goal

pub returns : goal.returns
returns c = written_bits-none _ c.new.ensures.items
