use Rattle.std.proofs.Common.{refl}
use Rattle.mv_syntax.specs.Bits.{u_bits}
use Rattle.mv_bits.specs.inner.Window.{window_bits}
use Rattle.mv_bits.proofs.reader.BitReader.new.Goals as goal

pub returns-clause-all : goal.returns-clause-all
unfolding window_bits u_bits
returns-clause-all c = refl
