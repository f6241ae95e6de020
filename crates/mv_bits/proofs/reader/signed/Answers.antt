use Rattle.mv_bits.proofs.Readings.{signed_odd, signed_even}
use Rattle.mv_bits.proofs.reader.signed.Goals as goal

pub returns-then-code-eq1 : goal.returns-then-code-eq1
returns-then-code-eq1 c = signed_odd c.args.code _ c.div_ceil-size.ensures c.if-code-eq1.true c.requires

pub returns-else-code-eq1 : goal.returns-else-code-eq1
returns-else-code-eq1 c = signed_even c.args.code _ c.div_ceil-size.ensures c.if-code-eq1.false c.requires
