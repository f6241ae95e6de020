use Rattle.std.proofs.Common.{◌+◌, length}
use Rattle.mv_bits.specs.Cursor.{place}
use Rattle.mv_bits.proofs.Tails.{no_end}
use Rattle.mv_bits.proofs.reader.BitReader.tail.Goals as goal

pub returns-in_default-clause-missing : goal.returns-in_default-clause-missing
returns-in_default-clause-missing c = λ tail e. no_end c.args.self.now.left tail (place c.args.self.now + length tail) c.in_default.ensures e
