use Rattle.std.proofs.Common.{◌-◌}
use Rattle.mv_bits.proofs.LastSet.{Keeps}
use Rattle.mv_bits.proofs.reader.BitReader.fill.Given as goal

abbrev pub invariant-pull : goal.invariant-pull
invariant-pull l =
    Keeps l.self-inside.count l.self-inside.word l.self-inside.bytes.now l.self-inside.whole l.self-inside.set l.fn.self

abbrev pub decreases-pull : goal.decreases-pull
decreases-pull l = 56 - l.self-inside.count
