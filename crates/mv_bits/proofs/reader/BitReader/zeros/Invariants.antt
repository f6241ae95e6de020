use Rattle.std.proofs.Common.{◌-◌, ◌≡◌, ◌≤◌}
use Rattle.mv_syntax.specs.Bits.{take_ue, take_ue_from}
use Rattle.mv_bits.proofs.reader.BitReader.zeros.Given as goal

abbrev pub invariant-count : goal.invariant-count
invariant-count l = record {
  most : l.zeros ≤ 31;
  code : take_ue l.fn.self.left ≡ take_ue_from (31 - l.zeros) l.zeros l.self.left;
  total : l.self.total ≡ l.fn.self.total;
}

abbrev pub decreases-count : goal.decreases-count
decreases-count l = 31 - l.zeros
