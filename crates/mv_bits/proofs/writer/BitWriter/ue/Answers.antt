use Rattle.mv_bits.proofs.Written.{ue_bits-printed, ue_bits-fits}
use Rattle.mv_bits.proofs.writer.BitWriter.ue.Goals as goal

pub u-requires-clause-in_range : goal.u-requires-clause-in_range
u-requires-clause-in_range c =
    ue_bits-fits c.args.value c.ilog2-zeros.result c.from.result c.from.ensures c.ilog2-zeros.ensures.next_power_gt

pub returns-clause-ok : goal.returns-clause-ok
returns-clause-ok c =
    rw (ue_bits-printed c.args.value c.ilog2-zeros.result c.from.result c.from.ensures c.ilog2-zeros.ensures.power_le c.ilog2-zeros.ensures.next_power_gt c.requires) c.u.ensures.ok
