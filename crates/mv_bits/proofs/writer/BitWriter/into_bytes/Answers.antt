use Rattle.std.proofs.Common.{◌∙◌, ◌%◌, List, Bool, length, ap}
use Rattle.mv_bits.proofs.Written.{written_bits-whole}
use Rattle.mv_bits.proofs.writer.BitWriter.into_bytes.Goals as goal

pub returns : goal.returns
returns c =
    written_bits-whole c.self.inside.bytes.items c.self.inside.count c.self.inside.word c.self.invariant.0 (ap (λ (b : List Bool). length b % 8) c.self.view_is ∙ c.requires)
    ∙ c.self.view_is
