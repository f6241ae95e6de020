use Rattle.mv_syntax.specs.Bits.{byte_bits}
use Rattle.mv_rules.specs.declared.rule.Rule.TheVariants.{PpsSyntax}
use Rattle.mv_pps.specs.Pps.{pps}
use Rattle.mv_walk_sets.proofs.ReadingLaws.{reads_payload}
use Rattle.mv_walk_sets.proofs.pps.read.Goals as goal

pub returns : goal.returns
returns c = reads_payload pps (byte_bits c.args.payload.now) PpsSyntax c.read_pps.result c.read_pps.ensures
