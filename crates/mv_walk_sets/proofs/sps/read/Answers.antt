use Rattle.std.proofs.Common.{◌≤◌, subst, sym}
use Rattle.mv_syntax.specs.Bits.{byte_bits}
use Rattle.mv_rules.specs.declared.rule.Rule.TheVariants.{SpsSyntax}
use Rattle.mv_vps.proofs.Extending.{few_valid}
use Rattle.mv_vps.proofs.Getting.{base_valid}
use Rattle.mv_sps.specs.Sps.{sps_payload}
use Rattle.mv_walk_sets.specs.Readings.{Reads, sps_reading}
use Rattle.mv_walk_sets.proofs.ReadingLaws.{reads_payload}
use Rattle.mv_walk_sets.proofs.sps.read.Goals as goal

pub read_sps-requires : goal.read_sps-requires
read_sps-requires c = subst (λ n. n ≤ 6) (sym c.subs_of.ensures) (few_valid c.args.vps.now.coded.0.base (base_valid c.args.vps.now.coded.0 c.requires.payload.fields))

pub returns : goal.returns
returns c =
    subst (λ n. Reads SpsSyntax (sps_reading c.args.layer n c.args.payload.now) c.read_sps.result) c.subs_of.ensures
    (reads_payload (sps_payload c.args.layer c.subs_of.result) (byte_bits c.args.payload.now) SpsSyntax c.read_sps.result c.read_sps.ensures)
