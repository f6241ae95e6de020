use Rattle.std.proofs.Common.{rules, w32, SFits, to_z-of_z}
use Rattle.mv_bits.proofs.Readings.{Takes-refused, Takes_se-from_ue, Takes_se-short}
use Rattle.mv_bits.proofs.reader.BitReader.next_se.Goals as goal

pub returns-in_err-code : goal.returns-in_err-code
returns-in_err-code c =
    let same = c.in_err-code.ensures.takes.1 in
    let refused = Takes-refused c.args.self.now c.from_residual.result _ c.from_residual.ensures.0 (Takes_se-short c.args.self.now.left c.in_err-code.ensures.takes.0) in
    rw same refused

pub returns : goal.returns
returns c =
    let fits : SFits w32 c.signed.result = search rules in (
      rw (to_z-of_z fits, c.signed.ensures) (Takes_se-from_ue c.args.self.now.left c.ue.new.self.left c.in_ok-code.code c.in_ok-code.ensures.takes.0),
      c.in_ok-code.ensures.takes.1,
    )
