use Rattle.std.proofs.Common.{◌<ℤ◌, ◌^◌, ◌-◌, negsuc}
use Rattle.mv_syntax.specs.Bits.{se_bits, HasNoUe, take_se}
use Rattle.mv_syntax.proofs.BitLaws.{take_se-printed, take_se-failed, take_se-short, se_code-above}
use Rattle.mv_bits.proofs.Readings.{Takes-printed, Takes-in_range, Takes-missing}
use Rattle.mv_bits.proofs.reader.BitReader.se.Goals as goal

pub returns-clause-printed : goal.returns-clause-printed
returns-clause-printed c =
    let b = c.args.self.now.left in
    Takes-printed se_bits c.args.self.now c.next_se.new.self c.next_se.result (take_se b) (λ v rest e. (take_se-printed b v rest e).0) c.next_se.ensures

pub returns-clause-in_range : goal.returns-clause-in_range
returns-clause-in_range c =
    let b = c.args.self.now.left in
    Takes-in_range (λ v. negsuc (2 ^ 31 - 1) <ℤ v) c.args.self.now c.next_se.new.self c.next_se.result (take_se b) (λ v rest e. se_code-above v (take_se-printed b v rest e).1) c.next_se.ensures

pub returns-clause-missing : goal.returns-clause-missing
returns-clause-missing c =
    let b = c.args.self.now.left in
    Takes-missing (HasNoUe b) c.args.self.now c.next_se.new.self c.next_se.result (take_se b) (λ e. (take_se-failed b _ e).1) (take_se-short b) c.next_se.ensures
