use Rattle.std.proofs.Common.{◌<◌, ◌^◌, ◌-◌}
use Rattle.mv_syntax.specs.Bits.{ue_bits, HasNoUe, take_ue}
use Rattle.mv_syntax.proofs.BitLaws.{take_ue-printed, take_ue-failed, take_ue-short}
use Rattle.mv_bits.proofs.Readings.{Takes-printed, Takes-in_range, Takes-missing}
use Rattle.mv_bits.proofs.reader.BitReader.ue.Goals as goal

pub returns-clause-printed : goal.returns-clause-printed
returns-clause-printed c =
    let b = c.args.self.now.left in
    Takes-printed ue_bits c.args.self.now c.next_ue.new.self c.next_ue.result (take_ue b) (λ v rest e. (take_ue-printed b v rest e).0) c.next_ue.ensures

pub returns-clause-in_range : goal.returns-clause-in_range
returns-clause-in_range c =
    let b = c.args.self.now.left in
    Takes-in_range (λ v. v < 2 ^ 32 - 1) c.args.self.now c.next_ue.new.self c.next_ue.result (take_ue b) (λ v rest e. (take_ue-printed b v rest e).1) c.next_ue.ensures

pub returns-clause-missing : goal.returns-clause-missing
returns-clause-missing c =
    let b = c.args.self.now.left in
    Takes-missing (HasNoUe b) c.args.self.now c.next_ue.new.self c.next_ue.result (take_ue b) (λ e. (take_ue-failed b _ e).1) (take_ue-short b) c.next_ue.ensures
