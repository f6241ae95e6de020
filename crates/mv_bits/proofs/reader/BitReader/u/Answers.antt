use Rattle.mv_syntax.specs.Bits.{u_bits, take_bits}
use Rattle.std.proofs.Common.{◌<◌, ◌^◌, length}
use Rattle.mv_syntax.proofs.BitLaws.{take_bits-printed, take_bits-failed, take_bits-short}
use Rattle.mv_bits.proofs.Readings.{Takes-printed, Takes-in_range, Takes-missing}
use Rattle.mv_bits.proofs.reader.BitReader.u.Goals as goal

pub returns-clause-printed : goal.returns-clause-printed
returns-clause-printed c =
    let b = c.args.self.now.left in
    Takes-printed (u_bits c.args.n) c.args.self.now c.next_u.new.self c.next_u.result (take_bits c.args.n 0 b) (λ v rest e. (take_bits-printed c.args.n b v rest e).0) c.next_u.ensures

pub returns-clause-in_range : goal.returns-clause-in_range
returns-clause-in_range c =
    let b = c.args.self.now.left in
    Takes-in_range (λ v. v < 2 ^ c.args.n) c.args.self.now c.next_u.new.self c.next_u.result (take_bits c.args.n 0 b) (λ v rest e. (take_bits-printed c.args.n b v rest e).1) c.next_u.ensures

pub returns-clause-missing : goal.returns-clause-missing
returns-clause-missing c =
    let b = c.args.self.now.left in
    Takes-missing (length b < c.args.n) c.args.self.now c.next_u.new.self c.next_u.result (take_bits c.args.n 0 b) (λ e. (take_bits-failed c.args.n 0 b _ e).1) (take_bits-short c.args.n 0 b) c.next_u.ensures
