use Rattle.std.proofs.Common.{◌++◌, arith}
use Rattle.mv_syntax.specs.Bits.{u_bits}
use Rattle.mv_bits.proofs.Tails.{pushed_bit, all_pushed}
use Rattle.mv_bits.proofs.ending.push_bits.Goals as goal

pub bit-preserved : goal.bit-preserved
bit-preserved c =
    record {
      within = omega (arith, c.bit.invariant.within);
      pushed = pushed_bit c.bit.tail.items (c.args.tail.now.items ++ u_bits c.args.n c.args.value) c.push.new.self.items c.bit.left c.args.value c.bit-test.true c.bit.invariant.pushed c.in_ok-push.ensures.items;
    }

pub returns : goal.returns
returns c = all_pushed c.bit.tail.items (c.args.tail.now.items ++ u_bits c.args.n c.args.value) c.bit.left c.args.value c.bit-test.false c.bit.invariant.pushed
