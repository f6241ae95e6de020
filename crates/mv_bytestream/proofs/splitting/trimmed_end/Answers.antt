use Rattle.std.proofs.Common.{◌≡◌, arith, sym, ◌∙◌}
use Rattle.mv_bytestream.proofs.Ends.{trimmed-less, trimmed-stays, trimmed-none}
use Rattle.mv_bytestream.proofs.splitting.trimmed_end.Goals as goal

pub loop-to-preserved : goal.loop-to-preserved
loop-to-preserved c = record {
  low = omega arith;
  high = omega arith;
  same = trimmed-less c.args.bytes.now c.args.from c.loop-to.to c.loop-to-test.true (omega arith) c.if-bytes-to-eq0.true ∙ c.loop-to.invariant.same;
}

pub returns-else-bytes-to-eq0-clause-value : goal.returns-else-bytes-to-eq0-clause-value
returns-else-bytes-to-eq0-clause-value c =
    sym (trimmed-stays c.args.bytes.now c.args.from c.loop-to.to c.loop-to-test.true (omega arith) c.if-bytes-to-eq0.false) ∙ c.loop-to.invariant.same

pub returns-after-loop-to-clause-value : goal.returns-after-loop-to-clause-value
returns-after-loop-to-clause-value c =
    let is : c.loop-to.to ≡ c.args.from = omega arith in
    sym (trimmed-none c.args.bytes.now c.args.from c.loop-to.to is) ∙ c.loop-to.invariant.same
