use Rattle.std.proofs.Common.{◌≤◌, arith}
use Rattle.std.proofs.lemmas.Result.{IfOk-weaker}
use Rattle.mv_bits.proofs.Written.{Extends-halves, upper-lt}
use Rattle.mv_bits.proofs.writer.put.Goals as goal

pub put_short-requires-2-clause-in_range : goal.put_short-requires-2-clause-in_range
put_short-requires-2-clause-in_range c =
    (omega (arith, c.requires.in_range.0), upper-lt c.args.n 32 c.args.value (omega (arith, c.if-n-le56.false)) c.requires.in_range.1)

pub returns-clause-ok : goal.returns-clause-ok
returns-clause-ok c =
    let many : 32 ≤ c.args.n = omega (arith, c.if-n-le56.false) in
    IfOk-weaker c.put_short-3.result _ _ (λ last l. Extends-halves c.args.before c.args.last.1 c.args.last.0 c.args.n 32 c.args.value c.args.bytes.now.items c.put_short-2.new.bytes.items c.put_short-3.new.bytes.items c.in_ok-high.high last many c.in_ok-high.ensures.ok l) c.put_short-3.ensures.ok
