use Rattle.std.proofs.Common.{◌+◌, ◌≤◌, length, arith}
use Rattle.mv_bytestream.proofs.Prevented.{payload-whole, prevented}
use Rattle.mv_contexts.proofs.units.has_prevented.Goals as goal

pub returns-in-None : goal.returns-in-None
returns-in-None c = λ _.
    payload-whole c.args.unit.now
    (λ k h. let fits : k + length prevented ≤ length c.args.unit.now = h.fits in c.in-None.ensures k (omega arith) (omega (arith, fits)) h)
