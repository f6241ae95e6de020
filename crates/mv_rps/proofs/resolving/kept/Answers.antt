use Rattle.std.proofs.Common.{◌<◌, length, pos, false, arith}
use Rattle.std.proofs.lemmas.Grind.{common_steps}
use Rattle.mv_dpb.specs.declared.held.Held.{Held}
use Rattle.mv_rps.specs.Resolving.{kept_at}
use Rattle.mv_rps.proofs.KeepSteps.{kept_more}
use Rattle.mv_rps.proofs.resolving.kept.Goals as goal

pub loop-i-preserved : goal.loop-i-preserved
loop-i-preserved c =
    let d : Held = record { count = pos 0; au = 0; long = false } in
    let less : c.loop-i.i < length c.args.held.now = omega (arith, c.loop-i-test.true, c.loop-i.auto.i-end) in
    let more = kept_more (kept_at c.args.matched.now c.args.longs.now) c.args.held.now c.loop-i.i d less in
    grind (arith, common_steps, more)
