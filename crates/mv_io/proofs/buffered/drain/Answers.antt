use Rattle.std.proofs.Common.{List, ℕ, ap, arith, subst, take}
use Rattle.mv_io.specs.Buffer.{Queue}
use Rattle.mv_io.specs.Sink.{Appends}
use Rattle.mv_io.proofs.Handing.{HandsOn-more}
use Rattle.mv_io.proofs.buffered.drain.Goals as goal

pub loop-below-preserved : goal.loop-below-preserved
loop-below-preserved g c =
    let here = g.K.Sink.state c.loop-below.below in
    let then = g.K.Sink.state c.write.new.self in
    record {
      hands_on = HandsOn-more _ here then _ c.loop-below.buffer.waiting _ c.in-Ok.count c.loop-below.invariant.hands_on
          (subst (λ (s : List ℕ). Appends here.taken then.taken (take c.in-Ok.count s)) c.waiting-in-loop-below.ensures.waiting c.in-Ok.ensures.appends.appends)
          (ap (λ (q : Queue). q.waiting) c.remove.ensures.others_wait);
      never_falls = omega (arith, c.loop-below.invariant.never_falls, c.in-Ok.ensures.cause.never_falls);
    }
