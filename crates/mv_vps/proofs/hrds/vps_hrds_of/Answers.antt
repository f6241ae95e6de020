use Rattle.std.proofs.Common.{◌∙◌}
use Rattle.std.proofs.lemmas.Result.{err_from_is_err_and}
use Rattle.mv_vps.proofs.HrdSteps.{flags_push, hrds_turn, hrds_fails}
use Rattle.mv_vps.proofs.hrds.vps_hrds_of.Goals as goal

pub returns-in_err-hrd : goal.returns-in_err-hrd
returns-in_err-hrd c =
    let p = err_from_is_err_and c.from_residual.result c.from_residual.ensures.1 in
    rw (p.1, p.2)
    (hrds_fails c.args.subs c.loop-i.i c.args.n _ _ _ _ _ c.loop-i-test.true c.loop-i.invariant.flags c.loop-i.invariant.reads c.in_err-hrd.ensures)

pub loop-i-preserved : goal.loop-i-preserved
loop-i-preserved c = record {
  reads = hrds_turn c.args.subs c.loop-i.i c.args.n _ _ _ _ _ _ _ c.loop-i-test.true c.loop-i.invariant.flags c.loop-i.invariant.reads c.in_ok-hrd.ensures.0 c.in_ok-push.ensures.items;
  whole = c.in_ok-hrd.ensures.1 ∙ c.loop-i.invariant.whole;
  flags = flags_push _ _ c.in_ok-hrd.hrd c.loop-i.flags _ c.loop-i.invariant.flags c.flags_after-flags.ensures c.in_ok-push.ensures.items;
}
