use Rattle.std.proofs.Common.{refl}
use Rattle.mv_vps.proofs.HrdSteps.{print_hrds_turn, flags_more, hrds_printed}
use Rattle.mv_vps.proofs.hrds.print_vps_hrds.Goals as goal

pub loop-i-preserved : goal.loop-i-preserved
loop-i-preserved c = record {
  printed = print_hrds_turn c.args.subs c.args.n c.loop-i.i c.loop-i.i c.args.all.now c.loop-i.flags _ _ _ c.loop-i.invariant.printed c.loop-i-test.true refl c.loop-i.invariant.flags
      c.index-all-i.is c.in_ok-outer.ensures c.in_ok-print_vps_hrd.ensures c.close.ensures;
  flags = flags_more c.loop-i.i c.args.all.now _ _ _ _ c.loop-i-test.true c.loop-i.invariant.flags c.index-all-i-in-loop-i.is c.flags_after-flags.ensures;
}

pub returns : goal.returns
returns c = hrds_printed c.args.subs c.args.n c.loop-i.i c.args.all.now _ _ c.loop-i-test.false c.loop-i.invariant.printed
