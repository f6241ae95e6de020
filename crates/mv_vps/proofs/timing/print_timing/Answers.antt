use Rattle.std.proofs.Common.{◌≡◌, refl, subst}
use Rattle.mv_syntax.specs.Printed.{printed}
use Rattle.mv_vps.specs.Timing.{VpsTimingValue, timing}
use Rattle.mv_vps.proofs.timing.print_timing.Goals as goal

pub returns : goal.returns
unfolding timing
returns c =
    let P : VpsTimingValue → Type 0 = λ v. c.print_vps_hrds.new.out ≡ printed (timing c.args.subs) v c.args.out.now in
    subst P c.v.view_is (rw (c.in_ok-print_vps_hrds.ensures, c.in_ok-ue.ensures, c.in_ok-ue_if.ensures, c.in_ok-flag.ensures, c.in_ok-u32-2.ensures, c.in_ok-u32.ensures, c.deref.ensures.value) refl)
