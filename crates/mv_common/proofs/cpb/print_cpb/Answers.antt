use Rattle.mv_common.specs.Hrd.{cpb}
use Rattle.mv_common.proofs.cpb.print_cpb.Goals as goal

pub returns : goal.returns
unfolding cpb
returns c = rw (c.in_ok-ue_if-2.ensures, c.in_ok-ue_if.ensures, c.in_ok-ue-2.ensures, c.in_ok-ue.ensures) at c.flag.ensures
