use Rattle.mv_common.specs.Hrd.{hrd_common}
use Rattle.mv_common.proofs.hrd_common.print_hrd_common.Goals as goal

pub returns : goal.returns
unfolding hrd_common
returns c = rw (c.in_ok-u8_if-8.ensures, c.in_ok-u8_if-7.ensures, c.in_ok-u8_if-6.ensures, c.in_ok-u8_if-5.ensures, c.in_ok-u8_if-4.ensures, c.in_ok-u8_if-3.ensures, c.in_ok-flag_if-2.ensures, c.in_ok-u8_if-2.ensures, c.in_ok-u8_if.ensures, c.in_ok-flag_if.ensures, c.in_ok-flag-2.ensures, c.in_ok-flag.ensures) at c.u8_if-9.ensures
