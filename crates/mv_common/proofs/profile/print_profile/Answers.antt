use Rattle.mv_common.specs.Profile.{profile}
use Rattle.mv_common.proofs.profile.print_profile.Goals as goal

pub returns : goal.returns
unfolding profile
returns c = rw (c.in_ok-u64.ensures, c.in_ok-flag-5.ensures, c.in_ok-flag-4.ensures, c.in_ok-flag-3.ensures, c.in_ok-flag-2.ensures, c.in_ok-u32.ensures, c.in_ok-u8-2.ensures, c.in_ok-flag.ensures, c.in_ok-u8.ensures) at c.flag-6.ensures
