use Rattle.std.proofs.Common.{◌≡◌, refl, subst}
use Rattle.mv_syntax.specs.Printed.{printed}
use Rattle.mv_vpsext.specs.ExtEnding.{VpsExtEndingValue, ext_ending}
use Rattle.mv_vpsext.proofs.ending.print_ending.Goals as goal

pub returns : goal.returns
unfolding ext_ending
returns c =
    let P : VpsExtEndingValue → Type 0 = λ v. c.flag.new.self ≡ printed (ext_ending) v c.args.out.now in
    subst P c.v.view_is
    (rw (c.in_ok-flag.ensures, c.in_ok-u8s.ensures, c.in_ok-ue.ensures, c.deref.ensures.value) refl)
