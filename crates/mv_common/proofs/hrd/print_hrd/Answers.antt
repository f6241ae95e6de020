use Rattle.std.proofs.Common.{◌≡◌, refl, subst}
use Rattle.mv_syntax.specs.Printed.{printed}
use Rattle.mv_common.specs.Hrd.{hrd_parameters, HrdValue}
use Rattle.mv_common.proofs.hrd.print_hrd.Goals as goal

pub returns : goal.returns
unfolding hrd_parameters
returns c =
    let P : HrdValue → Type 0 = λ v. c.print_hrd_sub_layers.new.out ≡ printed (hrd_parameters c.args.common c.args.subs c.args.before) v c.args.out.now in
    subst P c.v.view_is (rw (c.in_ok-print_hrd_sub_layers.ensures, c.in_ok-print_hrd_common_if.ensures, c.flags_in_force-flags.ensures, c.deref.ensures.value) refl)
