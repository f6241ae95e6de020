use Rattle.std.proofs.Common.{◌≡◌, refl, subst}
use Rattle.mv_syntax.specs.Printed.{printed}
use Rattle.mv_common.specs.ScalingLists.{scaling_list}
use Rattle.mv_common.specs.ScalingListValue.{ScalingListValue}
use Rattle.mv_common.proofs.scaling_lists.print_scaling_list.Goals as goal

pub returns : goal.returns
unfolding scaling_list
returns c =
    let P : ScalingListValue → Type 0 = λ v. c.print_coefficients.new.out ≡ printed (scaling_list c.args.s) v c.args.out.now in
    subst P c.v.view_is (rw (c.in_ok-print_coefficients.ensures, c.deref.ensures.value, c.in_ok-se_if.ensures, c.in_ok-ue_if.ensures, c.in_ok-flag.ensures) refl)
