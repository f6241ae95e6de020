use Rattle.std.proofs.Common.{◌≡◌, refl, subst}
use Rattle.mv_syntax.specs.Printed.{printed}
use Rattle.mv_vpssets.specs.DpbSizes.{DpbSetValue, dpb_set}
use Rattle.mv_vpssets.proofs.dpb_sizes.print_dpb_set.Goals as goal

pub returns : goal.returns
unfolding dpb_set
returns c =
    let P : DpbSetValue → Type 0 = λ v. c.print_dpb_sub_layers.new.out ≡ printed (dpb_set c.args.set.now) v c.args.out.now in
    subst P c.v.view_is (rw (c.in_ok-print_dpb_sub_layers.ensures, c.in_ok-flag.ensures, c.deref.ensures.value) refl)
