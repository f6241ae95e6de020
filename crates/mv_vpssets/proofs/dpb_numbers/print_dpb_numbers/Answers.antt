use Rattle.std.proofs.Common.{◌≡◌, refl, subst}
use Rattle.mv_syntax.specs.Printed.{printed}
use Rattle.mv_vpssets.specs.DpbSizes.{DpbNumbersValue, dpb_numbers}
use Rattle.mv_vpssets.proofs.dpb_numbers.print_dpb_numbers.Goals as goal

pub returns : goal.returns
unfolding dpb_numbers
returns c =
    let P : DpbNumbersValue → Type 0 = λ v. c.ue-2.new.self ≡ printed (dpb_numbers c.args.necessary.now) v c.args.out.now in
    subst P c.v.view_is (rw (c.in_ok-ue-2.ensures, c.in_ok-ue.ensures, c.in_ok-print_bufferings.ensures, c.deref.ensures.value) refl)
