use Rattle.std.proofs.Common.{◌≡◌, refl, subst}
use Rattle.mv_syntax.specs.Printed.{printed}
use Rattle.mv_common.specs.Hrd.{HrdSubLayerValue, hrd_sub_layer}
use Rattle.mv_common.proofs.hrd_sub_layer.print_hrd_sub_layer.Goals as goal

pub returns : goal.returns
unfolding hrd_sub_layer
returns c =
    let P : HrdSubLayerValue → Type 0 = λ v. c.print_sub_layer_hrd_if-2.new.out ≡ printed (hrd_sub_layer c.args.flags c.args.i) v c.args.out.now in
    subst P c.v.view_is
    (rw (c.in_ok-print_sub_layer_hrd_if-2.ensures, c.in_ok-print_sub_layer_hrd_if.ensures, c.in_ok-ue_limited_if.ensures, c.in_ok-flag_if-2.ensures, c.in_ok-ue_if.ensures, c.in_ok-flag_if.ensures, c.in_ok-flag.ensures, c.or_zero-count.ensures) refl)
