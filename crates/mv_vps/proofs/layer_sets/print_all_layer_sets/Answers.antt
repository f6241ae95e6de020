use Rattle.std.proofs.Common.{◌≡◌, refl, subst}
use Rattle.mv_syntax.specs.Printed.{printed}
use Rattle.mv_vps.specs.LayerSets.{VpsLayerSetsValue, all_layer_sets}
use Rattle.mv_vps.proofs.layer_sets.print_all_layer_sets.Goals as goal

pub returns : goal.returns
unfolding all_layer_sets
returns c =
    let P : VpsLayerSetsValue → Type 0 = λ v. c.print_layer_sets.new.out ≡ printed all_layer_sets v c.args.out.now in
    subst P c.v.view_is (rw (c.in_ok-print_layer_sets.ensures, c.in_ok-ue.ensures, c.in_ok-u8.ensures, c.deref.ensures.value) refl)
