use Rattle.std.proofs.Common.{◌≡◌, refl, subst}
use Rattle.mv_syntax.specs.Printed.{printed}
use Rattle.mv_common.specs.SubLayerOrdering.{SubLayerOrderingValue, sub_layer_ordering}
use Rattle.mv_common.proofs.sub_layer_ordering.SubLayerOrdering.print.Goals as goal

pub returns : goal.returns
unfolding sub_layer_ordering
returns c =
    let P : SubLayerOrderingValue → Type 0 = λ v. c.print_sub_layers.new.out ≡ printed (sub_layer_ordering c.args.set c.args.subs) v c.args.out.now in
    subst P c.self.view_is
    (rw (c.in_ok-print_sub_layers.ensures, c.in_ok-flag.ensures, c.info_present_name.ensures, c.first_coded-first.ensures.first, c.deref.ensures.value) refl)
