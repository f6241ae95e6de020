use Rattle.std.proofs.Common.{◌≡◌, refl, subst}
use Rattle.mv_syntax.specs.Printed.{printed}
use Rattle.mv_vpslayers.specs.Layers.{layers_described}
use Rattle.mv_vpslayers.specs.Dependencies.{VpsDependenciesValue, dependencies}
use Rattle.mv_vpslayers.proofs.dependencies.print_dependencies.Goals as goal

pub returns : goal.returns
unfolding dependencies
returns c =
    let P : VpsDependenciesValue → Type 0 = λ v.
    c.args.infos.now ≡ layers_described c.args.vps_max_layers_minus1 c.args.scalability.now.layers c.args.scalability.now.view_id_val v.direct_dependency_flag
    → c.flag-3.new.self ≡ printed (dependencies c.args.vps_max_layers_minus1 c.args.scalability.now c.args.sets.now) v c.args.out.now in
    subst P c.v.view_is
    (λ layers. rw (c.in_ok-flag-3.ensures, c.in_ok-print_max_tids_if.ensures, c.in_ok-flag-2.ensures, c.in_ok-print_all_sub_layers_max_if.ensures, c.in_ok-flag.ensures, c.in_ok-print_added_layer_sets.ensures, c.in_ok-print_dependency_flags.ensures, c.deref.ensures.value, c.deref-2.ensures.value, layers) refl)
    c.requires.layers
