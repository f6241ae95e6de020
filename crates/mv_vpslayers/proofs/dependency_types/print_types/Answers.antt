use Rattle.std.proofs.Common.{◌≡◌, refl, subst}
use Rattle.mv_syntax.specs.Printed.{printed}
use Rattle.mv_vpslayers.specs.DependencyTypes.{VpsDependencyTypesValue, types}
use Rattle.mv_vpslayers.proofs.dependency_types.print_types.Goals as goal

pub returns : goal.returns
unfolding types
returns c =
    let P : VpsDependencyTypesValue → Type 0 = λ v. c.print_dependency_types_if.new.out ≡ printed (types c.args.vps_max_layers_minus1 c.args.flags.now) v c.args.out.now in
    subst P c.v.view_is
    (rw (c.in_ok-print_dependency_types_if.ensures, c.in_ok-u32_within_if.ensures, c.in_ok-flag.ensures, c.in_ok-ue.ensures) refl)
