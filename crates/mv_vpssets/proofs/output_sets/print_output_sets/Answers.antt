use Rattle.std.proofs.Common.{◌≡◌, refl, subst}
use Rattle.mv_syntax.specs.Printed.{printed}
use Rattle.mv_vpssets.specs.OutputSets.{VpsOutputSetsValue, output_sets}
use Rattle.mv_vpssets.proofs.output_sets.print_output_sets.Goals as goal

pub returns : goal.returns
unfolding output_sets
returns c =
    let P : VpsOutputSetsValue → Type 0 = λ v. c.print_output_layer_sets.new.out ≡ printed (output_sets c.args.infos.now c.args.sets.now c.args.vps_num_profile_tier_level_minus1) v c.args.out.now in
    subst P c.v.view_is
    (rw (c.in_ok-print_output_layer_sets.ensures, c.in_ok-print_default_output_layer_idc_if.ensures, c.in_ok-print_num_add_olss.ensures, c.deref.ensures.value, c.unwrap_or.ensures, c.unwrap_or-2.ensures) refl)
