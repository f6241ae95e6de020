use Rattle.std.proofs.Common.{◌≡◌, refl, subst}
use Rattle.mv_syntax.specs.Printed.{printed}
use Rattle.mv_syntax.specs.Loops.{items}
use Rattle.mv_vpssets.specs.OutputSets.{OutputLayerSetValue, output_layer_set}
use Rattle.mv_vpssets.proofs.output_sets.print_output_layer_set.Goals as goal

pub returns : goal.returns
unfolding output_layer_set items
returns c =
    let P : OutputLayerSetValue → Type 0 = λ v. c.print_set_profiles.new.out ≡ printed (output_layer_set c.args.infos.now c.args.sets.now c.args.vps_num_profile_tier_level_minus1 c.args.idc c.args.i) v c.args.out.now in
    subst P c.v.view_is
    (rw (c.in_ok-print_set_profiles.ensures, c.in_ok-u8s_if.ensures, c.in_ok-print_layer_set_idx_if.ensures, c.in_ok-set.ensures, c.in_ok-outputs.ensures, c.deref.ensures.value, c.in_ok-layers.ensures.exact, c.deref-2.ensures.value) refl)
