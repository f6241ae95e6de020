use Rattle.std.proofs.Common.{[], ◌∷◌, List, ℕ, refl, sym, subst, lit<, lit≤}
use Rattle.mv_syntax.specs.Loops.{items, each}
use Rattle.mv_vpsext.specs.Args.{VpsArgsValue, AreVpsArgs, layer_set, layer_sets}
use Rattle.mv_vpsext_tests.proofs.tests.two_views.Goals as goal

args : List (List ℕ) → VpsArgsValue
args sets = record { vps_max_layers_minus1 = 1; vps_max_sub_layers_minus1 = 0; vps_max_layer_id = 1; vps_num_layer_sets_minus1 = 1; layer_id_included_flag = sets }

are_args : AreVpsArgs (args ((1 ∷ 1 ∷ []) ∷ []))
unfolding args layer_sets layer_set items each
are_args = record {
  layers = lit≤ tt;
  sub_layers = lit≤ tt;
  layer_ids = lit≤ tt;
  sets = lit≤ tt;
  each_set = (refl, ((refl, (lit< tt, (lit< tt, tt))), tt));
}

pub returns : goal.returns
unfolding args
returns c = subst (λ sets. AreVpsArgs (args sets)) (sym c.requires) are_args
