use Rattle.std.proofs.Common.{◌≡◌, ◌+◌, ◌∷◌, length}
use Rattle.mv_syntax.specs.inner.Reader.{read}
use Rattle.mv_syntax.specs.inner.Turns.{rest_of_items}
use Rattle.mv_vpssets.specs.OutputSets.{output_layer_set, output_layer_sets}
use Rattle.mv_vpssets.specs.Sets.{base_set, coded_sets}
use Rattle.mv_vpssets.proofs.output_sets.output_layer_sets_of.Given as goal

abbrev pub invariant-loop-i : goal.invariant-loop-i
invariant-loop-i l = record {
  reads : read (output_layer_sets l.infos l.sets l.profiles l.num_add_olss l.idc) l.fn.bits.left
      ≡ rest_of_items (output_layer_set l.infos l.sets l.profiles l.idc) l.i l.end l.all.items l.bits.left;
  total : l.bits.total ≡ l.fn.bits.total;
  layers : l.layers.items ≡ base_set l.infos ∷ coded_sets l.infos l.sets l.idc l.all.items;
  count : 1 + length l.all.items ≡ l.i;
}
