use Rattle.std.proofs.Common.{◌≡◌, take}
use Rattle.mv_reflists.specs.InterLayer.{layers_where, is_zero_side, is_one_side}
use Rattle.mv_reflists.proofs.inter_layer_sets.split.Given as goal

abbrev pub invariant-loop-reference : goal.invariant-loop-reference
invariant-loop-reference l = record {
  zero : l.zero.items ≡ layers_where (is_zero_side l.view l.base_view) (take l.reference-index l.active);
  one : l.one.items ≡ layers_where (is_one_side l.view l.base_view) (take l.reference-index l.active);
}
