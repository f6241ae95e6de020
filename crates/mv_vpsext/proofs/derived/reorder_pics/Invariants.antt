use Rattle.std.proofs.Common.{◌≡◌, map, take}
use Rattle.mv_syntax.specs.Words.{last_coded}
use Rattle.mv_vpsext.specs.Derived.{coded_reorder}
use Rattle.mv_vpsext.proofs.derived.reorder_pics.Given as goal

abbrev pub invariant-loop-sub_layer : goal.invariant-loop-sub_layer
invariant-loop-sub_layer l = l.highest ≡ last_coded (map coded_reorder (take l.sub_layer-index l.sub_layer-items)) 0
