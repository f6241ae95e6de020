use Rattle.std.proofs.Common.{◌≡◌, map}
use Rattle.std.specs.List.{range_with_len}
use Rattle.mv_layers.specs.LayerInfos.{layer_info}
use Rattle.mv_layers.proofs.infos.first_infos.Given as goal

abbrev pub invariant-loop-i : goal.invariant-loop-i
invariant-loop-i l = l.all.items ≡ map (layer_info l.coded) (range_with_len 0 l.i)
