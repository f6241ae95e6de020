use Rattle.std.proofs.Common.{◌≡◌, map}
use Rattle.std.specs.List.{filter, range_with_len}
use Rattle.mv_layers.specs.References.{depends}
use Rattle.mv_layers.specs.LayerInfos.{nuh_layer_id}
use Rattle.mv_layers.proofs.infos.directs_at.Given as goal

abbrev pub invariant-loop-j : goal.invariant-loop-j
invariant-loop-j l =
    l.all.items ≡ map (nuh_layer_id l.coded) (filter (depends l.coded.direct_dependency_flag l.i) (range_with_len 0 l.j))
