use Rattle.std.proofs.Common.{◌≡◌, false, [], get_or, map}
use Rattle.std.specs.List.{filter, range_with_len}
use Rattle.mv_layers.specs.LayerInfos.{nuh_layer_id}
use Rattle.mv_layers.proofs.infos.closure_at.Given as goal

abbrev pub invariant-loop-k : goal.invariant-loop-k
invariant-loop-k l =
    l.all.items ≡ map (nuh_layer_id l.coded) (filter (λ k. get_or (get_or l.reached l.i []) k false) (range_with_len 0 l.k))
