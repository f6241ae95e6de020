use Rattle.std.proofs.Common.{◌≡◌, map}
use Rattle.std.specs.List.{filter, range_with_len}
use Rattle.mv_slice.specs.Layers.{layer_at, may_refer}
use Rattle.mv_pictures.specs.Contexts.{direct_layer}
use Rattle.mv_contexts.proofs.eligible.eligible_of.Given as goal

abbrev pub invariant-loop-i : goal.invariant-loop-i
invariant-loop-i l = l.numbers.items ≡ filter (λ j. may_refer l.head.tid (layer_at (map (direct_layer l.vps l.head.layer) l.directs) j)) (range_with_len 0 l.i)
