use Rattle.std.proofs.Common.{◌≡◌, ◌++◌, map, take, drop}
use Rattle.mv_walk_layer.specs.LayerValue.{no_pictures}
use Rattle.mv_walk.proofs.decoder.forget_all.Given as goal

abbrev pub invariant-loop-layer : goal.invariant-loop-layer
invariant-loop-layer g l = l.layers ≡ map (λ layer. no_pictures) (take l.layer-index l.initial.layers) ++ drop l.layer-index l.initial.layers
