use Rattle.std.proofs.Common.{◌≡◌, replicate}
use Rattle.mv_walk_layer.specs.LayerValue.{no_pictures}
use Rattle.mv_walk.proofs.decoder.no_layers.Given as goal

abbrev pub invariant-loop : goal.invariant-loop
invariant-loop g l = l.layers.items ≡ replicate l.counter no_pictures
