use Rattle.std.proofs.Common.{◌≡◌, map, take}
use Rattle.mv_layers.specs.OutputLayers.{is_among}
use Rattle.mv_vpssets.proofs.sets.necessity.Given as goal

abbrev pub invariant-loop-layer : goal.invariant-loop-layer
invariant-loop-layer l = l.all.items ≡ map (is_among l.necessary) (take l.layer-index l.layers)
