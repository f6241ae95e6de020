use Rattle.std.proofs.Common.{◌≡◌, take}
use Rattle.std.specs.List.{filter}
use Rattle.mv_layers.specs.OutputLayers.{is_necessary}
use Rattle.mv_layers.proofs.output_layers.necessary_layers.Given as goal

abbrev pub invariant-loop-layer : goal.invariant-loop-layer
invariant-loop-layer l = l.all.items ≡ filter (is_necessary l.infos l.outputs) (take l.layer-index l.layers)
