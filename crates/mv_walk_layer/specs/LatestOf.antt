-- What is told of a decoded picture as it is kept.
use Rattle.mv_walk_layer.specs.declared.layer.Latest.{Latest}
use Rattle.mv_walk_layer.specs.LayerValue.{LatestValue}

abbrev pub latest_of : Latest → LatestValue
latest_of l = record { au = l.au; payload = l.sps.value.payload; format = l.format }
