use Rattle.std.proofs.Common.{◌≡◌, None, drop}
use Rattle.std.specs.Option.{option_copied}
use Rattle.mv_sets.specs.Tables.{found, latest_from}
use Rattle.mv_sets.proofs.table.Table.latest.Given as goal

abbrev pub invariant-loop-layer : goal.invariant-loop-layer
invariant-loop-layer g l = latest_from (found l.self l.id) (option_copied l.best) (drop l.layer-index l.layers) ≡ latest_from (found l.self l.id) None l.layers
