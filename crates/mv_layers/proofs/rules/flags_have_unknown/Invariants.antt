use Rattle.std.proofs.Common.{◌≡◌, false, ◌&&◌, get_or, take, not, length}
use Rattle.std.specs.List.{list_any, range_with_len}
use Rattle.mv_layers.specs.LayerSets.{has_layer}
use Rattle.mv_layers.proofs.rules.flags_have_unknown.Given as goal

abbrev pub invariant-loop-id : goal.invariant-loop-id
invariant-loop-id l =
    list_any (λ id. has_layer l.flags id && not (get_or l.known id false)) (take l.id (range_with_len 0 (length l.flags))) ≡ false
