use Rattle.std.proofs.Common.{◌≡◌, take}
use Rattle.std.specs.List.{filter_map}
use Rattle.mv_rps.specs.Matched.{long_place_at}
use Rattle.mv_rps.proofs.resolving.long_places.Given as goal

abbrev pub invariant-loop-i : goal.invariant-loop-i
invariant-loop-i l = l.out.items ≡ filter_map (long_place_at l.origin l.held) (take l.i l.entries)
