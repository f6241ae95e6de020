use Rattle.std.proofs.Common.{◌≡◌, take}
use Rattle.std.specs.List.{filter_map}
use Rattle.mv_rps.specs.declared.resolving.Match.{Match}
use Rattle.mv_rps.proofs.resolving.matched_places.Given as goal

abbrev pub invariant-loop-i : goal.invariant-loop-i
invariant-loop-i l = l.out.items ≡ filter_map (λ (m : Match). m.place) (take l.i l.matches)
