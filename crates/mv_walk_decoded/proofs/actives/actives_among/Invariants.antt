use Rattle.std.proofs.Common.{◌≡◌, map, take}
use Rattle.mv_walk_decoded.specs.Actives.{active_named, in_place}
use Rattle.mv_walk_decoded.proofs.actives.actives_among.Given as goal

abbrev pub invariant-loop-number : goal.invariant-loop-number
invariant-loop-number g l = l.actives.items ≡ map (active_named l.layers (in_place l.vps) l.au l.directs) (take l.number-index l.numbers)
