use Rattle.std.proofs.Common.{◌≡◌, get_or, drop}
use Rattle.mv_reflists.specs.inner.Parts.{places_of}
use Rattle.mv_reflists.proofs.initial.place_at.Given as goal

-- what stands at i among all stands at what is left of i among the parts to come
abbrev pub invariant-loop-part : goal.invariant-loop-part
invariant-loop-part l = get_or (places_of l.order) l.fn.i 0 ≡ get_or (places_of (drop l.part-index l.order)) l.left 0
