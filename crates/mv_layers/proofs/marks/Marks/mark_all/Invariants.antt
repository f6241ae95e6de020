use Rattle.std.proofs.Common.{◌≡◌, ℕ, false, ◌||◌, get_or, take}
use Rattle.mv_layers.specs.OutputLayers.{is_among}
use Rattle.mv_layers.proofs.marks.Marks.mark_all.Given as goal

abbrev pub invariant-loop-id : goal.invariant-loop-id
invariant-loop-id l = (k : ℕ) → get_or l.self k false ≡ (is_among (take l.id-index l.ids) k || get_or l.fn.self k false)
