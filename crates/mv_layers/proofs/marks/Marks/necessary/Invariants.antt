use Rattle.std.proofs.Common.{◌≡◌, ℕ, false, ◌||◌, get_or, take}
use Rattle.mv_layers.specs.OutputLayers.{is_necessary}
use Rattle.mv_layers.proofs.marks.Marks.necessary.Given as goal

abbrev pub invariant-loop-info : goal.invariant-loop-info
invariant-loop-info l = (k : ℕ) → get_or l.marks k false ≡ (is_necessary (take l.info-index l.infos) l.outputs k || false)
