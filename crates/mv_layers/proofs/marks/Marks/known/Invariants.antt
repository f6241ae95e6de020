use Rattle.std.proofs.Common.{◌≡◌, ℕ, false, ◌||◌, get_or, take}
use Rattle.mv_layers.specs.LayerInfos.{is_known}
use Rattle.mv_layers.proofs.marks.Marks.known.Given as goal

abbrev pub invariant-loop-info : goal.invariant-loop-info
invariant-loop-info l = (k : ℕ) → get_or l.marks k false ≡ (is_known (take l.info-index l.infos) k || false)
