-- What is held of a layer is sound while no unit breaks a rule.
use Rattle.std.proofs.Common.{◌≡◌, ℕ, true, List}
use Rattle.mv_pictures.specs.History.{history_of}
use Rattle.mv_pictures.specs.Verdict.{breaks_none}
use Rattle.mv_commuting.specs.HeldOneMore.{held_of}
use Rattle.mv_commuting.proofs.SoFar.{at_most-so-far, falls-so-far, held-counts-so-far}
use Rattle.mv_walk_layer.specs.Standing.{IsSound}

pub held-sound : (us : List (List ℕ)) (n : ℕ) → breaks_none (history_of us) ≡ true → IsSound (held_of (history_of us) n)
held-sound us n h = record { counted = held-counts-so-far us n h; falls = falls-so-far us n h; few = at_most-so-far us n h }
