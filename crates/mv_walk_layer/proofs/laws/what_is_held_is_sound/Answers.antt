use Rattle.mv_walk_layer.proofs.Soundness.{held-sound}
use Rattle.mv_walk_layer.proofs.laws.what_is_held_is_sound.Goals as goal

pub returns : goal.returns
returns c = held-sound
