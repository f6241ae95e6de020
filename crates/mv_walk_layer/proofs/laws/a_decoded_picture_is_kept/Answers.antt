use Rattle.mv_walk_layer.proofs.Stepping.{decoded-step, start-step, whole-step}
use Rattle.mv_walk_layer.proofs.laws.a_decoded_picture_is_kept.Goals as goal

pub returns-clause-start : goal.returns-clause-start
returns-clause-start g c = start-step

pub returns-clause-decoded : goal.returns-clause-decoded
returns-clause-decoded g c = decoded-step

pub returns-clause-whole : goal.returns-clause-whole
returns-clause-whole g c = whole-step
