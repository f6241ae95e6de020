use Rattle.std.proofs.Common.{sym, subst, true, false}
use Rattle.mv_au.specs.States.{Stands}
use Rattle.mv_au.proofs.StateLaws.{stands-none}
use Rattle.mv_au.proofs.states.LayerStates.new.Goals as goal

pub returns : goal.returns
returns c = subst (λ layers. Stands (record { layers = layers; anew = true; in_first_au = false }) _) (sym c.no_states.ensures) stands-none
