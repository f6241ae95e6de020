use Rattle.mv_commuting.proofs.HeldMore.{decoded-held, layer-held, layers-held, other-held, start-held}
use Rattle.mv_commuting.proofs.state_laws.held_with_one_unit_more.Goals as goal

pub returns-clause-start : goal.returns-clause-start
returns-clause-start c = start-held

pub returns-clause-decoded : goal.returns-clause-decoded
returns-clause-decoded c = decoded-held

pub returns-clause-other : goal.returns-clause-other
returns-clause-other c = other-held

pub returns-clause-its_layer : goal.returns-clause-its_layer
returns-clause-its_layer c = layer-held

pub returns-clause-other_layers : goal.returns-clause-other_layers
returns-clause-other_layers c = layers-held
