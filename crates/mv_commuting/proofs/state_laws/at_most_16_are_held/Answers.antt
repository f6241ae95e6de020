use Rattle.mv_commuting.proofs.HeldBound.{at_most-of, falls-of, held-decoded, held-layer}
use Rattle.mv_commuting.proofs.state_laws.at_most_16_are_held.Goals as goal

pub returns-clause-of_the_layer : goal.returns-clause-of_the_layer
returns-clause-of_the_layer c = held-layer

pub returns-clause-decoded : goal.returns-clause-decoded
returns-clause-decoded c = held-decoded

pub returns-clause-falls : goal.returns-clause-falls
returns-clause-falls c = falls-of

pub returns-clause-at_most : goal.returns-clause-at_most
returns-clause-at_most c = at_most-of
