use Rattle.std.specs.Prelude.{◌≡◌, ℕ, ◌<◌, true}
use Rattle.std.specs.List.Sorted.{IsStrictlyIncreasing}
use Rattle.mv_layers.specs.OutputLayers.{is_among}
use Rattle.mv_pictures.specs.Layers.{closure, directs}
use Rattle.mv_pictures.specs.Output.{outputs}
use Rattle.mv_commuting.proofs.InOrder.{closures-rise, described-of, directs-below, directs-rise, fact-of, outputs-rise}
use Rattle.mv_commuting.proofs.history_laws.layers_are_in_order.Goals as goal

pub returns-clause-described : goal.returns-clause-described
returns-clause-described c = described-of

pub returns-clause-directs_rise : goal.returns-clause-directs_rise
returns-clause-directs_rise c = fact-of (λ at. (n : ℕ) → IsStrictlyIncreasing (directs at n)) directs-rise

pub returns-clause-directs_below : goal.returns-clause-directs_below
returns-clause-directs_below c = fact-of (λ at. (n direct : ℕ) → is_among (directs at n) direct ≡ true → direct < n) directs-below

pub returns-clause-closures_rise : goal.returns-clause-closures_rise
returns-clause-closures_rise c = fact-of (λ at. (n : ℕ) → IsStrictlyIncreasing (closure at n)) closures-rise

pub returns-clause-outputs_rise : goal.returns-clause-outputs_rise
returns-clause-outputs_rise c = fact-of (λ at. (o : ℕ) → IsStrictlyIncreasing (outputs at o)) outputs-rise
