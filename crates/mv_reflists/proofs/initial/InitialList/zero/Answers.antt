use Rattle.std.proofs.Common.{◌++◌, refl, ap₂, arith}
use Rattle.mv_pictures.specs.Lists.{all_places}
use Rattle.mv_reflists.proofs.Places.{five_counted}
use Rattle.mv_reflists.proofs.initial.InitialList.zero.Goals as goal

pub invariant_of-result : goal.invariant_of-result
invariant_of-result c = omega (arith, five_counted c.parts_of-parts.result.before c.parts_of-parts.result.zero c.parts_of-parts.result.after c.parts_of-parts.result.long c.parts_of-parts.result.one, c.parts_of-parts.ensures.counts, c.total.ensures)

pub returns : goal.returns
unfolding all_places
returns c = ap₂ (λ a b. a ++ b) c.parts_of-parts.ensures.before (ap₂ (λ a b. a ++ b) c.parts_of-parts.ensures.zero (ap₂ (λ a b. a ++ b) c.parts_of-parts.ensures.after (ap₂ (λ a b. a ++ b) c.parts_of-parts.ensures.long (ap₂ (λ a b. a ++ b) c.parts_of-parts.ensures.one refl))))
