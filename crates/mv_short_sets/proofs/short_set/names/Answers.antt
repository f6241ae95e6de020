use Rattle.std.proofs.Common.{refl}
use Rattle.mv_short_sets.proofs.short_set.names.Goals as goal

pub returns-in-Before-clause-delta : goal.returns-in-Before-clause-delta
returns-in-Before-clause-delta c = rw c.in-Before.is refl

pub returns-in-Before-clause-used : goal.returns-in-Before-clause-used
returns-in-Before-clause-used c = rw c.in-Before.is refl

pub returns-in-After-clause-delta : goal.returns-in-After-clause-delta
returns-in-After-clause-delta c = rw c.in-After.is refl

pub returns-in-After-clause-used : goal.returns-in-After-clause-used
returns-in-After-clause-used c = rw c.in-After.is refl
