use Rattle.mv_units.proofs.Longer.{units-stay, leading-stays}
use Rattle.mv_units.proofs.Starts.{whole-count}
use Rattle.mv_units.proofs.laws.a_longer_string_keeps.Goals as goal

pub returns-clause-closed : goal.returns-clause-closed
returns-clause-closed c = λ s t done last is. units-stay s t done last is

pub returns-clause-leading : goal.returns-clause-leading
returns-clause-leading c = λ s t at is. leading-stays s t at is

pub returns-clause-count : goal.returns-clause-count
returns-clause-count c = λ ended s. whole-count ended s
