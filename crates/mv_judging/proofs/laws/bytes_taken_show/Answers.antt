use Rattle.mv_judging.proofs.Seen.{seen-stays, shows-seen, shows-only, shows-nothing}
use Rattle.mv_judging.proofs.laws.bytes_taken_show.Goals as goal

pub returns-clause-stays : goal.returns-clause-stays
returns-clause-stays c = seen-stays

pub returns-clause-shows : goal.returns-clause-shows
returns-clause-shows c = shows-seen

pub returns-clause-only : goal.returns-clause-only
returns-clause-only c = shows-only

pub returns-clause-nothing : goal.returns-clause-nothing
returns-clause-nothing c = λ f j t is late quiet e. shows-nothing f j t e is late quiet
