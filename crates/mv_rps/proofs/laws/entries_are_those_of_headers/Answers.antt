use Rattle.mv_rps.proofs.EntryLaws.{entries_coded, max_lsb_coded}
use Rattle.mv_rps.proofs.laws.entries_are_those_of_headers.Goals as goal

pub returns-clause-entries : goal.returns-clause-entries
returns-clause-entries c = entries_coded

pub returns-clause-max_lsb : goal.returns-clause-max_lsb
returns-clause-max_lsb c = max_lsb_coded
