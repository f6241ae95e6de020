use Rattle.mv_reflists.proofs.Agreeing.{same_lists, same_list_entry, same_no_refs, same_collocated}
use Rattle.mv_reflists.proofs.laws.list_laws.Goals as goal

pub returns-clause-lists : goal.returns-clause-lists
returns-clause-lists c = λ p ctx full sizes s. same_lists p ctx full sizes s

pub returns-clause-list_entry : goal.returns-clause-list_entry
returns-clause-list_entry c = same_list_entry

pub returns-clause-no_refs : goal.returns-clause-no_refs
returns-clause-no_refs c = same_no_refs

pub returns-clause-collocated : goal.returns-clause-collocated
returns-clause-collocated c = same_collocated
