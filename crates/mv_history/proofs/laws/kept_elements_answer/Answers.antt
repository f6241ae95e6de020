use Rattle.mv_history.proofs.Kept.{find-filter, filter-filter, list_any-filter, since-filter, from-filter, filter_swap}
use Rattle.mv_history.proofs.laws.kept_elements_answer.Goals as goal

pub returns-clause-latest : goal.returns-clause-latest
returns-clause-latest g c = find-filter

pub returns-clause-all : goal.returns-clause-all
returns-clause-all g c = filter-filter

pub returns-clause-some : goal.returns-clause-some
returns-clause-some g c = list_any-filter

pub returns-clause-since : goal.returns-clause-since
returns-clause-since g c = since-filter

pub returns-clause-from : goal.returns-clause-from
returns-clause-from g c = from-filter

pub returns-clause-either : goal.returns-clause-either
returns-clause-either g c = filter_swap
