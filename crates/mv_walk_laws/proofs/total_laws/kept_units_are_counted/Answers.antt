use Rattle.mv_walk_laws.proofs.Counting.{extract-more, kept-by, kept-counted, kept-more}
use Rattle.mv_walk_laws.proofs.total_laws.kept_units_are_counted.Goals as goal

pub returns-clause-extract : goal.returns-clause-extract
returns-clause-extract c = kept-counted

pub returns-clause-more : goal.returns-clause-more
returns-clause-more c = kept-more

pub returns-clause-extract_more : goal.returns-clause-extract_more
returns-clause-extract_more c = extract-more

pub returns-clause-by_the_set : goal.returns-clause-by_the_set
returns-clause-by_the_set c = kept-by
