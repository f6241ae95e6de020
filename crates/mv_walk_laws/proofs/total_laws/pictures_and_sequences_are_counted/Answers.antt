use Rattle.mv_walk_laws.proofs.Counting.{decoded-counted, decoded-more, no_picture-decoded, sequences-more}
use Rattle.mv_walk_laws.proofs.total_laws.pictures_and_sequences_are_counted.Goals as goal

pub returns-clause-pictures : goal.returns-clause-pictures
returns-clause-pictures c = decoded-counted

pub returns-clause-pictures_more : goal.returns-clause-pictures_more
returns-clause-pictures_more c = decoded-more

pub returns-clause-sequences_more : goal.returns-clause-sequences_more
returns-clause-sequences_more c = sequences-more

pub returns-clause-none : goal.returns-clause-none
returns-clause-none c = no_picture-decoded
