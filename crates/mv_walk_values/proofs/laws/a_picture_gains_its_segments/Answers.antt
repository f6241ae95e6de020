use Rattle.mv_walk_values.proofs.Terms.{first_parts, parts_more, value_kept, value_of_parts}
use Rattle.mv_walk_values.proofs.laws.a_picture_gains_its_segments.Goals as goal

pub returns-clause-value : goal.returns-clause-value
returns-clause-value g c = value_of_parts

pub returns-clause-more : goal.returns-clause-more
returns-clause-more g c = parts_more

pub returns-clause-kept : goal.returns-clause-kept
returns-clause-kept g c = value_kept

pub returns-clause-first : goal.returns-clause-first
returns-clause-first g c = first_parts
