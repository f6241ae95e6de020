use Rattle.mv_engine.proofs.Written.{gained-nothing, gained-part, gained-then}
use Rattle.mv_engine.proofs.laws.gained_texts_add_up.Goals as goal

pub returns-clause-nothing : goal.returns-clause-nothing
returns-clause-nothing c = gained-nothing

pub returns-clause-more : goal.returns-clause-more
returns-clause-more c = gained-then

pub returns-clause-part : goal.returns-clause-part
returns-clause-part c = gained-part
