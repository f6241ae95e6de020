use Rattle.mv_prefixed.proofs.Spelling.{longest}
use Rattle.mv_prefixed.proofs.ReadLaws.{decomposed}
use Rattle.mv_prefixed.proofs.laws.the_longest_front_is_read.Goals as goal

pub returns-clause-parts : goal.returns-clause-parts
returns-clause-parts c = λ s. (decomposed s).parts

pub returns-clause-plain : goal.returns-clause-plain
returns-clause-plain c = λ s. (decomposed s).plain

pub returns-clause-longest : goal.returns-clause-longest
returns-clause-longest c = longest
