use Rattle.std.proofs.Common.{filter, map}
use Rattle.mv_judging.specs.Facts.{Fact, facts_behind}
use Rattle.mv_judging.proofs.Extracts.{facts-bytes, facts-push, extract-append, extract-push}
use Rattle.mv_judging.proofs.laws.units_more_are_kept.Goals as goal

pub returns-clause-bytes : goal.returns-clause-bytes
returns-clause-bytes c = facts-bytes

pub returns-clause-facts : goal.returns-clause-facts
returns-clause-facts c = facts-push

pub returns-clause-push : goal.returns-clause-push
returns-clause-push c = extract-push

pub returns-clause-begins : goal.returns-clause-begins
returns-clause-begins c = λ kept us vs. (map (λ (f : Fact). f.bytes) (filter kept (facts_behind us vs)), extract-append kept us vs)
