use Rattle.mv_tried.proofs.Verdicts.{each-none, judge-silent, none-each, none-first, none-less, none-more, unobjected-each}
use Rattle.mv_tried.proofs.laws.no_unit_breaks_a_rule.Goals as goal

pub returns-clause-each : goal.returns-clause-each
returns-clause-each c = none-each

pub returns-clause-all : goal.returns-clause-all
returns-clause-all c = each-none

pub returns-clause-unobjected : goal.returns-clause-unobjected
returns-clause-unobjected c = unobjected-each

pub returns-clause-first : goal.returns-clause-first
returns-clause-first c = none-first

pub returns-clause-more : goal.returns-clause-more
returns-clause-more c = none-more

pub returns-clause-more_by_the_judge : goal.returns-clause-more_by_the_judge
returns-clause-more_by_the_judge c = judge-silent

pub returns-clause-less : goal.returns-clause-less
returns-clause-less c = none-less
