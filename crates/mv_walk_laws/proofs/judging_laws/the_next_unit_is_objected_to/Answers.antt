use Rattle.mv_walk_laws.proofs.ByKind.{lacks-none}
use Rattle.mv_walk_laws.proofs.Sound.{accepted-has, accepted-unbroken, broken-objected, objected-is, unbroken-objected}
use Rattle.mv_walk_laws.proofs.Verdicts.{other-accepted}
use Rattle.mv_walk_laws.proofs.judging_laws.the_next_unit_is_objected_to.Goals as goal

pub returns-clause-is : goal.returns-clause-is
returns-clause-is c = objected-is

pub returns-clause-broken : goal.returns-clause-broken
returns-clause-broken c = broken-objected

pub returns-clause-unbroken : goal.returns-clause-unbroken
returns-clause-unbroken c = unbroken-objected

pub returns-clause-breaks_none : goal.returns-clause-breaks_none
returns-clause-breaks_none c = accepted-unbroken

pub returns-clause-has_set : goal.returns-clause-has_set
returns-clause-has_set c = accepted-has

pub returns-clause-only_video_sets_lack : goal.returns-clause-only_video_sets_lack
returns-clause-only_video_sets_lack c = lacks-none

pub returns-clause-other : goal.returns-clause-other
returns-clause-other c = other-accepted
