use Rattle.mv_tried.proofs.Heads as heads
use Rattle.mv_tried.proofs.laws.rules_on_access_units_are_tried_together.Goals as goal

pub returns-clause-first : goal.returns-clause-first
returns-clause-first c = heads.units-first

pub returns-clause-later : goal.returns-clause-later
returns-clause-later c = heads.units-later

pub returns-clause-other : goal.returns-clause-other
returns-clause-other c = heads.units-other
