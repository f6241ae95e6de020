use Rattle.mv_walk_values.proofs.Whole.{whole_coming, whole_put, whole_stands, whole_unput}
use Rattle.mv_walk_values.proofs.steps.a_whole_picture_is_kept.Goals as goal

pub returns-clause-comes : goal.returns-clause-comes
returns-clause-comes g c = whole_coming _

pub returns-clause-unput : goal.returns-clause-unput
returns-clause-unput g c = whole_unput _

pub returns-clause-put : goal.returns-clause-put
returns-clause-put g c = whole_put _

pub returns-clause-whole : goal.returns-clause-whole
returns-clause-whole g c = whole_stands _
