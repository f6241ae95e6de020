use Rattle.mv_tried.proofs.Verdicts.{names-unbroken, rise-unbroken, seats-unbroken}
use Rattle.mv_tried.proofs.laws.streams_obey_while_no_unit_breaks_a_rule.Goals as goal

pub returns-clause-names : goal.returns-clause-names
returns-clause-names c = names-unbroken

pub returns-clause-pictures_rise : goal.returns-clause-pictures_rise
returns-clause-pictures_rise c = rise-unbroken

pub returns-clause-one_video_parameter_set : goal.returns-clause-one_video_parameter_set
returns-clause-one_video_parameter_set c = seats-unbroken
