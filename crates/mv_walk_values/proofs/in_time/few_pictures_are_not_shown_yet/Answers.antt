use Rattle.mv_walk_values.proofs.InTime.{few_rest, few_rest_made}
use Rattle.mv_walk_values.proofs.in_time.few_pictures_are_not_shown_yet.Goals as goal

pub returns-clause-none_made : goal.returns-clause-none_made
returns-clause-none_made g c = few_rest

pub returns-clause-one_made : goal.returns-clause-one_made
returns-clause-one_made g c = few_rest_made
