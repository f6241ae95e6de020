use Rattle.mv_rebuild.proofs.Texts.{first_is, next_is, none_is}
use Rattle.mv_rebuild.proofs.laws.pictures_are_put_out_one_after_another.Goals as goal

pub returns-clause-none : goal.returns-clause-none
returns-clause-none g c = none_is

pub returns-clause-next : goal.returns-clause-next
returns-clause-next g c = next_is

pub returns-clause-first_of_next : goal.returns-clause-first_of_next
returns-clause-first_of_next g c = first_is
