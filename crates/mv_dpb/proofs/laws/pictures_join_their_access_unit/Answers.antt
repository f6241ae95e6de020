use Rattle.mv_dpb.proofs.JoiningLaws.{put-begins, put-joins, whole-unbegun}
use Rattle.mv_dpb.proofs.laws.pictures_join_their_access_unit.Goals as goal

pub returns-clause-first : goal.returns-clause-first
returns-clause-first g c = put-begins

pub returns-clause-another : goal.returns-clause-another
returns-clause-another g c = put-joins

pub returns-clause-whole : goal.returns-clause-whole
returns-clause-whole g c = whole-unbegun
