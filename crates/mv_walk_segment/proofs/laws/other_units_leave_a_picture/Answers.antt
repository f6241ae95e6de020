use Rattle.mv_walk_segment.proofs.AfterLaws.{other-stands}
use Rattle.mv_walk_segment.proofs.laws.other_units_leave_a_picture.Goals as goal

pub returns : goal.returns
returns c = λ vps picture past p current other h. other-stands past p other vps picture current h
