use Rattle.mv_tried.proofs.Finer.{later-decoded, later-skipped}
use Rattle.mv_tried.proofs.Pictures.{of_decoded-later-full}
use Rattle.mv_tried.proofs.laws.lists_are_tried_where_pictures_are_decoded.Goals as goal

pub returns-clause-decoded : goal.returns-clause-decoded
returns-clause-decoded c = later-decoded

pub returns-clause-skipped : goal.returns-clause-skipped
returns-clause-skipped c = later-skipped

pub returns-clause-its_segment : goal.returns-clause-its_segment
returns-clause-its_segment c = of_decoded-later-full
