use Rattle.mv_tried.proofs.Segments.{segment-rule}
use Rattle.mv_tried.proofs.laws.a_segment_breaks_by_its_sets.Goals as goal

pub returns : goal.returns
returns c = segment-rule
