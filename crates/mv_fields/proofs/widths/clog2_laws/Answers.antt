use Rattle.mv_fields.proofs.WidthLaws.{clog2_least}
use Rattle.mv_fields.proofs.widths.clog2_laws.Goals as goal

pub returns : goal.returns
returns c = clog2_least
