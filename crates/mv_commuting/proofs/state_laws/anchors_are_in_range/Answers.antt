use Rattle.mv_commuting.proofs.Anchors.{anchor-of, anchors-of, counts-of}
use Rattle.mv_commuting.proofs.state_laws.anchors_are_in_range.Goals as goal

pub returns-clause-decoded : goal.returns-clause-decoded
returns-clause-decoded c = anchors-of

pub returns-clause-counts : goal.returns-clause-counts
returns-clause-counts c = counts-of

pub returns-clause-anchor : goal.returns-clause-anchor
returns-clause-anchor c = anchor-of
