use Rattle.std.proofs.Common.{refl}
use Rattle.mv_common.proofs.sub_layer_ordering.names.Goals as goal

pub returns-in-Video-clause-buffering : goal.returns-in-Video-clause-buffering
returns-in-Video-clause-buffering c = rw c.in-Video.is refl

pub returns-in-Video-clause-reorder : goal.returns-in-Video-clause-reorder
returns-in-Video-clause-reorder c = rw c.in-Video.is refl

pub returns-in-Video-clause-latency : goal.returns-in-Video-clause-latency
returns-in-Video-clause-latency c = rw c.in-Video.is refl

pub returns-in-Sequence-clause-buffering : goal.returns-in-Sequence-clause-buffering
returns-in-Sequence-clause-buffering c = rw c.in-Sequence.is refl

pub returns-in-Sequence-clause-reorder : goal.returns-in-Sequence-clause-reorder
returns-in-Sequence-clause-reorder c = rw c.in-Sequence.is refl

pub returns-in-Sequence-clause-latency : goal.returns-in-Sequence-clause-latency
returns-in-Sequence-clause-latency c = rw c.in-Sequence.is refl
