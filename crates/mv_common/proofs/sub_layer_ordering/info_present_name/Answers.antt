use Rattle.std.proofs.Common.{refl}
use Rattle.mv_common.proofs.sub_layer_ordering.info_present_name.Goals as goal

pub returns-in-Video : goal.returns-in-Video
returns-in-Video c = rw c.in-Video.is refl

pub returns-in-Sequence : goal.returns-in-Sequence
returns-in-Sequence c = rw c.in-Sequence.is refl
