use Rattle.std.proofs.Common.{◌∙◌, ◌<◌, ap, length, set, get_or}
use Rattle.std.specs.Prelude.{false}
use Rattle.mv_dpb.specs.Buffer.{marked}
use Rattle.mv_dpb.proofs.Picking.{marking-step}
use Rattle.mv_dpb.proofs.picked.mark.Goals as goal

pub loop-i-preserved : goal.loop-i-preserved
loop-i-preserved c =
    let within : c.loop-i.i < length c.args.keep.now = c.loop-i-test.true in
    let step = marking-step c.args.keep.now c.args.held.now.items c.loop-i.held.items c.loop-i.i (record { place = 0; long = false }) c.index_mut.result.now within c.requires c.loop-i.invariant.0 in
    (ap (λ h. set c.loop-i.held.items c.loop-i.i (marked (get_or c.args.keep.now c.loop-i.i (record { place = 0; long = false })).long h)) c.index_mut.ensures.value ∙ step, c.loop-i.invariant.1)
