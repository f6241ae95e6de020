use Rattle.std.proofs.Common.{subst}
use Rattle.std.specs.Option.{IfSome}
use Rattle.mv_syntax.specs.Table.{Valid}
use Rattle.mv_slice.specs.declared.slice.SliceFull.{SliceFull}
use Rattle.mv_slice.specs.Picture.{picture}
use Rattle.mv_slice.specs.InterLayer.{inter_layer}
use Rattle.mv_slice.proofs.Totals.{full_parts}
use Rattle.mv_slice.proofs.numbers.num_pic_total_curr.Goals as goal

pub num_pic_total_curr_of-requires-clause-picture : goal.num_pic_total_curr_of-requires-clause-picture
num_pic_total_curr_of-requires-clause-picture c =
    (subst (λ o. IfSome o (λ (part : SliceFull). Valid (picture c.args.ctx.now c.args.head.kind) part.picture × Valid (inter_layer c.args.ctx.now) part.inter_layer)) c.in-Some.is
    (full_parts c.args.ctx.now c.args.head.kind c.args.value.now c.requires.valid)).0

pub num_pic_total_curr_of-requires-clause-layers : goal.num_pic_total_curr_of-requires-clause-layers
num_pic_total_curr_of-requires-clause-layers c =
    (subst (λ o. IfSome o (λ (part : SliceFull). Valid (picture c.args.ctx.now c.args.head.kind) part.picture × Valid (inter_layer c.args.ctx.now) part.inter_layer)) c.in-Some.is
    (full_parts c.args.ctx.now c.args.head.kind c.args.value.now c.requires.valid)).1
