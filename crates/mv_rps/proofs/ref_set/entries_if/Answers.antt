use Rattle.std.proofs.Common.{subst}
use Rattle.std.specs.Option.{IfSome}
use Rattle.mv_syntax.specs.Table.{Valid}
use Rattle.mv_slice.specs.declared.slice.SliceFull.{SliceFull}
use Rattle.mv_slice.specs.Picture.{picture}
use Rattle.mv_slice.specs.InterLayer.{inter_layer}
use Rattle.mv_slice.proofs.Totals.{full_parts}
use Rattle.mv_rps.proofs.ref_set.entries_if.Goals as goal

pub entries_of_picture-requires-clause-valid : goal.entries_of_picture-requires-clause-valid
entries_of_picture-requires-clause-valid c =
    (subst (λ o. IfSome o (λ (part : SliceFull). Valid (picture c.args.ctx.now c.args.kind) part.picture × Valid (inter_layer c.args.ctx.now) part.inter_layer)) c.in-Some.is
    (full_parts c.args.ctx.now c.args.kind c.args.head.now c.requires.valid)).0
