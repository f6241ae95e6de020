use Rattle.std.proofs.Common.{subst, sym, ap, ◌∙◌}
use Rattle.std.specs.Option.{IfSome}
use Rattle.mv_syntax.specs.Table.{Valid}
use Rattle.mv_slice.specs.Picture.{SlicePictureValue, references}
use Rattle.mv_slice.proofs.Totals.{references_valid}
use Rattle.mv_rps.proofs.ref_set.entries_of_picture.Goals as goal

pub entries_of-requires-clause-valid : goal.entries_of-requires-clause-valid
entries_of-requires-clause-valid c =
    subst (λ o. IfSome o (λ v. Valid (references c.args.ctx.now) v)) (sym (ap (λ (v : SlicePictureValue). v.references) c.fields.view_is) ∙ c.in-Some.is)
    (references_valid c.args.ctx.now c.args.kind c.args.fields.now c.requires.valid)
