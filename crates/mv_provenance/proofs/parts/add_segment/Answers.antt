use Rattle.std.proofs.Common.{[], ◌∷◌, subst}
use Rattle.mv_provenance.specs.Formats.{list_bytes}
use Rattle.mv_provenance.specs.Message.{Fed}
use Rattle.mv_provenance.proofs.Joined.{joined5}
use Rattle.mv_provenance.proofs.parts.add_segment.Goals as goal

pub returns : goal.returns
returns c = λ before fed.
    let fed5 = c.add_list-2.ensures _ (c.add_list.ensures _ (c.add-3.ensures.added _ (c.add-2.ensures.added _ (c.add.ensures.added before fed)))) in
    subst (λ bytes. Fed c.add_list-2.new.message bytes)
    (joined5 before (2 ∷ []) _ c.args.unit.now (list_bytes c.args.list0.now) (list_bytes c.args.list1.now))
    (rw (c.to_be_bytes.ensures) at fed5)
