use Rattle.std.proofs.Common.{subst, rules, w32, SFits, to_z-of_z}
use Rattle.mv_provenance.specs.Message.{Fed}
use Rattle.mv_provenance.proofs.Joined.{joined4}
use Rattle.mv_provenance.proofs.digest2.add_reference.Goals as goal

pub returns : goal.returns
returns c = λ before fed.
    let pic = c.args.pic.now in
    let fits : SFits w32 pic.count = search rules in
    let fed4 = c.add-4.ensures.added _ (c.add-3.ensures.added _ (c.add-2.ensures.added _ (c.add.ensures.added before fed))) in
    subst (λ bytes. Fed c.add-4.new.self bytes)
    (joined4 before _ _ _ pic.bytes)
    (rw (c.kind_byte.ensures, c.mark_byte.ensures, c.to_be_bytes.ensures, c.to_be_bytes-2.ensures, to_z-of_z fits) at fed4)
