use Rattle.std.proofs.Common.{subst}
use Rattle.std.specs.Option.{option_copied}
use Rattle.mv_pictures.specs.Items.{item}
use Rattle.mv_walk_sets.specs.InForce.{AreRead}
use Rattle.mv_walk_sets.specs.Taken.{IsVpsOf}
use Rattle.mv_walk_sets.proofs.VpsLaws.{first_refused, first_taken, vps_unit}
use Rattle.mv_walk_sets.proofs.vps.vps_of.Goals as goal

pub returns-in-Ok-read_new-clause-takes : goal.returns-in-Ok-read_new-clause-takes
returns-in-Ok-read_new-clause-takes c = λ past s are vps clean.
    let u = c.args.unit.now in
    let p = c.in-Ok.payload.items in
    let h = subst (λ o. IsVpsOf (item past u) (option_copied o) c.args.head.tid p) c.in-None.is (vps_unit past u p (option_copied c.args.before) c.args.head c.in-Ok.ensures s vps clean) in
    first_taken c.args.asked (item past u) c.args.head.tid p c.in-Ok-read_new.new h c.in-Ok-read_new.ensures.reads c.in-Ok-read_new.ensures.read

pub returns-in-Err-read_new-clause-takes : goal.returns-in-Err-read_new-clause-takes
returns-in-Err-read_new-clause-takes c = λ past s are vps clean.
    let u = c.args.unit.now in
    let p = c.in-Ok.payload.items in
    let h = subst (λ o. IsVpsOf (item past u) (option_copied o) c.args.head.tid p) c.in-None.is (vps_unit past u p (option_copied c.args.before) c.args.head c.in-Ok.ensures s vps clean) in
    first_refused c.args.asked (item past u) c.args.head.tid p c.in-Err-read_new.fault h c.in-Err-read_new.ensures.reads

pub returns-in-Some-clause-takes : goal.returns-in-Some-clause-takes
returns-in-Some-clause-takes c = λ past s are vps clean.
    let u = c.args.unit.now in
    let p = c.in-Ok.payload.items in
    let h = subst (λ o. IsVpsOf (item past u) (option_copied o) c.args.head.tid p) c.in-Some.is (vps_unit past u p (option_copied c.args.before) c.args.head c.in-Ok.ensures s vps clean) in
    c.behind.ensures.takes (item past u) h (subst (λ o. AreRead (option_copied o)) c.in-Some.is are)
