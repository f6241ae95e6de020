use Rattle.std.proofs.Common.{ap, sym, subst}
use Rattle.mv_sets.specs.Store.{Stands}
use Rattle.mv_sets.proofs.Rooms.{pps-put}
use Rattle.mv_sets.proofs.store.SetStore.put_pps.Goals as goal

pub returns-clause-added : goal.returns-clause-added
returns-clause-added c = λ past f stands carries.
    pps-put (record { sps = c.self.inside.sps; pps = c.self.inside.pps }) c.self.invariant past f (subst (λ s. Stands s past) (sym c.self.view_is) stands)
    (record { layer = c.args.layer; payload = c.args.payload.now; value = c.args.pps }) c.requires.layer c.requires.id carries
    c.pps.inside.opening.pps_pic_parameter_set_id (ap (λ v. v.0.opening.pps_pic_parameter_set_id) c.pps.view_is) c.in_ok-set.set.value c.in_ok-set.ensures c.put.new.self c.put.ensures
