use Rattle.std.proofs.Common.{ap, sym, subst, ◌∙◌}
use Rattle.mv_sets.specs.Store.{Stands}
use Rattle.mv_sets.proofs.Rooms.{put-is, sps-put}
use Rattle.mv_sets.proofs.store.SetStore.put_sps.Goals as goal

pub returns-clause-added : goal.returns-clause-added
returns-clause-added c = λ past f stands carries.
    sps-put (record { sps = c.self.inside.sps; pps = c.self.inside.pps }) c.self.invariant past f (subst (λ s. Stands s past) (sym c.self.view_is) stands)
    (record { layer = c.args.layer; payload = c.args.payload.now; value = c.args.sps }) c.requires.layer c.requires.id carries
    c.sps-inside.inside.0.0.sps_seq_parameter_set_id
    (ap (λ i. i.opening.sps_seq_parameter_set_id) c.sps-inside.view_is ∙ ap (λ v. v.0.opening.sps_seq_parameter_set_id) c.sps.view_is)
    c.in_ok-set.set.value c.in_ok-set.ensures c.put.new.self c.put.ensures

pub invariant_of-self : goal.invariant_of-self
invariant_of-self c =
    put-is (record { sps = c.self.inside.sps; pps = c.self.inside.pps }) c.self.invariant c.args.layer c.sps-inside.inside.0.0.sps_seq_parameter_set_id
    c.in_ok-set.set.value (record { layer = c.args.layer; payload = c.args.payload.now; value = c.args.sps }) c.in_ok-set.ensures c.requires.format c.put.new.self c.put.ensures
