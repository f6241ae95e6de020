use Rattle.std.proofs.Common.{rules, ◌≡◌, ap, refl}
use Rattle.mv_walk.proofs.Starting.{few-wait, forgotten, sequence-ready}
use Rattle.mv_walk.proofs.decoder.Decoder.start_sequence.Goals as goal

pub begin-requires-clause-few : goal.begin-requires-clause-few
begin-requires-clause-few g c =
    let served : c.behind-segment.inside.value.0 ≡ c.args.segment.now.served.active.sps.value.0 = search rules in
    few-wait c.args.vps.now.value c.args.segment.now.head c.args.segment.now.served c.behind-segment.inside.value.0 served c.requires.can.serving

pub returns-clause-ready : goal.returns-clause-ready
returns-clause-ready g c =
    let served : c.behind-segment.inside.value.0 ≡ c.args.segment.now.served.active.sps.value.0 = search rules in
    sequence-ready c.args.self.now c.flush.new.self _ c.args.vps.now c.args.segment.now c.vps.inside.value c.behind-segment.inside.value.0 c.flush.ensures.rest (ap (λ v. v.value) c.vps.view_is) served
    (forgotten c.flush.new.self.layers c.deref_mut.result.now c.forget_all.new.layers c.forget_all.ensures c.deref_mut.ensures.value c.deref_mut.ensures.len)
    c.begin.ensures.stands refl refl refl
