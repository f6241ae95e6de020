use Rattle.std.proofs.lemmas.Bool.{eq-eqb, ne_eqb}
use Rattle.mv_pictures.specs.Look.{look}
use Rattle.mv_walk.proofs.Becoming.{start-decoded, started-takes, starts-none, starts-sequence, state-start}
use Rattle.mv_walk.proofs.Beginning.{ready-goes}
use Rattle.mv_walk.proofs.decoder.Decoder.start.Goals as goal

pub decode-requires-clause-may : goal.decode-requires-clause-may
decode-requires-clause-may g c =
    let m = c.requires.may in
    let d = start-decoded m.past m.fact m.first.picture (state-start _ m.fact m.state_is) in
    let none = starts-none c.args.vps.now c.args.segment.now m.past m.fact m.first (ne_eqb c.args.segment.now.head.layer 0 c.if-segment-ne0.true) in
    record { past = m.past; fact = m.fact; ready = ready-goes c.args.self.now m.past m.fact m.keeps m.first.picture none; first = m.first; decoded = d }

pub returns-then-segment-ne0-clause-takes : goal.returns-then-segment-ne0-clause-takes
returns-then-segment-ne0-clause-takes g c = λ past p k f start.
    let d = start-decoded past p f.picture start in
    let none = starts-none c.args.vps.now c.args.segment.now past p f (ne_eqb c.args.segment.now.head.layer 0 c.if-segment-ne0.true) in
    started-takes _ past p _ d (c.decode.ensures.decodes past p (ready-goes c.args.self.now past p k f.picture none) f d)

pub decode-requires-in-Ok-clause-may : goal.decode-requires-in-Ok-clause-may
decode-requires-in-Ok-clause-may g c =
    let m = c.requires.may in
    let start = state-start (look m.past m.fact) m.fact m.state_is in
    let sequence = starts-sequence c.args.vps.now c.args.segment.now m.past m.fact m.first (eq-eqb c.args.segment.now.head.layer 0 c.if-segment-ne0.false) start in
    record { past = m.past; fact = m.fact; ready = c.in-Ok.ensures.ready m.past m.fact m.keeps m.first sequence; first = m.first; decoded = start-decoded m.past m.fact m.first.picture start }

pub returns-in-Ok-clause-takes : goal.returns-in-Ok-clause-takes
returns-in-Ok-clause-takes g c = λ past p k f start.
    let d = start-decoded past p f.picture start in
    let sequence = starts-sequence c.args.vps.now c.args.segment.now past p f (eq-eqb c.args.segment.now.head.layer 0 c.if-segment-ne0.false) start in
    started-takes c.decode-in-Ok.new.self past p c.decode-in-Ok.result d (c.decode-in-Ok.ensures.decodes past p (c.in-Ok.ensures.ready past p k f sequence) f d)
