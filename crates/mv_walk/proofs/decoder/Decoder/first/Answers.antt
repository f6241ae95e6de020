use Rattle.std.proofs.Common.{None, ap, sym, subst, ◌∙◌, ◌∷◌}
use Rattle.mv_pictures.specs.History.{judged}
use Rattle.mv_au.specs.States as states
use Rattle.mv_walk.proofs.Answered.{first-refused, first-stateless, first-unclosed, making-but_states, pictures-but_states, state-unseen}
use Rattle.mv_walk.proofs.Causes.{behind, of-done, same-stop, told}
use Rattle.mv_walk.proofs.Opening.{first-taken}
use Rattle.mv_walk.proofs.decoder.Decoder.first.Goals as goal

pub before_picture-requires : goal.before_picture-requires
before_picture-requires g c = record { kept = record { past = c.requires.may.past; keeps = c.requires.may.keeps } }

pub returns-in-Err-clause-takes : goal.returns-in-Err-clause-takes
returns-in-Err-clause-takes g c = λ past p k f. first-unclosed c.args.self.now c.args.vps.now past p c.in-Err.stop c.in-Err.ensures.breaks

pub returns-in-Err-clause-asked : goal.returns-in-Err-clause-asked
returns-in-Err-clause-asked g c = c.in-Err.ensures.asked

pub returns-in-Err-clause-cause : goal.returns-in-Err-clause-cause
returns-in-Err-clause-cause g c = told _ _ _ _ c.in-Err.ensures.cause (same-stop c.in-Err.stop)

pub state-requires-clause-can : goal.state-requires-clause-can
state-requires-clause-can g c = c.requires.can

pub state-requires-clause-read : goal.state-requires-clause-read
state-requires-clause-read g c = c.requires.read

pub returns-in-Err-state-clause-takes : goal.returns-in-Err-state-clause-takes
returns-in-Err-state-clause-takes g c = λ past p k f.
    first-stateless c.args.self.now c.args.self.now c.args.vps.now past p c.in-Err-state.stop (c.in-Err-state.ensures.takes past p (c.in_default.ensures.closes past k).keeps f)

pub returns-in-Err-state-clause-asked : goal.returns-in-Err-state-clause-asked
returns-in-Err-state-clause-asked g c = ap (λ d. d.asked) c.in-Err-state.ensures.rest ∙ c.in_default.ensures.asked

pub returns-in-Err-state-clause-cause : goal.returns-in-Err-state-clause-cause
returns-in-Err-state-clause-cause g c =
    let m = c.requires.may in
    let t = c.in-Err-state.ensures.takes m.past m.fact (c.in_default.ensures.closes m.past m.keeps).keeps m.first in
    record { never_falls = c.in_default.ensures.cause.never_falls; rose = λ is. absurd (state-unseen c.args.self.now m.past m.fact c.in-Err-state.stop t is) }

pub taken-requires-clause-may : goal.taken-requires-clause-may
taken-requires-clause-may g c =
    let m = c.requires.may in
    let b = c.in_default.ensures.closes m.past m.keeps in
    let t = c.in-Ok.ensures.takes m.past m.fact b.keeps m.first in
    record { past = m.past; fact = m.fact; keeps = pictures-but_states _ _ m.past None c.in-Ok.ensures.rest b.keeps.pictures; first = m.first; state_is = t.1 }

pub taken-requires-clause-can : goal.taken-requires-clause-can
taken-requires-clause-can g c = c.requires.can

pub taken-requires-clause-read : goal.taken-requires-clause-read
taken-requires-clause-read g c = c.requires.read

pub taken-requires-clause-unit : goal.taken-requires-clause-unit
taken-requires-clause-unit g c = c.requires.unit

pub returns-in-Ok-taken-clause-takes : goal.returns-in-Ok-taken-clause-takes
returns-in-Ok-taken-clause-takes g c = rw c.new.ensures (λ past p k f.
    let b = c.in_default.ensures.closes past k in
    let t = c.in-Ok.ensures.takes past p b.keeps f in
    let kept = pictures-but_states _ _ past None c.in-Ok.ensures.rest b.keeps.pictures in
    let none = making-but_states c.before_picture.new.self c.state.new.self c.in-Ok.ensures.rest b.none_made in
    let u = c.in-Ok-taken.ensures.takes past p kept f t.1 none in
    first-taken _ c.args.vps.now c.args.segment past p _ (c.in-Ok-taken.count, c.in-Ok-taken.decoded) f c.requires.can.serving t.0 t.1
    (subst (λ s. states.Stands s (judged past p ∷ past)) (sym c.in-Ok-taken.ensures.states) t.2) u)

pub returns-in-Ok-taken-clause-asked : goal.returns-in-Ok-taken-clause-asked
returns-in-Ok-taken-clause-asked g c = c.in-Ok-taken.ensures.asked ∙ ap (λ d. d.asked) c.in-Ok.ensures.rest ∙ c.in_default.ensures.asked

pub returns-in-Ok-taken-clause-cause : goal.returns-in-Ok-taken-clause-cause
returns-in-Ok-taken-clause-cause g c = told _ _ _ _ (behind _ _ _ _ c.in_default.ensures.cause.never_falls c.in-Ok-taken.ensures.cause) (λ is. absurd (of-done _ is))

pub returns-in-Err-taken-clause-takes : goal.returns-in-Err-taken-clause-takes
returns-in-Err-taken-clause-takes g c = λ past p k f.
    let b = c.in_default.ensures.closes past k in
    let t = c.in-Ok.ensures.takes past p b.keeps f in
    let kept = pictures-but_states _ _ past None c.in-Ok.ensures.rest b.keeps.pictures in
    let none = making-but_states c.before_picture.new.self c.state.new.self c.in-Ok.ensures.rest b.none_made in
    first-refused c.args.self.now c.args.self.now c.args.vps.now past p c.in-Err-taken.stop t.0 (c.in-Err-taken.ensures.takes past p kept f t.1 none)

pub returns-in-Err-taken-clause-asked : goal.returns-in-Err-taken-clause-asked
returns-in-Err-taken-clause-asked g c = c.in-Err-taken.ensures.asked ∙ ap (λ d. d.asked) c.in-Ok.ensures.rest ∙ c.in_default.ensures.asked

pub returns-in-Err-taken-clause-cause : goal.returns-in-Err-taken-clause-cause
returns-in-Err-taken-clause-cause g c =
    told _ _ _ _ (behind _ _ _ _ c.in_default.ensures.cause.never_falls c.in-Err-taken.ensures.cause) (same-stop c.in-Err-taken.stop)
