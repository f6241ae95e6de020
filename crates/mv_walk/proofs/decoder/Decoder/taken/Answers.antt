use Rattle.std.proofs.Common.{sym, ◌∙◌}
use Rattle.mv_pictures.specs.Look.{look}
use Rattle.mv_walk.proofs.Becoming.{decoded-refused, decoded-takes, state-decoded, state-skipped, state-start, unchanged-unseen}
use Rattle.mv_walk.proofs.Beginning.{ready-goes}
use Rattle.mv_walk.proofs.Causes.{unseen}
use Rattle.mv_walk.proofs.Decoded.{no-sequence}
use Rattle.mv_walk.proofs.decoder.Decoder.taken.Goals as goal

pub skip-requires-clause-kept : goal.skip-requires-clause-kept
skip-requires-clause-kept g c = c.requires.may.keeps.all

pub skip-requires-clause-can : goal.skip-requires-clause-can
skip-requires-clause-can g c = c.requires.can

pub skip-requires-clause-read : goal.skip-requires-clause-read
skip-requires-clause-read g c = c.requires.read

pub decode-requires-clause-may : goal.decode-requires-clause-may
decode-requires-clause-may g c =
    let m = c.requires.may in
    let d = state-decoded m.past m.fact m.first.picture (sym c.in-Decoded.is ∙ m.state_is) in
    record { past = m.past; fact = m.fact; ready = ready-goes c.args.self.now m.past m.fact m.keeps m.first.picture (no-sequence m.past m.fact d.start_is); first = m.first; decoded = d }

pub decode-requires-clause-can : goal.decode-requires-clause-can
decode-requires-clause-can g c = c.requires.can

pub decode-requires-clause-read : goal.decode-requires-clause-read
decode-requires-clause-read g c = c.requires.read

pub decode-requires-clause-unit : goal.decode-requires-clause-unit
decode-requires-clause-unit g c = c.requires.unit

pub start-requires-clause-may : goal.start-requires-clause-may
start-requires-clause-may g c =
    let m = c.requires.may in
    record { past = m.past; fact = m.fact; keeps = m.keeps; first = m.first; state_is = sym c.in-Start.is ∙ m.state_is }

pub start-requires-clause-can : goal.start-requires-clause-can
start-requires-clause-can g c = c.requires.can

pub start-requires-clause-read : goal.start-requires-clause-read
start-requires-clause-read g c = c.requires.read

pub start-requires-clause-unit : goal.start-requires-clause-unit
start-requires-clause-unit g c = c.requires.unit

pub returns-in-Skipped-clause-takes : goal.returns-in-Skipped-clause-takes
returns-in-Skipped-clause-takes g c = λ past p k f state making. c.skip.ensures.takes past p k f (state-skipped (look past p) p (sym c.in-Skipped.is ∙ state)) making

pub returns-in-Skipped-clause-states : goal.returns-in-Skipped-clause-states
returns-in-Skipped-clause-states g c = c.skip.ensures.states

pub returns-in-Skipped-clause-asked : goal.returns-in-Skipped-clause-asked
returns-in-Skipped-clause-asked g c = c.skip.ensures.asked

pub returns-in-Skipped-clause-cause : goal.returns-in-Skipped-clause-cause
returns-in-Skipped-clause-cause g c = unseen _ _ c.skip.ensures.breaks

pub returns-in-Ok-clause-takes : goal.returns-in-Ok-clause-takes
returns-in-Ok-clause-takes g c = rw c.unchanged.ensures (λ past p k f state making.
    let d = state-decoded past p f.picture (sym c.in-Decoded.is ∙ state) in
    decoded-takes _ c.args.vps.now c.args.segment.now past p c.in-Ok.taken f d
    (c.in-Ok.ensures.decodes past p (ready-goes c.args.self.now past p k f.picture (no-sequence past p d.start_is)) f d))

pub returns-in-Ok-clause-states : goal.returns-in-Ok-clause-states
returns-in-Ok-clause-states g c = c.in-Ok.ensures.states

pub returns-in-Ok-clause-asked : goal.returns-in-Ok-clause-asked
returns-in-Ok-clause-asked g c = c.in-Ok.ensures.asked

pub returns-in-Ok-clause-cause : goal.returns-in-Ok-clause-cause
returns-in-Ok-clause-cause g c = rw c.unchanged.ensures (unseen _ _ (unchanged-unseen c.args.segment.now c.in-Ok.taken))

pub returns-in-Err-clause-takes : goal.returns-in-Err-clause-takes
returns-in-Err-clause-takes g c = λ past p k f state making.
    let d = state-decoded past p f.picture (sym c.in-Decoded.is ∙ state) in
    decoded-refused c.decode.new.self past p c.in-Err.stop d.decoded
    (c.in-Err.ensures.decodes past p (ready-goes c.args.self.now past p k f.picture (no-sequence past p d.start_is)) f d)

pub returns-in-Err-clause-states : goal.returns-in-Err-clause-states
returns-in-Err-clause-states g c = c.in-Err.ensures.states

pub returns-in-Err-clause-asked : goal.returns-in-Err-clause-asked
returns-in-Err-clause-asked g c = c.in-Err.ensures.asked

pub returns-in-Err-clause-cause : goal.returns-in-Err-clause-cause
returns-in-Err-clause-cause g c = unseen _ _ c.in-Err.ensures.breaks

pub returns-in-Start-clause-takes : goal.returns-in-Start-clause-takes
returns-in-Start-clause-takes g c = λ past p k f state making. c.start.ensures.takes past p k f (state-start (look past p) p (sym c.in-Start.is ∙ state))

pub returns-in-Start-clause-states : goal.returns-in-Start-clause-states
returns-in-Start-clause-states g c = c.start.ensures.states

pub returns-in-Start-clause-asked : goal.returns-in-Start-clause-asked
returns-in-Start-clause-asked g c = c.start.ensures.asked

pub returns-in-Start-clause-cause : goal.returns-in-Start-clause-cause
returns-in-Start-clause-cause g c = c.start.ensures.cause
