use Rattle.std.proofs.Common.{true, refl, ap, sym, subst, ◌∙◌}
use Rattle.std.specs.Prelude.{Ok, Err}
use Rattle.mv_pictures.specs.History.{history_of}
use Rattle.mv_commuting.specs.OneMore.{fact_behind}
use Rattle.mv_walk_sets.specs.InForce.{VpsInForceValue}
use Rattle.mv_walk.specs.Taking.{Takes}
use Rattle.mv_walk.specs.declared.ending.Stop.{Stop as StopValue}
use Rattle.mv_walk.proofs.Causes as causes
use Rattle.mv_walk.proofs.FirstTakes.{begun-by, first-can, first-in-stream, first-lacks, first-names, first-reads, first-unjoined}
use Rattle.mv_walk.proofs.SegmentTold.{short-unit, told-segment}
use Rattle.mv_walk.proofs.Joining.{few-items}
use Rattle.mv_walk.proofs.LaterTakes.{first-read-refused}
use Rattle.mv_walk.proofs.Needing.{segment-needs}
use Rattle.mv_walk.proofs.Segments.{first-refused, first-takes}
use Rattle.mv_walk.proofs.course.Course.take_first.Goals as goal

pub returns-in_default-clause-takes : goal.returns-in_default-clause-takes
returns-in_default-clause-takes g c = λ us stood few role. absurd (segment-needs c.args.self.now c.args.unit.now c.args.head c.requires.may c.in_default.is)

pub named-requires-clause-segment : goal.named-requires-clause-segment
named-requires-clause-segment g c =
    first-in-stream c.args.self.now c.requires.may.units c.args.unit.now c.args.head c.args.pps_id c.in-Some.vps c.vps.inside.value c.requires.may.stood c.requires.may.its_role c.requires.peek c.in-Some.is
    (ap (λ (v : VpsInForceValue). v.value) c.vps.view_is)

pub returns-in-Err-clause-takes : goal.returns-in-Err-clause-takes
returns-in-Err-clause-takes g c = λ us stood few role.
    subst (λ (s : StopValue). Takes c.args.self.now.decoder.asked us c.args.unit.now c.args.self.now (Err s)) (sym c.of_read.ensures)
    (first-lacks c.args.self.now c.args.self.now us c.args.unit.now c.args.head c.args.pps_id c.in-Some.vps c.vps.inside.value c.in-Err.fault stood role c.requires.peek c.in-Some.is (ap (λ (v : VpsInForceValue). v.value) c.vps.view_is) c.in-Err.ensures.answer)

pub returns-in-Err-clause-cause : goal.returns-in-Err-clause-cause
returns-in-Err-clause-cause g c = causes.unseen _ _ (λ wrong. causes.read-unseen c.in-Err.fault (ap Err (sym c.of_read.ensures) ∙ wrong))

pub returns-in-Err-read-clause-takes : goal.returns-in-Err-read-clause-takes
returns-in-Err-read-clause-takes g c = λ us stood few role.
    subst (λ (s : StopValue). Takes c.args.self.now.decoder.asked us c.args.unit.now c.args.self.now (Err s)) (sym c.of_read-in-Err-read.ensures)
    (first-read-refused c.args.self.now.decoder.asked c.args.self.now us c.args.unit.now c.args.head c.args.pps_id c.in-Err-read.fault role c.requires.peek
    (first-reads c.args.self.now us c.args.unit.now c.args.head c.args.pps_id c.in-Some.vps c.vps.inside.value c.in-Ok.served (Err c.in-Err-read.fault) stood role c.requires.peek c.in-Some.is (ap (λ (v : VpsInForceValue). v.value) c.vps.view_is)
    (first-names c.args.self.now us c.args.unit.now c.args.head c.args.pps_id c.in-Some.vps c.vps.inside.value (Ok c.in-Ok.served) stood role c.requires.peek c.in-Some.is (ap (λ (v : VpsInForceValue). v.value) c.vps.view_is) c.in-Ok.ensures.answer)
    c.in-Err-read.ensures.answer))

pub returns-in-Err-step-clause-takes : goal.returns-in-Err-step-clause-takes
returns-in-Err-step-clause-takes g c = λ us stood few role.
    first-unjoined c.args.self.now.decoder.asked c.args.self.now us c.args.unit.now c.args.head c.args.pps_id c.in-Ok-read.header c.in-Err-step.rule role c.requires.peek
    (first-reads c.args.self.now us c.args.unit.now c.args.head c.args.pps_id c.in-Some.vps c.vps.inside.value c.in-Ok.served (Ok c.in-Ok-read.header) stood role c.requires.peek c.in-Some.is (ap (λ (v : VpsInForceValue). v.value) c.vps.view_is)
    (first-names c.args.self.now us c.args.unit.now c.args.head c.args.pps_id c.in-Some.vps c.vps.inside.value (Ok c.in-Ok.served) stood role c.requires.peek c.in-Some.is (ap (λ (v : VpsInForceValue). v.value) c.vps.view_is) c.in-Ok.ensures.answer)
    c.in-Ok-read.ensures.answer)
    (c.in-Err-step.ensures.answer _ _ stood.units_are (told-segment us c.args.unit.now c.args.head true c.args.pps_id role c.requires.peek) (few-items us few))

pub first-requires-clause-may : goal.first-requires-clause-may
first-requires-clause-may g c =
    let m = c.requires.may in
    let b = begun-by c.args.self.now m.units c.args.unit.now c.args.pps_id c.in-Some.vps c.vps.inside.value
    (record { head = c.args.head; au = c.in-Ok-step.step.au; behind_change = c.eq.result; served = c.in-Ok.served; header = c.in-Ok-read.header })
    c.in-Ok-step.step c.step.new.self m.stood m.few m.its_role c.requires.peek c.in-Some.is (ap (λ (v : VpsInForceValue). v.value) c.vps.view_is) refl c.eq.ensures c.in-Ok.ensures.answer c.in-Ok-read.ensures.answer
    c.in-Ok-step.ensures.answer (λ before i s t f. c.in-Ok-step.ensures.stands before i s t f refl) in
    record { past = history_of m.units; fact = fact_behind m.units c.args.unit.now; keeps = m.stood.decoder_is.keeps; first = b.first }

pub first-requires-clause-can : goal.first-requires-clause-can
first-requires-clause-can g c =
    let m = c.requires.may in
    let b = begun-by c.args.self.now m.units c.args.unit.now c.args.pps_id c.in-Some.vps c.vps.inside.value
    (record { head = c.args.head; au = c.in-Ok-step.step.au; behind_change = c.eq.result; served = c.in-Ok.served; header = c.in-Ok-read.header })
    c.in-Ok-step.step c.step.new.self m.stood m.few m.its_role c.requires.peek c.in-Some.is (ap (λ (v : VpsInForceValue). v.value) c.vps.view_is) refl c.eq.ensures c.in-Ok.ensures.answer c.in-Ok-read.ensures.answer
    c.in-Ok-step.ensures.answer (λ before i s t f. c.in-Ok-step.ensures.stands before i s t f refl) in
    first-can c.args.self.now m.units c.args.unit.now c.args.pps_id c.in-Some.vps c.vps.inside.value
    (record { head = c.args.head; au = c.in-Ok-step.step.au; behind_change = c.eq.result; served = c.in-Ok.served; header = c.in-Ok-read.header })
    m.stood m.its_role c.requires.peek c.in-Some.is (ap (λ (v : VpsInForceValue). v.value) c.vps.view_is) b.named b.header c.in-Ok.ensures.serving c.in-Ok-read.ensures.valid

pub first-requires-clause-unit : goal.first-requires-clause-unit
first-requires-clause-unit g c = short-unit c.args.unit.now c.requires.may.its_role.clean

pub returns-in-Ok-first-clause-takes : goal.returns-in-Ok-first-clause-takes
returns-in-Ok-first-clause-takes g c = λ us stood few role.
    let b = begun-by c.args.self.now us c.args.unit.now c.args.pps_id c.in-Some.vps c.vps.inside.value
    (record { head = c.args.head; au = c.in-Ok-step.step.au; behind_change = c.eq.result; served = c.in-Ok.served; header = c.in-Ok-read.header })
    c.in-Ok-step.step c.step.new.self stood few role c.requires.peek c.in-Some.is (ap (λ (v : VpsInForceValue). v.value) c.vps.view_is) refl c.eq.ensures c.in-Ok.ensures.answer c.in-Ok-read.ensures.answer
    c.in-Ok-step.ensures.answer (λ before i s t f. c.in-Ok-step.ensures.stands before i s t f refl) in
    first-takes c.args.self.now _ us c.args.unit.now c.args.head c.args.pps_id c.in-Some.vps c.in-Ok-read.header c.in-Ok-first.told stood role c.requires.peek c.in-Some.is b.header b.unit
    (c.in-Ok-first.ensures.takes (history_of us) (fact_behind us c.args.unit.now) stood.decoder_is.keeps b.first) c.first.ensures.asked refl refl refl b.tracked

pub returns-in-Err-first-clause-takes : goal.returns-in-Err-first-clause-takes
returns-in-Err-first-clause-takes g c = λ us stood few role.
    let b = begun-by c.args.self.now us c.args.unit.now c.args.pps_id c.in-Some.vps c.vps.inside.value
    (record { head = c.args.head; au = c.in-Ok-step.step.au; behind_change = c.eq.result; served = c.in-Ok.served; header = c.in-Ok-read.header })
    c.in-Ok-step.step c.step.new.self stood few role c.requires.peek c.in-Some.is (ap (λ (v : VpsInForceValue). v.value) c.vps.view_is) refl c.eq.ensures c.in-Ok.ensures.answer c.in-Ok-read.ensures.answer
    c.in-Ok-step.ensures.answer (λ before i s t f. c.in-Ok-step.ensures.stands before i s t f refl) in
    first-refused c.args.self.now.decoder.asked (record c.args.self.now { decoder = c.first.new.self }) c.args.self.now us c.args.unit.now c.args.head c.args.pps_id c.in-Some.vps c.in-Ok-read.header c.in-Err-first.stop role c.requires.peek b.header b.unit
    (c.in-Err-first.ensures.takes (history_of us) (fact_behind us c.args.unit.now) stood.decoder_is.keeps b.first)
