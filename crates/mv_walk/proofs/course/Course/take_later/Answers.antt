use Rattle.std.proofs.Common.{◌≡◌, ℕ, false, List, None, refl, ap, sym, subst}
use Rattle.std.specs.Prelude.{Err, Ok}
use Rattle.mv_pictures.specs.History.{history_of}
use Rattle.mv_walk_sets.specs.InForce.{AreRead, VpsInForceValue}
use Rattle.mv_commuting.specs.OneMore.{fact_behind}
use Rattle.mv_au.specs.Tracker.{broken}
use Rattle.mv_walk_segment.specs.Serving.{IsHeader, IsInStream}
use Rattle.mv_walk_laws.specs.Streams.{placed_behind, placed_units}
use Rattle.mv_walk_laws.proofs.Steps.{answer-err, answer-ok}
use Rattle.mv_walk.specs.Taking.{Takes}
use Rattle.mv_walk.specs.declared.ending.Stop.{Stop as StopValue}
use Rattle.mv_walk.proofs.Joining.{few-items}
use Rattle.mv_walk.proofs.LaterAsks.{asks, never-view, stands-here}
use Rattle.mv_walk.proofs.LaterTakes.{in-stream, later-read-refused, later-reads-by}
use Rattle.mv_walk.proofs.Needing.{segment-needs}
use Rattle.mv_walk.proofs.SegmentTold.{short-unit, told-segment}
use Rattle.mv_walk.proofs.Segments.{later-refused, later-takes, later-unit-refused}
use Rattle.mv_walk.proofs.course.Course.take_later.Goals as goal

pub returns-in_default-clause-takes : goal.returns-in_default-clause-takes
returns-in_default-clause-takes g c = λ us stood few role. absurd (segment-needs c.args.self.now c.args.unit.now c.args.head c.requires.may c.in_default.is)

pub read_later-requires-clause-segment : goal.read_later-requires-clause-segment
read_later-requires-clause-segment g c =
    let m = c.requires.may in
    subst (λ w. IsInStream c.args.self.now.sets w c.args.head c.args.pps_id) (sym (ap (λ (x : VpsInForceValue). x.value) c.vps.view_is))
    (in-stream c.args.self.now m.units c.args.unit.now c.args.head false c.args.pps_id c.in-Some.vps m.stood m.its_role c.requires.peek c.in-Some.is)

pub returns-in-Err-clause-takes : goal.returns-in-Err-clause-takes
returns-in-Err-clause-takes g c = λ us stood few role.
    subst (λ (s : StopValue). Takes c.args.self.now.decoder.asked us c.args.unit.now c.args.self.now (Err s)) (sym c.of_read.ensures)
    (later-read-refused c.args.self.now.decoder.asked c.args.self.now us c.args.unit.now c.args.head c.args.pps_id c.in-Err.fault role c.requires.peek
    (later-reads-by c.args.self.now us c.args.unit.now c.args.head c.args.pps_id c.in-Some.vps c.vps.inside.value c.picture-picture.result.now (Err c.in-Err.fault) stood role c.requires.peek c.in-Some.is
    (ap (λ (x : VpsInForceValue). x.value) c.vps.view_is) c.picture-picture.ensures c.in-Err.ensures))

pub returns-in-Err-step-clause-takes : goal.returns-in-Err-step-clause-takes
returns-in-Err-step-clause-takes g c = λ us stood few role.
    let header : IsHeader c.in-Ok.header (fact_behind us c.args.unit.now) = (later-reads-by c.args.self.now us c.args.unit.now c.args.head c.args.pps_id c.in-Some.vps c.vps.inside.value c.picture-picture.result.now (Ok c.in-Ok.header) stood role c.requires.peek c.in-Some.is
    (ap (λ (x : VpsInForceValue). x.value) c.vps.view_is) c.picture-picture.ensures c.in-Ok.ensures) in
    later-unit-refused c.args.self.now.decoder.asked c.args.self.now us c.args.unit.now c.args.head c.args.pps_id c.in-Ok.header c.in-Err-step.rule role c.requires.peek header
    (answer-err us c.args.unit.now c.in-Err-step.rule (sym (c.in-Err-step.ensures.answer _ _ stood.units_are (told-segment us c.args.unit.now c.args.head false c.args.pps_id role c.requires.peek) (few-items us few))))

pub later-requires-clause-can : goal.later-requires-clause-can
later-requires-clause-can g c =
    let m = c.requires.may in
    let header : IsHeader c.in-Ok.header (fact_behind m.units c.args.unit.now) = (later-reads-by c.args.self.now m.units c.args.unit.now c.args.head c.args.pps_id c.in-Some.vps c.vps.inside.value c.picture-picture.result.now (Ok c.in-Ok.header) m.stood m.its_role c.requires.peek c.in-Some.is
    (ap (λ (x : VpsInForceValue). x.value) c.vps.view_is) c.picture-picture.ensures c.in-Ok.ensures) in
    let unit : broken (placed_units m.units) (placed_behind m.units c.args.unit.now) ≡ None = (answer-ok m.units c.args.unit.now c.in_default-step.field-0 (sym (c.in_default-step.ensures.answer _ _ m.stood.units_are (told-segment m.units c.args.unit.now c.args.head false c.args.pps_id m.its_role c.requires.peek) (few-items m.units m.few)))).1 in
    (asks c.args.self.now m.units c.args.unit.now c.args.head c.args.pps_id c.in-Some.vps m.stood m.its_role c.requires.peek c.in-Some.is c.in-Ok.header header unit).0

pub later-requires-clause-read : goal.later-requires-clause-read
later-requires-clause-read g c = subst AreRead c.in-Some.is c.requires.may.stood.read

pub later-requires-clause-unit : goal.later-requires-clause-unit
later-requires-clause-unit g c = short-unit c.args.unit.now c.requires.may.its_role.clean

pub returns-in-Ok-later-clause-takes : goal.returns-in-Ok-later-clause-takes
returns-in-Ok-later-clause-takes g c = λ us stood few role.
    let header : IsHeader c.in-Ok.header (fact_behind us c.args.unit.now) = (later-reads-by c.args.self.now us c.args.unit.now c.args.head c.args.pps_id c.in-Some.vps c.vps.inside.value c.picture-picture.result.now (Ok c.in-Ok.header) stood role c.requires.peek c.in-Some.is
    (ap (λ (x : VpsInForceValue). x.value) c.vps.view_is) c.picture-picture.ensures c.in-Ok.ensures) in
    let unit : broken (placed_units us) (placed_behind us c.args.unit.now) ≡ None = (answer-ok us c.args.unit.now c.in_default-step.field-0 (sym (c.in_default-step.ensures.answer _ _ stood.units_are (told-segment us c.args.unit.now c.args.head false c.args.pps_id role c.requires.peek) (few-items us few)))).1 in
    later-takes c.args.self.now _ us c.args.unit.now c.args.head c.args.pps_id c.in-Some.vps c.in-Ok.header stood role c.requires.peek c.in-Some.is header unit
    (c.in-Ok-later.ensures.takes (history_of us) (placed_behind us c.args.unit.now) (stands-here c.args.self.now us c.args.unit.now c.args.head c.args.pps_id c.in-Some.vps stood role c.requires.peek c.in-Some.is c.in-Ok.header header unit) (asks c.args.self.now us c.args.unit.now c.args.head c.args.pps_id c.in-Some.vps stood role c.requires.peek c.in-Some.is c.in-Ok.header header unit).1)
    c.later.ensures.asked refl refl refl (c.in_default-step.ensures.stands _ _ stood.units_are (told-segment us c.args.unit.now c.args.head false c.args.pps_id role c.requires.peek) (few-items us few) refl)

pub returns-in-Err-later-clause-takes : goal.returns-in-Err-later-clause-takes
returns-in-Err-later-clause-takes g c = λ us stood few role.
    let header : IsHeader c.in-Ok.header (fact_behind us c.args.unit.now) = (later-reads-by c.args.self.now us c.args.unit.now c.args.head c.args.pps_id c.in-Some.vps c.vps.inside.value c.picture-picture.result.now (Ok c.in-Ok.header) stood role c.requires.peek c.in-Some.is
    (ap (λ (x : VpsInForceValue). x.value) c.vps.view_is) c.picture-picture.ensures c.in-Ok.ensures) in
    let unit : broken (placed_units us) (placed_behind us c.args.unit.now) ≡ None = (answer-ok us c.args.unit.now c.in_default-step.field-0 (sym (c.in_default-step.ensures.answer _ _ stood.units_are (told-segment us c.args.unit.now c.args.head false c.args.pps_id role c.requires.peek) (few-items us few)))).1 in
    later-refused c.args.self.now.decoder.asked (record c.args.self.now { decoder = c.later.new.self }) c.args.self.now us c.args.unit.now c.args.head c.args.pps_id c.in-Some.vps c.in-Ok.header c.in-Err-later.stop role c.requires.peek header unit
    (c.in-Err-later.ensures.takes (history_of us) (placed_behind us c.args.unit.now) (stands-here c.args.self.now us c.args.unit.now c.args.head c.args.pps_id c.in-Some.vps stood role c.requires.peek c.in-Some.is c.in-Ok.header header unit) (asks c.args.self.now us c.args.unit.now c.args.head c.args.pps_id c.in-Some.vps stood role c.requires.peek c.in-Some.is c.in-Ok.header header unit).1)

pub returns-in-Err-later-clause-view : goal.returns-in-Err-later-clause-view
returns-in-Err-later-clause-view g c = λ view.
    let us : List (List ℕ) = c.requires.may.units in
    let stood = c.requires.may.stood in
    let role = c.requires.may.its_role in
    let header : IsHeader c.in-Ok.header (fact_behind us c.args.unit.now) = (later-reads-by c.args.self.now us c.args.unit.now c.args.head c.args.pps_id c.in-Some.vps c.vps.inside.value c.picture-picture.result.now (Ok c.in-Ok.header) stood role c.requires.peek c.in-Some.is
    (ap (λ (x : VpsInForceValue). x.value) c.vps.view_is) c.picture-picture.ensures c.in-Ok.ensures) in
    let unit : broken (placed_units us) (placed_behind us c.args.unit.now) ≡ None = (answer-ok us c.args.unit.now c.in_default-step.field-0 (sym (c.in_default-step.ensures.answer _ _ stood.units_are (told-segment us c.args.unit.now c.args.head false c.args.pps_id role c.requires.peek) (few-items us c.requires.may.few)))).1 in
    never-view c.args.self.now us c.args.unit.now c.args.head c.args.pps_id c.in-Some.vps stood role c.requires.peek c.in-Some.is c.in-Ok.header header unit c.later.new.self c.in-Err-later.stop
    (c.in-Err-later.ensures.takes (history_of us) (placed_behind us c.args.unit.now) (stands-here c.args.self.now us c.args.unit.now c.args.head c.args.pps_id c.in-Some.vps stood role c.requires.peek c.in-Some.is c.in-Ok.header header unit) (asks c.args.self.now us c.args.unit.now c.args.head c.args.pps_id c.in-Some.vps stood role c.requires.peek c.in-Some.is c.in-Ok.header header unit).1) (let e : c.in-Err-later.stop ≡ StopValue.View = cc in e)
