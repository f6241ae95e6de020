use Rattle.std.proofs.Common.{sym, subst}
use Rattle.std.specs.Prelude.{Err}
use Rattle.mv_walk.specs.Taking.{Peeks, Takes}
use Rattle.mv_walk.specs.declared.ending.Stop.{Stop as StopValue}
use Rattle.mv_walk.proofs.FirstTakes.{slice-kind}
use Rattle.mv_walk.proofs.Segments.{peeks-of, unread}
use Rattle.mv_walk.proofs.course.Course.take_slice.Goals as goal

pub peek_unit-requires : goal.peek_unit-requires
peek_unit-requires g c = record { slice = slice-kind c.requires.may.units c.args.unit.now c.args.head c.requires.may.its_role }

pub returns-in-Err-clause-takes : goal.returns-in-Err-clause-takes
returns-in-Err-clause-takes g c = λ us stood few role.
    subst (λ (s : StopValue). Takes c.args.self.now.decoder.asked us c.args.unit.now c.args.self.now (Err s)) (sym c.of_read.ensures)
    (unread c.args.self.now.decoder.asked c.args.self.now us c.args.unit.now c.args.head c.in-Err.fault role c.in-Err.ensures.refused)

pub take_first-requires-clause-peek : goal.take_first-requires-clause-peek
take_first-requires-clause-peek g c =
    subst (λ b. Peeks c.args.unit.now c.args.head b c.in-Ok.peek.pps_id) c.if-peek.true (peeks-of c.args.unit.now c.args.head c.in-Ok.peek c.in-Ok.ensures.fields)

pub take_later-requires-clause-peek : goal.take_later-requires-clause-peek
take_later-requires-clause-peek g c =
    subst (λ b. Peeks c.args.unit.now c.args.head b c.in-Ok.peek.pps_id) c.if-peek.false (peeks-of c.args.unit.now c.args.head c.in-Ok.peek c.in-Ok.ensures.fields)
