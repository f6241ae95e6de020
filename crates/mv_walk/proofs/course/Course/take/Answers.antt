use Rattle.std.proofs.Common.{ap, sym, subst, ◌∙◌}
use Rattle.mv_walk.specs.Taking.{IsRole, MayTake, Takes}
use Rattle.mv_walk.specs.declared.course.Course.{Course}
use Rattle.mv_walk.proofs.Causes as causes
use Rattle.mv_walk.proofs.StoodMore.{stray-takes}
use Rattle.mv_walk.proofs.course.Course.take.Goals as goal

pub returns-in-Stray-clause-takes : goal.returns-in-Stray-clause-takes
returns-in-Stray-clause-takes g c = λ us stood few role.
    subst (Takes c.args.self.now.decoder.asked us c.args.unit.now c.pass_over.new.self) (sym c.pass_over.ensures.none)
    (stray-takes c.args.self.now c.pass_over.new.self us c.args.unit.now c.args.head c.pass_over.ensures.rest stood (subst (IsRole us c.args.unit.now c.args.head) c.in-Stray.is role))

pub returns-in-Stray-clause-asked : goal.returns-in-Stray-clause-asked
returns-in-Stray-clause-asked g c = ap (λ (x : Course g.row.R.Denot g.row.R-Work.Denot g.row.R-Pic.Denot). x.decoder.asked) c.pass_over.ensures.rest

pub returns-in-Stray-clause-cause : goal.returns-in-Stray-clause-cause
returns-in-Stray-clause-cause g c = causes.unseen _ _ (λ wrong. causes.of-done _ (sym c.pass_over.ensures.none ∙ wrong))

pub take_passed-requires : goal.take_passed-requires
take_passed-requires g c = record { may = (c.args.unit.now, subst (MayTake c.args.self.now c.args.unit.now c.args.head) c.in-Passed.is c.requires.may) }

pub returns-in-Passed-clause-takes : goal.returns-in-Passed-clause-takes
returns-in-Passed-clause-takes g c = λ us stood few role. c.take_passed.ensures.takes us c.args.unit.now stood few (subst (IsRole us c.args.unit.now c.args.head) c.in-Passed.is role)

pub returns-in-Passed-clause-asked : goal.returns-in-Passed-clause-asked
returns-in-Passed-clause-asked g c = c.take_passed.ensures.asked

pub returns-in-Passed-clause-cause : goal.returns-in-Passed-clause-cause
returns-in-Passed-clause-cause g c = c.take_passed.ensures.cause

pub take_vps-requires : goal.take_vps-requires
take_vps-requires g c = record { may = subst (MayTake c.args.self.now c.args.unit.now c.args.head) c.in-Vps.is c.requires.may }

pub returns-in-Vps-clause-takes : goal.returns-in-Vps-clause-takes
returns-in-Vps-clause-takes g c = λ us stood few role. c.take_vps.ensures.takes us stood few (subst (IsRole us c.args.unit.now c.args.head) c.in-Vps.is role)

pub returns-in-Vps-clause-asked : goal.returns-in-Vps-clause-asked
returns-in-Vps-clause-asked g c = c.take_vps.ensures.asked

pub returns-in-Vps-clause-cause : goal.returns-in-Vps-clause-cause
returns-in-Vps-clause-cause g c = c.take_vps.ensures.cause

pub take_sps-requires : goal.take_sps-requires
take_sps-requires g c = record { may = subst (MayTake c.args.self.now c.args.unit.now c.args.head) c.in-Sps.is c.requires.may }

pub returns-in-Sps-clause-takes : goal.returns-in-Sps-clause-takes
returns-in-Sps-clause-takes g c = λ us stood few role. c.take_sps.ensures.takes us stood few (subst (IsRole us c.args.unit.now c.args.head) c.in-Sps.is role)

pub returns-in-Sps-clause-asked : goal.returns-in-Sps-clause-asked
returns-in-Sps-clause-asked g c = c.take_sps.ensures.asked

pub returns-in-Sps-clause-cause : goal.returns-in-Sps-clause-cause
returns-in-Sps-clause-cause g c = c.take_sps.ensures.cause

pub take_pps-requires : goal.take_pps-requires
take_pps-requires g c = record { may = subst (MayTake c.args.self.now c.args.unit.now c.args.head) c.in-Pps.is c.requires.may }

pub returns-in-Pps-clause-takes : goal.returns-in-Pps-clause-takes
returns-in-Pps-clause-takes g c = λ us stood few role. c.take_pps.ensures.takes us stood few (subst (IsRole us c.args.unit.now c.args.head) c.in-Pps.is role)

pub returns-in-Pps-clause-asked : goal.returns-in-Pps-clause-asked
returns-in-Pps-clause-asked g c = c.take_pps.ensures.asked

pub returns-in-Pps-clause-cause : goal.returns-in-Pps-clause-cause
returns-in-Pps-clause-cause g c = c.take_pps.ensures.cause

pub take_slice-requires : goal.take_slice-requires
take_slice-requires g c = record { may = subst (MayTake c.args.self.now c.args.unit.now c.args.head) c.in-Slice.is c.requires.may }

pub returns-in-Slice-clause-takes : goal.returns-in-Slice-clause-takes
returns-in-Slice-clause-takes g c = λ us stood few role. c.take_slice.ensures.takes us stood few (subst (IsRole us c.args.unit.now c.args.head) c.in-Slice.is role)

pub returns-in-Slice-clause-asked : goal.returns-in-Slice-clause-asked
returns-in-Slice-clause-asked g c = c.take_slice.ensures.asked

pub returns-in-Slice-clause-cause : goal.returns-in-Slice-clause-cause
returns-in-Slice-clause-cause g c = c.take_slice.ensures.cause
