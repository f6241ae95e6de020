use Rattle.mv_bytestream.proofs.Takes.{resumes}
use Rattle.mv_bytestream.proofs.machine.Machine.resume.Goals as goal

pub returns-in-Given-clause-same : goal.returns-in-Given-clause-same
returns-in-Given-clause-same c =
    let e = c.begin_unit.ensures in
    resumes c.args.self.now c.begin_unit.new.self c.in-Given.is e.stage e.fed e.given e.place e.unit e.zeros
