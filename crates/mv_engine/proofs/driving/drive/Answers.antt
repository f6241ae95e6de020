use Rattle.mv_io.specs.Call.{input_of}
use Rattle.mv_engine.proofs.Endings.{no-memory}
use Rattle.mv_engine.proofs.Settled.{excused, settles}
use Rattle.mv_engine.proofs.driving.drive.Goals as goal

pub returns-in-Err-clause-driven : goal.returns-in-Err-clause-driven
returns-in-Err-clause-driven g c =
    no-memory g.R.UnitReader.format g.V.Visitor.meaning c.args.visitor.now c.args.out.now c.args.limit _ (g.met.V.Visitor.begins _ _ c.requires.opens)

pub returns-in-Err-clause-settles : goal.returns-in-Err-clause-settles
returns-in-Err-clause-settles g c = λ calm. excused (g.S.Source.state c.args.source.now).told

pub returns-clause-settles : goal.returns-clause-settles
returns-clause-settles g c =
    settles g.R.UnitReader.format g.V.Visitor.meaning g.met.R.UnitReader.is_format c.args.visitor.now c.drive_pieces.new.visitor c.args.out.now c.drive_pieces.new.out c.args.limit
    (input_of (g.S.Source.state c.args.source.now) (g.S.Source.state c.drive_pieces.new.source)) c.drive_pieces.result c.drive_pieces.ensures.driven
