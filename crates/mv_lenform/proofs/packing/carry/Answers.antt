use Rattle.std.proofs.Common.{length}
use Rattle.mv_extract.proofs.Ended.{done, ended}
use Rattle.mv_lenform.specs.declared.carrier.Carrier.{Carrier}
use Rattle.mv_lenform.specs.Carrying.{carrier}
use Rattle.mv_lenform.proofs.Carried.{nobody-sound}
use Rattle.mv_lenform.proofs.packing.carry.Goals as goal

pub returns-in-Ok-clause-answers : goal.returns-in-Ok-clause-answers
returns-in-Ok-clause-answers g c =
    (done g.R.UnitReader.format g.K.Sink.state (carrier (λ (v : Carrier g.row.K.Denot). v.to) (λ (v : Carrier g.row.K.Denot). v.count)) length _ c.drive.new.visitor c.args.sink.now c.drive.new.out c.args.limit _ _ c.in-Ok.ensures.driven (λ us closed. closed)).answers

pub returns-in-Err-clause-answers : goal.returns-in-Err-clause-answers
returns-in-Err-clause-answers g c =
    (ended g.R.UnitReader.format g.K.Sink.state (carrier (λ (v : Carrier g.row.K.Denot). v.to) (λ (v : Carrier g.row.K.Denot). v.count)) length _ c.drive.new.visitor c.args.sink.now c.drive.new.out c.args.limit _ c.in-Err.error c.of.result
    (nobody-sound g.R.UnitReader.format g.met.R.UnitReader.is_format) c.in-Err.ensures.driven c.of.ensures).answers
