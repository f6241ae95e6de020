use Rattle.mv_io.specs.Call.{input_of}
use Rattle.mv_extract.specs.Text.{no_sink, total}
use Rattle.mv_extract.proofs.Lacking.{has-set}
use Rattle.mv_extract.proofs.Unwritten.{unwritten}
use Rattle.mv_extract.proofs.extracting.check.Goals as goal

pub returns-clause-has_set : goal.returns-clause-has_set
returns-clause-has_set g c = λ asked count.
    has-set (total 0) c.args.limit (input_of (g.S.Source.state c.args.source.now) (g.S.Source.state c.extract.new.source)) no_sink c.extract.result asked count
    (unwritten c.args.limit (input_of (g.S.Source.state c.args.source.now) (g.S.Source.state c.extract.new.source)) c.extract.result c.extract.ensures.answers)
