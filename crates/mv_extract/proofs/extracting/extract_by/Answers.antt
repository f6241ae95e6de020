use Rattle.std.proofs.Common.{Err, refl}
use Rattle.mv_io.specs.Call.{input_of, output_of}
use Rattle.mv_walk.specs.Standing.{Stands}
use Rattle.mv_extract.specs.Text.{total}
use Rattle.mv_extract.specs.declared.extractor.Extractor.{Extractor}
use Rattle.mv_extract.proofs.Commuted.{extracted}
use Rattle.mv_extract.proofs.Lacking.{lacks-only}
use Rattle.mv_extract.proofs.Extractions.{finished, stopped}
use Rattle.mv_extract.proofs.extracting.extract_by.Goals as goal

pub returns-in-Ok-clause-answers : goal.returns-in-Ok-clause-answers
returns-in-Ok-clause-answers g c =
    finished g.K.Sink.state (λ (v : Extractor g.row.K.Denot). v.walker.asked) (λ (v : Extractor g.row.K.Denot) us. Stands v.walker us) (λ (v : Extractor g.row.K.Denot). v.totals)
    c.args.visitor.now c.drive.new.visitor c.args.sink.now c.drive.new.out c.args.limit _ c.args.visitor.now.walker.asked refl c.in-Ok.ensures.driven

pub returns-in-Ok-clause-commutes : goal.returns-in-Ok-clause-commutes
returns-in-Ok-clause-commutes g c =
    extracted (total c.args.visitor.now.walker.asked) c.args.visitor.now.walker.asked c.args.limit _ _ c.drive.new.visitor.totals
    (finished g.K.Sink.state (λ (v : Extractor g.row.K.Denot). v.walker.asked) (λ (v : Extractor g.row.K.Denot) us. Stands v.walker us) (λ (v : Extractor g.row.K.Denot). v.totals)
    c.args.visitor.now c.drive.new.visitor c.args.sink.now c.drive.new.out c.args.limit _ c.args.visitor.now.walker.asked refl c.in-Ok.ensures.driven)

pub returns-in-Err-clause-answers : goal.returns-in-Err-clause-answers
returns-in-Err-clause-answers g c =
    stopped g.K.Sink.state (λ (v : Extractor g.row.K.Denot). v.walker.asked) (λ (v : Extractor g.row.K.Denot) us. Stands v.walker us) (λ (v : Extractor g.row.K.Denot). v.totals)
    c.args.visitor.now c.drive.new.visitor c.args.sink.now c.drive.new.out c.args.limit _ c.args.visitor.now.walker.asked c.in-Err.error c.of.result refl c.in-Err.ensures.driven c.of.ensures

pub returns-in-Err-clause-lacks : goal.returns-in-Err-clause-lacks
returns-in-Err-clause-lacks g c =
    lacks-only (total c.args.visitor.now.walker.asked) c.args.visitor.now.walker.asked c.args.limit
    (input_of (g.S.Source.state c.args.source.now) (g.S.Source.state c.drive.new.source)) (output_of (g.K.Sink.state c.args.sink.now) (g.K.Sink.state c.drive.new.out)) (Err c.of.result)
    (stopped g.K.Sink.state (λ (v : Extractor g.row.K.Denot). v.walker.asked) (λ (v : Extractor g.row.K.Denot) us. Stands v.walker us) (λ (v : Extractor g.row.K.Denot). v.totals)
    c.args.visitor.now c.drive.new.visitor c.args.sink.now c.drive.new.out c.args.limit _ c.args.visitor.now.walker.asked c.in-Err.error c.of.result refl c.in-Err.ensures.driven c.of.ensures)
