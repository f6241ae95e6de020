use Rattle.std.proofs.Common.{IfOk, subst}
use Rattle.mv_io.specs.Call.{input_of, output_of}
use Rattle.mv_judging.specs.Format.{byte_stream}
use Rattle.mv_pictures.specs.Verdict.{pictures}
use Rattle.mv_extract.specs.Answers.{Answers, LacksOnly, Settles}
use Rattle.mv_extract.specs.Commutes.{Extracted}
use Rattle.mv_extract.specs.Extractor.{text-nothing}
use Rattle.mv_extract.specs.Text.{extraction, total}
use Rattle.mv_extract.proofs.Ended.{no-reader}
use Rattle.mv_extract.proofs.extracting.extract.Goals as goal

pub returns-in-Err-clause-answers : goal.returns-in-Err-clause-answers
returns-in-Err-clause-answers g c =
    no-reader byte_stream (extraction c.args.ols) (total c.args.ols) c.args.limit (g.S.Source.state c.args.source.now) (g.K.Sink.state c.args.sink.now) (text-nothing c.args.ols)

pub returns-in-Err-new-clause-answers : goal.returns-in-Err-new-clause-answers
returns-in-Err-new-clause-answers g c =
    no-reader byte_stream (extraction c.args.ols) (total c.args.ols) c.args.limit (g.S.Source.state c.args.source.now) (g.K.Sink.state c.args.sink.now) (text-nothing c.args.ols)

-- what its visitor extracts for the set that its walker asks for
pub returns : goal.returns
returns g c = record {
  answers = subst (λ o. Answers byte_stream (extraction o) (total o) c.args.limit (input_of (g.S.Source.state c.args.source.now) (g.S.Source.state c.extract_by.new.source)) (output_of (g.K.Sink.state c.args.sink.now) (g.K.Sink.state c.extract_by.new.sink)) c.extract_by.result)
      c.in-Ok-new.ensures.asked c.extract_by.ensures.answers;
  settles = subst (λ o. Settles byte_stream (pictures o) c.args.limit (input_of (g.S.Source.state c.args.source.now) (g.S.Source.state c.extract_by.new.source)) (output_of (g.K.Sink.state c.args.sink.now) (g.K.Sink.state c.extract_by.new.sink)) c.extract_by.result)
      c.in-Ok-new.ensures.asked c.extract_by.ensures.settles;
  lacks = subst (λ o. LacksOnly o c.extract_by.result) c.in-Ok-new.ensures.asked c.extract_by.ensures.lacks;
  commutes = subst (λ o. IfOk c.extract_by.result (λ totals. Extracted o c.args.limit (input_of (g.S.Source.state c.args.source.now) (g.S.Source.state c.extract_by.new.source)) (output_of (g.K.Sink.state c.args.sink.now) (g.K.Sink.state c.extract_by.new.sink))))
      c.in-Ok-new.ensures.asked c.extract_by.ensures.commutes;
  source_count = c.extract_by.ensures.source_count;
  sink_count = c.extract_by.ensures.sink_count;
}
