use Rattle.std.proofs.Common.{length}
use Rattle.mv_judging.specs.Format.{byte_stream}
use Rattle.mv_extract.proofs.Ended.{no-reader}
use Rattle.mv_lenform.specs.Begun.{text-nothing}
use Rattle.mv_lenform.specs.Carrying.{carrying}
use Rattle.mv_lenform.specs.declared.carrier.Target.TheVariants.{Prefixed}
use Rattle.mv_lenform.proofs.packing.pack.Goals as goal

pub returns-in-Err-clause-answers : goal.returns-in-Err-clause-answers
returns-in-Err-clause-answers g c =
    no-reader byte_stream (carrying Prefixed) length c.args.limit (g.S.Source.state c.args.source.now) (g.K.Sink.state c.args.sink.now) (text-nothing Prefixed)
