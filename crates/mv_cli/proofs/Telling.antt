-- What the sink for faults gained by one text.
use Rattle.std.proofs.Common.{ℕ, List, length, Result, Ok, Err, OnOk, OnErr, subst, sym, arith}
use Rattle.std.proofs.Math.Seq.{take-length}
use Rattle.mv_io.specs.declared.sink.SinkFailed.{SinkFailed}
use Rattle.mv_io.specs.Faults.{HasCause}
use Rattle.mv_io.specs.Sink.{SinkState, Appends, AppendsPrefix}
use Rattle.mv_io.specs.Call.{output_of}
use Rattle.mv_cli.specs.Answers.{Tells}

pub tells : (r : Result (Unit {0}) SinkFailed) (old new : SinkState) (s : List ℕ) → OnOk r (Appends old.taken new.taken s) → OnErr r (AppendsPrefix old.taken new.taken s) → HasCause old.faults new.faults r → Tells (output_of old new) s
tells (Ok done) old new s all failed cause = record {
  count = length s;
  gains = subst (Appends old.taken new.taken) (sym (take-length s)) all;
  all = λ less. absurd (omega (arith, less));
}
tells (Err error) old new s all failed cause = record {
  count = failed.count;
  gains = failed.appends;
  all = λ less. cause.rose;
}
