-- A run that writes on no sink, as a check.
use Rattle.std.proofs.Common.{ℕ, ◌≤◌, Result, Ok, Err, arith}
use Rattle.mv_io.specs.Call.{Input}
use Rattle.mv_judging.specs.Format.{byte_stream}
use Rattle.mv_judging.specs.declared.stop.Stop.{Stop}
use Rattle.mv_walk.specs.declared.step.Totals.{Totals}
use Rattle.mv_extract.specs.declared.error.ExtractError.{ExtractError}
use Rattle.mv_extract.specs.declared.error.ExtractError.TheVariants.{Refused, NoSuchSet, Read, Write, TooLong, Memory}
use Rattle.mv_extract.specs.Answers.{Answers, Halts}
use Rattle.mv_extract.specs.Text.{checking, extraction, no_sink, total}

halts : (limit : ℕ) (input : Input) (stop : Stop) → Halts byte_stream (extraction 0) limit input no_sink stop → Halts byte_stream checking limit input no_sink stop
halts limit input stop run = record {
  taken = run.taken;
  ended = run.ended;
  took = run.took;
  within = run.within;
  decided = run.decided;
  prompt = run.prompt;
  writes = run.writes;
}

pub unwritten : (limit : ℕ) (input : Input) (answer : Result Totals ExtractError) → Answers byte_stream (extraction 0) (total 0) limit input no_sink answer → Answers byte_stream checking (total 0) limit input no_sink answer
unwritten limit input (Ok totals) run = record {
  taken = run.taken;
  took = run.took;
  within = run.within;
  accepted = run.accepted;
  writes = run.writes;
  answers = run.answers;
}
unwritten limit input (Err (Refused refusal)) run = halts limit input _ run
unwritten limit input (Err (NoSuchSet asked count)) run = (run.0, run.1, halts limit input run.0 run.2)
unwritten limit input (Err Read) run = record {
  taken = run.taken;
  took = run.took;
  within = run.within;
  rose = run.rose;
  quiet = run.quiet;
  writes = run.writes;
}
unwritten limit input (Err Write) run = absurd (never run.rose)
  where
    never : 1 ≤ 0 → ⊥
    never h = omega (arith, h)
unwritten limit input (Err TooLong) run = record {
  taken = run.taken;
  extra = run.extra;
  took = run.took;
  limit_reached = run.limit_reached;
  quiet = run.quiet;
  writes = run.writes;
}
unwritten limit input (Err Memory) run = record {
  taken = run.taken;
  ended = run.ended;
  took = run.took;
  within = run.within;
  units = run.units;
  begin = run.begin;
  accepted = run.accepted;
  writes = run.writes;
}
