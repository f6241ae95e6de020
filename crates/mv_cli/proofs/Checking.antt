-- Each answer of `check`, from that of the check itself and what was written of its line.
use Rattle.std.proofs.Common.{◌≡◌, ◌≤◌, ℕ, List, Result, Ok, Err, refl, sym, subst, arith}
use Rattle.std.specs.Prelude.{⊤}
use Rattle.mv_io.specs.Call.{Input, Output, output_of}
use Rattle.mv_io.specs.Sink.{SinkState, AppendsPrefix}
use Rattle.mv_judging.specs.Format.{byte_stream}
use Rattle.mv_walk.specs.declared.step.Totals.{Totals}
use Rattle.mv_extract.specs.declared.error.ExtractError.{ExtractError}
use Rattle.mv_extract.specs.declared.error.ExtractError.TheVariants.{Refused, NoSuchSet, Read, Write, TooLong, Memory}
use Rattle.mv_extract.specs.Answers.{Answers as Works}
use Rattle.mv_extract.specs.Text.{checking, no_sink, total}
use Rattle.mv_cli.specs.Answers.{Checks, WritesLine}
use Rattle.mv_cli.specs.Ending.{accepted_line}

-- the line was written, or the first of it
pub wrote : (limit : ℕ) (input : Input) (output : Output) (totals : Totals) (line : List ℕ) (answer : Result ⊤ ExtractError) → line ≡ accepted_line totals → Works byte_stream checking (total 0) limit input no_sink (Ok totals) → WritesLine output line answer → Checks limit input output answer
wrote limit input output totals line (Ok done) same works writes = record { totals = totals; checks = works; line = subst (λ l. WritesLine output l (Ok tt)) same writes }
wrote limit input output totals line (Err error) same works writes =
    subst (λ (e : ExtractError). Checks limit input output (Err e)) (sym writes.0)
    (record { totals = totals; checks = works; line = (refl, writes.1, subst (λ l. AppendsPrefix output.old.taken output.new.taken l) same writes.2) })

-- no line was written; a check itself meets no fault of a sink
pub ended : (limit : ℕ) (input : Input) (sink : SinkState) (error : ExtractError) → Works byte_stream checking (total 0) limit input no_sink (Err error) → Checks limit input (output_of sink sink) (Err error)
ended limit input sink (Refused refusal) works = record { checks = works; unused = refl }
ended limit input sink (NoSuchSet asked count) works = record { checks = works; unused = refl }
ended limit input sink Read works = record { checks = works; unused = refl }
ended limit input sink Write works = absurd (never works.rose)
  where
    never : 1 ≤ 0 → ⊥
    never h = omega (arith, h)
ended limit input sink TooLong works = record { checks = works; unused = refl }
ended limit input sink Memory works = record { checks = works; unused = refl }
