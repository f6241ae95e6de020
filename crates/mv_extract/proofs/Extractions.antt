-- What extraction answers, from the run of its visitor, whose walker asks for the set.
use Rattle.std.proofs.Common.{◌≡◌, ℕ, List, Ok, Err, subst}
use Rattle.mv_io.specs.Call.{Input, output_of}
use Rattle.mv_io.specs.Sink.{SinkState}
use Rattle.mv_judging.specs.Format.{byte_stream}
use Rattle.mv_engine.specs.declared.error.DriveError.{DriveError}
use Rattle.mv_walk.specs.declared.step.Totals.{Totals}
use Rattle.mv_extract.specs.declared.error.ExtractError.{ExtractError}
use Rattle.mv_extract.specs.declared.error.WorkFault.{WorkFault}
use Rattle.mv_extract.specs.Answers.{Answers}
use Rattle.mv_extract.specs.Errors.{told}
use Rattle.mv_extract.specs.Extractor.{extractor}
use Rattle.mv_extract.specs.Text.{extraction, total}
use Rattle.mv_extract.proofs.Accepted.{pictures-sound}
use Rattle.mv_extract.proofs.Ended.{Worked, done, ended}

-- all was extracted
pub finished : {V O : Type 0} (state : O → SinkState) (asked : V → ℕ) (walks : V → List (List ℕ) → Type 0) (totals : V → Totals) (start new : V) (first out : O) (limit : ℕ) (input : Input) (o : ℕ) → asked start ≡ o →
    Worked byte_stream state (extractor asked walks totals) start new first out limit input (Ok tt) → Answers byte_stream (extraction o) (total o) limit input (output_of (state first) (state out)) (Ok (totals new))
finished state asked walks totals start new first out limit input o same worked =
    subst (λ n. Answers byte_stream (extraction n) (total n) limit input (output_of (state first) (state out)) (Ok (totals new))) same
    (done byte_stream state (extractor asked walks totals) (total (asked start)) start new first out limit input (totals new) worked (λ us closed. closed)).answers

-- the run ended otherwise
pub stopped : {V O : Type 0} (state : O → SinkState) (asked : V → ℕ) (walks : V → List (List ℕ) → Type 0) (totals : V → Totals) (start new : V) (first out : O) (limit : ℕ) (input : Input) (o : ℕ) (error : DriveError WorkFault) (mine : ExtractError) → asked start ≡ o →
    Worked byte_stream state (extractor asked walks totals) start new first out limit input (Err error) → mine ≡ told error → Answers byte_stream (extraction o) (total o) limit input (output_of (state first) (state out)) (Err mine)
stopped state asked walks totals start new first out limit input o error mine same worked is =
    subst (λ n. Answers byte_stream (extraction n) (total n) limit input (output_of (state first) (state out)) (Err mine)) same
    (ended byte_stream state (extractor asked walks totals) (total (asked start)) start new first out limit input error mine (pictures-sound (asked start)) worked is).answers
