-- What stands of an extract that was written, from the laws of decoding and extraction.
use Rattle.std.proofs.Common.{◌≡◌, ℕ, List, None, Result, Ok, Err, IfOk, refl, ap, sym, ◌∙◌}
use Rattle.mv_io.specs.Call.{Input, Output}
use Rattle.mv_units.specs.Framing.{frame}
use Rattle.mv_units.specs.Units.{NalUnit}
use Rattle.mv_judging.specs.Event as streams
use Rattle.mv_judging.specs.Format.{byte_stream}
use Rattle.mv_pictures.specs.Decoding.{out}
use Rattle.mv_pictures.specs.Extract.{extract}
use Rattle.mv_pictures.specs.Verdict.{event, pictures}
use Rattle.mv_commuting.proofs.Bytes.{event-accepted, event-extract, units-extract}
use Rattle.mv_commuting.proofs.Extracts.{extract-twice, out-extract}
use Rattle.mv_commuting.proofs.InOrder.{own-kept}
use Rattle.mv_extract.specs.declared.error.ExtractError.{ExtractError}
use Rattle.mv_extract.specs.Answers.{Answers}
use Rattle.mv_extract.specs.Commutes.{Commutes, Extracted, units_in}
use Rattle.mv_extract.specs.Text.{extraction}

event-is : (o : ℕ) (s : List ℕ) → event o s ≡ streams.event byte_stream (pictures o) s
unfolding event
event-is o s = refl

pub commutes : (o : ℕ) (s : List ℕ) → event o s ≡ None → Commutes o s (frame (extract (units_in s) o))
commutes o s fine =
    let same = units-extract o s o fine in
    let whole = event-accepted o s fine in
    record {
      carries = same;
      accepted = λ n e. event-extract n s o e;
      outputs = λ p keeps. ap (λ us. out us p) same ∙ out-extract (units_in s) o p whole keeps;
      own = ap (λ us. out us o) same ∙ out-extract (units_in s) o o whole (own-kept (units_in s) o);
      again = ap (λ us. extract us o) same ∙ extract-twice (units_in s) o ∙ sym same;
    }

pub extracted : {T : Type 0} (total : List NalUnit → T) (o limit : ℕ) (input : Input) (output : Output) (answer : T) → Answers byte_stream (extraction o) total limit input output (Ok answer) → Extracted o limit input output
extracted total o limit input output answer run =
    let fine : event o run.taken ≡ None = event-is o run.taken ∙ run.accepted in
    record {
      taken = run.taken;
      written = frame (extract (units_in run.taken) o);
      took = run.took;
      within = run.within;
      accepted = fine;
      framed = refl;
      gained = run.writes;
      again = event-extract o run.taken o fine;
      commutes = commutes o run.taken fine;
    }

pub if-extracted : {T : Type 0} (total : List NalUnit → T) (o limit : ℕ) (input : Input) (output : Output) (answer : Result T ExtractError) → Answers byte_stream (extraction o) total limit input output answer → IfOk answer (λ totals. Extracted o limit input output)
if-extracted total o limit input output (Ok answer) run = extracted total o limit input output answer run
if-extracted total o limit input output (Err error) run = tt
