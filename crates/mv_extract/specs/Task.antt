-- What is done of the units of a stream on a sink, and the visitor that does it.
use Rattle.std.specs.Prelude.{ℕ, List}
use Rattle.mv_io.specs.Sink.{SinkState}
use Rattle.mv_units.specs.Units.{NalUnit}
use Rattle.mv_judging.specs.Judge.{Judge}
use Rattle.mv_engine.specs.Meaning.{Meaning}
use Rattle.mv_engine.specs.Writing.{Gained, GainedPart}
use Rattle.mv_extract.specs.declared.error.WorkFault.{WorkFault}
use Rattle.mv_extract.specs.declared.error.WorkFault.TheVariants.{Write, Memory}

-- what is objected to, and what is written of units that were accepted
pub record Task : Type 0 where
  pub judge : Judge
  pub text : List NalUnit → List ℕ

-- a visitor of the type V: its task by its value, where it may begin, what became of it behind units, and behind their end
pub record Worker (V : Type 0) : Type 1 where
  pub task : V → Task
  pub opens : V → Type 0
  pub stands : V → V → List NalUnit → Type 0
  pub closed : V → V → List NalUnit → Type 0

-- what a sink gained where the visitor couldn't go on: the first of the text, and not all of it, where a write failed, and the
-- text where memory was wanting
abbrev pub left_by : WorkFault → SinkState → SinkState → List ℕ → Type 0
left_by Write first now text = GainedPart first now text
left_by Memory first now text = Gained first now text

-- it writes its task's text of the units, and nothing at the end
abbrev pub working : {V O : Type 0} → (O → SinkState) → Worker V → Meaning V O WorkFault
working state w = record {
  opens = w.opens;
  judge = λ start. (w.task start).judge;
  stands = w.stands;
  wrote = λ start first now us. Gained (state first) (state now) ((w.task start).text us);
  closed = λ start last first now us. w.closed start last us × Gained (state first) (state now) ((w.task start).text us);
  failed = λ start first now ended us fault. left_by fault (state first) (state now) ((w.task start).text us);
}
