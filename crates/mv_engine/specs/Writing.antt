-- The meaning of every visitor that writes, on a sink, a text of the units that it was handed, and a closing text at
-- the end; its one fault is a write that failed.
use Rattle.std.specs.Prelude.{ℕ, ◌≤◌, List, ◌++◌, if◌then◌else◌}
use Rattle.mv_io.specs.Faults.{Rose}
use Rattle.mv_io.specs.Sink.{SinkState, Appends, AppendsPrefix}
use Rattle.mv_units.specs.Units.{NalUnit}
use Rattle.mv_judging.specs.Judge.{Judge}
use Rattle.mv_engine.specs.Meaning.{Meaning}

-- a sink gained these bytes and no others, and its count of faults didn't fall
pub record Gained (first now : SinkState) (bytes : List ℕ) : Type 0 where
  pub appends : Appends first.taken now.taken bytes
  pub never_falls : first.faults ≤ now.faults

-- a sink's count of faults rose, and it gained the first of these bytes, and not all of them
pub record GainedPart (first now : SinkState) (bytes : List ℕ) : Type 0 where
  pub appends : AppendsPrefix first.taken now.taken bytes
  pub rose : Rose first.faults now.faults
  pub never_falls : first.faults ≤ now.faults

-- what a visitor of the type V is, by its own value: what it objects to, what became of it, what it writes of
-- units, and behind that at the end
pub record Writer (V : Type 0) : Type 1 where
  pub opens : V → Type 0
  pub judge : V → Judge
  pub stands : V → V → List NalUnit → Type 0
  pub text : V → List NalUnit → List ℕ
  pub closing : V → List NalUnit → List ℕ

abbrev pub writing : {V O F : Type 0} → (O → SinkState) → Writer V → Meaning V O F
writing state w = record {
  opens = w.opens;
  judge = w.judge;
  stands = w.stands;
  wrote = λ start first now us. Gained (state first) (state now) (w.text start us);
  closed = λ start last first now us. w.stands start last us × Gained (state first) (state now) (w.text start us ++ w.closing start us);
  failed = λ start first now ended us fault.
      GainedPart (state first) (state now) (if ended then w.text start us ++ w.closing start us else w.text start us);
}
