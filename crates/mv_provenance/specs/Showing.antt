-- What the two viewers put out (this project's profile).
use Rattle.std.specs.Prelude.{ℕ, ◌≡◌, Some, List}
use Rattle.mv_io.specs.Sink.{SinkState}
use Rattle.mv_rebuild.specs.Viewing.{Viewing}
use Rattle.mv_provenance.specs.declared.sum_viewer.SumViewer.{SumViewer}
use Rattle.mv_provenance.specs.Lines.{line}
use Rattle.mv_provenance.specs.Message.{Fed}

-- the line of each picture, on a sink: what was put out are the bytes that the sink tells as taken, and the faults are its own
abbrev pub lines_on : {V P : Type 0} → (V → SinkState) → (V → ℕ) → (P → List ℕ) → Viewing V P
lines_on sink name digest = record {
  text = λ shown pic. line shown (digest pic);
  puts = λ viewer bytes. (sink viewer).taken ≡ Some bytes;
  faults = λ viewer. (sink viewer).faults;
  name = name;
}

-- the viewer was shown pictures whose lines are this text
abbrev pub Sums : SumViewer → List ℕ → Type 0
Sums viewer text = Fed viewer.lines text

-- the line of each picture, in a SHA-256, without faults
abbrev pub lines_summed : {P : Type 0} → (P → List ℕ) → Viewing SumViewer P
lines_summed digest = record {
  text = λ shown pic. line shown (digest pic);
  puts = Sums;
  faults = λ viewer. 0;
  name = λ viewer. 0;
}
