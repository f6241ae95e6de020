-- The visitor that writes the units that are kept for an output layer set, whatever its value is: it walks the units that it is
-- handed, and holds their totals once it was handed the end.
use Rattle.std.specs.Prelude.{◌≡◌, ℕ, List, [], refl}
use Rattle.mv_io.specs.Sink.{SinkState}
use Rattle.mv_units.specs.Framing.{frame}
use Rattle.mv_engine.specs.Meaning.{Begins}
use Rattle.mv_engine.proofs.Written.{gained-nothing, gained-same}
use Rattle.mv_history.specs.History.{run}
use Rattle.mv_pictures.specs.Extract.{extract}
use Rattle.mv_pictures.specs.Items.{items}
use Rattle.mv_pictures.specs.Verdict.{bytes_of}
use Rattle.mv_walk.specs.declared.step.Totals.{Totals}
use Rattle.mv_extract.specs.Task.{Worker, working}
use Rattle.mv_extract.specs.Text.{extraction, kept_text, total}

-- by the set that it asks for, the units that its walker stands for, and its totals
abbrev pub extractor : {V : Type 0} → (V → ℕ) → (V → List (List ℕ) → Type 0) → (V → Totals) → Worker V
extractor asked walks totals = record {
  task = λ start. extraction (asked start);
  opens = λ start. walks start [];
  stands = λ start now us. (asked now ≡ asked start) × walks now (bytes_of us);
  closed = λ start last us. totals last ≡ total (asked start) us;
}

-- of no units nothing is written
pub text-nothing : (o : ℕ) → kept_text o [] ≡ []
unfolding extract items run frame
text-nothing o = refl

pub extractor-begins : {V O : Type 0} (state : O → SinkState) (asked : V → ℕ) (walks : V → List (List ℕ) → Type 0) (totals : V → Totals) (start : V) (first : O) → walks start [] → Begins (working state (extractor asked walks totals)) start first
extractor-begins state asked walks totals start first opens = record {
  stands = (refl, opens);
  wrote = gained-same (state first) (state first) [] (kept_text (asked start) []) (gained-nothing (state first)) (text-nothing (asked start));
}
