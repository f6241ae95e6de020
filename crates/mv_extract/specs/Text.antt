-- What extraction tries and writes of a stream (this project's profile): the pictures of its units, and the units that are
-- kept for an output layer set, framed.
use Rattle.std.specs.Prelude.{ℕ, List, [], None, ⊤}
use Rattle.mv_io.specs.Call.{Output, output_of}
use Rattle.mv_units.specs.Framing.{frame}
use Rattle.mv_units.specs.Units.{NalUnit}
use Rattle.mv_pictures.specs.Extract.{extract}
use Rattle.mv_pictures.specs.Verdict.{bytes_of, pictures}
use Rattle.mv_walk.specs.declared.step.Totals.{Totals}
use Rattle.mv_walk.specs.Walking.{totals_of}
use Rattle.mv_extract.specs.Task.{Task}

-- the kept ones of some units, framed
abbrev pub kept_text : ℕ → List NalUnit → List ℕ
kept_text o us = frame (extract (bytes_of us) o)

-- the pictures are judged where output layer set o is asked for, and the units that are kept for it are written
abbrev pub extraction : ℕ → Task
extraction o = record { judge = pictures o; text = kept_text o }

-- the pictures are judged, where set 0 is asked for, and nothing is written
abbrev pub checking : Task
checking = record { judge = pictures 0; text = λ us. [] }

-- how many units, kept units, pictures, sequences, layers and sets there are of the units
abbrev pub total : ℕ → List NalUnit → Totals
total o us = totals_of (bytes_of us) o

-- nothing is answered of the units
abbrev pub nothing : List NalUnit → ⊤
nothing us = tt

-- no sink: it tells no bytes, and never fails
abbrev pub no_sink : Output
no_sink = output_of (record { taken = None; faults = 0 }) (record { taken = None; faults = 0 })
