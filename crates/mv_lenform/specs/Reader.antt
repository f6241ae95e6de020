-- A reader of the length-prefixed form as a reader of units.
use Rattle.std.specs.Prelude.{ℕ, List}
use Rattle.mv_engine.specs.Reader.{Reading, StandsIn}
use Rattle.mv_prefixed.specs.Form.{length_form}
use Rattle.mv_lenform.specs.LenScan.{LenScan, StandsFor}

abbrev pub reading_of : LenScan → Reading
reading_of scan = record { fed = scan.fed; given = scan.given; ended = scan.ended; waiting = scan.waiting }

abbrev pub reader_stands : LenScan → List ℕ → Type 0
reader_stands scan s = StandsFor scan s

pub reader-means : (scan : LenScan) (s : List ℕ) → reader_stands scan s → StandsIn length_form (reading_of scan) s
reader-means scan s h = record { fed = h.fed; accepted = h.accepted; given = h.given; waiting = h.waiting }
