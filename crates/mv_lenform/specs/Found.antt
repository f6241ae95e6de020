-- What a reader hands out, and what it is then.
use Rattle.std.specs.Prelude.{◌≡◌, ℕ, List}
use Rattle.std.specs.Borrow.{Fml, MutBor}
use Rattle.std.specs.Io.BufRead.{Rests}
use Rattle.mv_lenform.specs.LenScan.{LenScan, StandsFor, handed_out}
use Rattle.mv_lenform.specs.contracts.len_reader.LenReader.{the_row}

-- once the borrow is over, the unit was handed out, and the reader stands for what it stood for
abbrev pub GivesOut : MutBor LenScan → Fml
GivesOut scan = Rests the_row scan (λ new. (new ≡ handed_out scan.now) × ((s : List ℕ) → StandsFor scan.now s → StandsFor new s))
