-- What a scanner hands out, and what it is then.
use Rattle.std.specs.Prelude.{◌≡◌, ℕ, List}
use Rattle.std.specs.Borrow.{Fml, MutBor}
use Rattle.std.specs.Io.BufRead.{Rests}
use Rattle.mv_units.specs.Units.{NalUnit}
use Rattle.mv_bytestream.specs.Scan.{Scan, StandsFor, handed_out}
use Rattle.mv_bytestream.specs.declared.scanner.Found.{Found}
use Rattle.mv_bytestream.specs.contracts.scanner.Scanner.{the_row}

-- what was found, as a unit
abbrev pub found_unit : Found → NalUnit
found_unit found = record { place = found.byte; bytes = found.unit.now }

-- once the borrow is over, the unit was handed out, and the scanner stands for what it stood for
abbrev pub GivesOut : MutBor Scan → Fml
GivesOut scan = Rests the_row scan (λ new. (new ≡ handed_out scan.now) × ((s : List ℕ) → StandsFor scan.now s → StandsFor new s))
