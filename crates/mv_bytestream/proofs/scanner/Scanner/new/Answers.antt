use Rattle.mv_bytestream.proofs.Closes.{nothing-stands}
use Rattle.mv_bytestream.proofs.scanner.Scanner.new.Goals as goal

pub returns-clause-stands : goal.returns-clause-stands
returns-clause-stands c = nothing-stands
