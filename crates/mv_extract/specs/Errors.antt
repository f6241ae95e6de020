-- How the error of a run is told as that of a call that does a task of the units.
use Rattle.mv_judging.specs.declared.stop.Objection.{Objection}
use Rattle.mv_judging.specs.declared.stop.Stop.{Stop}
use Rattle.mv_engine.specs.declared.error.DriveError.{DriveError}
use Rattle.mv_engine.specs.declared.error.DriveError.TheVariants.{Stopped, Read as ReadFailed, TooLong as Exceeding, Memory as NoMemory, Fault}
use Rattle.mv_extract.specs.declared.error.ExtractError.{ExtractError}
use Rattle.mv_extract.specs.declared.error.ExtractError.TheVariants.{Refused, NoSuchSet, Read, Write, TooLong, Memory}
use Rattle.mv_extract.specs.declared.error.WorkFault.{WorkFault}
use Rattle.mv_extract.specs.declared.error.WorkFault.TheVariants.{Write as CantWrite, Memory as Wants}

-- a run that stopped at a unit, by what is said against the unit
abbrev pub stopped_by : Stop → Objection → ExtractError
stopped_by stop (Objection.Breaks rule) = Refused (record { unit = stop.unit; byte = stop.byte; rule = rule })
stopped_by stop (Objection.NoSuchSet asked count) = NoSuchSet asked count

abbrev pub stopped : Stop → ExtractError
stopped stop = stopped_by stop stop.why

-- each error of a run
abbrev pub told : DriveError WorkFault → ExtractError
told (Stopped stop) = stopped stop
told ReadFailed = Read
told Exceeding = TooLong
told NoMemory = Memory
told (Fault CantWrite) = Write
told (Fault Wants) = Memory
