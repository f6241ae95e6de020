-- How a run of the program ends: its status, and the line that says why (this project's profile).
use Rattle.std.specs.Prelude.{ℕ, List, [], ◌++◌, codes, decimal, Result, Ok, Err}
use Rattle.mv_rules.specs.declared.refusal.Refusal.{Refusal}
use Rattle.mv_rules.specs.Rule.{rule_number, rule_name}
use Rattle.mv_extract.specs.declared.error.ExtractError.{ExtractError}
use Rattle.mv_extract.specs.declared.error.ExtractError.TheVariants.{Refused as RefusedBy, NoSuchSet as Lacks, Read, Write, TooLong as TooManyBytes, Memory}
use Rattle.mv_walk.specs.declared.step.Totals.{Totals}
use Rattle.mv_cli.specs.declared.ending.Ending.{Ending}
use Rattle.mv_cli.specs.declared.ending.Ending.TheVariants.{Done, Refused, Usage, ReadFault, WriteFault, NoMemory, NoSuchSet, TooLong}
use Rattle.mv_cli.specs.Words.{usage_line}

-- the ending of a command that answered so
abbrev pub ending_of : {T : Type 0} → Result T ExtractError → Ending
ending_of (Ok answer) = Done
ending_of (Err (RefusedBy refusal)) = Refused refusal
ending_of (Err (Lacks asked count)) = NoSuchSet asked count
ending_of (Err Read) = ReadFault
ending_of (Err Write) = WriteFault
ending_of (Err TooManyBytes) = TooLong
ending_of (Err Memory) = NoMemory

-- the exit status of each ending
abbrev pub status_of : Ending → ℕ
status_of Done = 0
status_of (Refused refusal) = 1
status_of Usage = 2
status_of ReadFault = 3
status_of WriteFault = 4
status_of NoMemory = 5
status_of (NoSuchSet asked count) = 6
status_of TooLong = 7

-- the line of a refusal: `refused: unit N at byte B: rule R NAME`, the numbers in decimal
abbrev pub refusal_line : Refusal → List ℕ
refusal_line refusal =
    codes "refused: unit " ++ decimal refusal.unit ++ codes " at byte " ++ decimal refusal.byte
    ++ codes ": rule " ++ decimal (rule_number refusal.rule) ++ codes " " ++ rule_name refusal.rule ++ codes "\n"

-- the line of a set that is lacking: `no such set: N of C`
abbrev pub lacking_line : ℕ → ℕ → List ℕ
lacking_line asked count = codes "no such set: " ++ decimal asked ++ codes " of " ++ decimal count ++ codes "\n"

-- the line that `check` writes on the output for an accepted stream:
-- `accepted: units U pictures P sequences C layers L sets O`
abbrev pub accepted_line : Totals → List ℕ
accepted_line totals =
    codes "accepted: units " ++ decimal totals.units ++ codes " pictures " ++ decimal totals.pictures
    ++ codes " sequences " ++ decimal totals.sequences ++ codes " layers " ++ decimal totals.layers
    ++ codes " sets " ++ decimal totals.sets ++ codes "\n"

-- the line that each ending writes on the sink for faults
abbrev pub line_of : Ending → List ℕ
line_of Done = []
line_of (Refused refusal) = refusal_line refusal
line_of Usage = usage_line
line_of ReadFault = codes "read fault\n"
line_of WriteFault = codes "write fault\n"
line_of NoMemory = codes "no memory\n"
line_of (NoSuchSet asked count) = lacking_line asked count
line_of TooLong = codes "too long\n"
