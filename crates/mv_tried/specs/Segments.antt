-- What a slice segment breaks by its sets and its header: one answer, by what there is of them (7.4.7.1; this project's profile).
use Rattle.std.specs.Prelude.{Option, Some, None, Result, Ok, Err, nat_eq, if◌then◌else◌}
use Rattle.std.specs.Option.{option_or}
use Rattle.mv_syntax.specs.Bits.{Fault, short, breaks}
use Rattle.mv_rules.specs.Rule.{rule_number}
use Rattle.mv_rules.specs.declared.rule.Rule.{Rule}
use Rattle.mv_common.specs.declared.format.Format.{Format}
use Rattle.mv_sps.specs.Sps.{SpsValue}
use Rattle.mv_pps.specs.Pps.{PpsValue}
use Rattle.mv_slice.specs.declared.opening.SliceOpening.{SliceOpening}
use Rattle.mv_slice.specs.declared.slice.SliceHead.{SliceHead}
use Rattle.mv_pictures.specs.Carried.{Carried}
use Rattle.mv_pictures.specs.Facts.{Fact, Sets}

-- the set that lacks: a picture parameter set, or else a sequence parameter set or a format
abbrev pub lacking_set : Option (Carried PpsValue) → Option (Carried SpsValue) → Option Format → Option Rule
lacking_set None sps format = Some Rule.MissingPps
lacking_set (Some pps) None format = Some Rule.MissingSps
lacking_set (Some pps) (Some sps) None = Some Rule.MissingSps
lacking_set (Some pps) (Some sps) (Some format) = None

-- the fault of a header: where nothing reads, and where a rule cuts it
abbrev pub fault_rule : Fault → Option Rule
fault_rule short = Some Rule.SliceSyntax
fault_rule (breaks r) =
    if nat_eq r (rule_number Rule.SliceSyntax) then Some Rule.SliceSyntax
    else (if nat_eq r (rule_number Rule.CrossLayerBla) then Some Rule.CrossLayerBla else None)

abbrev pub header_rule : Option (Result SliceHead Fault) → Option Rule
header_rule None = None
header_rule (Some (Ok head)) = None
header_rule (Some (Err fault)) = fault_rule fault

-- first fields that don't read, a set that lacks, or the header
abbrev pub rule_of_segment : Option SliceOpening → Sets → Option (Result SliceHead Fault) → Option Rule
rule_of_segment None sets header = Some Rule.SliceSyntax
rule_of_segment (Some opening) sets header = option_or (lacking_set sets.pps sets.sps sets.format) (header_rule header)

unfoldable pub segment_rule : Fact → Option Rule
segment_rule p = rule_of_segment p.placed.item.opening p.sets p.header
