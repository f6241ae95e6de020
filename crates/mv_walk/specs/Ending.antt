-- Why a walk ends, by why a unit isn't taken.
use Rattle.std.specs.Prelude.{ℕ}
use Rattle.mv_rules.specs.declared.refusal.ReadFault.{ReadFault}
use Rattle.mv_walk_decoded.specs.declared.fault.DecideFault.{DecideFault}
use Rattle.mv_walk_segment.specs.declared.fault.SegmentFault.{SegmentFault}
use Rattle.mv_walk_sets.specs.declared.fault.VpsFault.{VpsFault}
use Rattle.mv_walk.specs.declared.ending.Stop.{Stop}
use Rattle.mv_walk.specs.declared.ending.WalkError.{WalkError}

-- of what a unit carries, a video parameter set, a decoded picture and a later segment
abbrev pub of_read : ReadFault → Stop
of_read (ReadFault.Refused rule) = Stop.Breaks rule
of_read ReadFault.Memory = Stop.Memory

abbrev pub of_vps : VpsFault → Stop
of_vps (VpsFault.Refused rule) = Stop.Breaks rule
of_vps (VpsFault.NoSuchSet asked count) = Stop.Lacks asked count
of_vps VpsFault.Memory = Stop.Memory

abbrev pub of_decided : DecideFault → Stop
of_decided (DecideFault.Refused rule) = Stop.Breaks rule
of_decided DecideFault.Memory = Stop.Memory

abbrev pub of_segment : SegmentFault → Stop
of_segment (SegmentFault.Refused rule) = Stop.Breaks rule
of_segment SegmentFault.Memory = Stop.Memory

-- of the unit with a number, which stands at this byte
abbrev pub error_of : Stop → ℕ → ℕ → WalkError
error_of (Stop.Breaks rule) unit byte = WalkError.Refused (record { unit = unit; byte = byte; rule = rule })
error_of (Stop.Lacks asked count) unit byte = WalkError.NoSuchSet asked count
error_of Stop.View unit byte = WalkError.View
error_of Stop.Memory unit byte = WalkError.Memory
