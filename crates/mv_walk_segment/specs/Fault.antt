-- Why a segment isn't taken.
use Rattle.mv_reflists.specs.declared.fault.ListFault.{ListFault}
use Rattle.mv_walk_segment.specs.declared.fault.SegmentFault.{SegmentFault}

-- the same fault of lists
abbrev pub of_lists : ListFault → SegmentFault
of_lists (ListFault.Refused rule) = SegmentFault.Refused rule
of_lists ListFault.Memory = SegmentFault.Memory
