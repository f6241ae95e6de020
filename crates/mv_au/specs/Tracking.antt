-- How the tracker goes on by a unit's head and, of a slice segment, whether it is the first one of its picture.
use Rattle.std.specs.Prelude.{Bool, true, false, ◌&&◌, ◌||◌, Option, Some, None, is_some, Result, Ok, Err, nat_eq, nat_le, if◌then◌else◌}
use Rattle.mv_syntax.specs.Words.{◌otherwise◌}
use Rattle.mv_rules.specs.declared.rule.Rule.{Rule}
use Rattle.mv_units.specs.declared.head.UnitHead.{UnitHead}
use Rattle.mv_pictures.specs.Kinds.{is_opening_kind}

-- it begins an access unit where the one before has slice segments, and so a picture; and whether it does
abbrev pub opens : UnitHead → Option Bool → Bool
opens head first = nat_eq head.layer 0 && (is_opening_kind head.kind || (first otherwise false))

abbrev pub begins_by : Option UnitHead → UnitHead → Option Bool → Bool
begins_by picture head first = opens head first && is_some picture

-- the latest picture of the access unit to which a unit belongs
abbrev pub open_at : Bool → Option UnitHead → Option UnitHead
open_at begins picture = if begins then None else picture

-- the latest picture with a picture more, with a segment of it more, and with any unit more
abbrev pub with_picture : Option UnitHead → UnitHead → Result (Option UnitHead) Rule
with_picture None head = if nat_eq head.layer 0 then Ok (Some head) else Err Rule.NoBase
with_picture (Some latest) head =
    if nat_le head.layer latest.layer then Err Rule.LayerOrder
    else if nat_eq head.tid latest.tid then Ok (Some head)
    else Err Rule.TidDiffers

abbrev pub with_segment : Option UnitHead → UnitHead → Result (Option UnitHead) Rule
with_segment None head = if nat_eq head.layer 0 then Err Rule.OrphanSlice else Err Rule.NoBase
with_segment (Some latest) head = if nat_eq latest.layer head.layer then Ok (Some latest) else Err Rule.OrphanSlice

abbrev pub joined : Option UnitHead → UnitHead → Option Bool → Result (Option UnitHead) Rule
joined picture head None = Ok picture
joined picture head (Some true) = with_picture picture head
joined picture head (Some false) = with_segment picture head
