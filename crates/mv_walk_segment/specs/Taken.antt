-- What a segment makes of the lists of its picture, by its context and its header (8.3.4, F.8.3.4).
use Rattle.std.specs.Prelude.{◌≡◌, ◌≤◌, length, Option, Some, None, Result, Ok, Err, ⊤}
use Rattle.std.specs.Option.{IfSome}
use Rattle.mv_rules.specs.declared.rule.Rule.{Rule}
use Rattle.mv_slice.specs.declared.slice.SliceFull.{SliceFull}
use Rattle.mv_slice.specs.Context.{SliceContextValue}
use Rattle.mv_pictures.specs.Terms.{Lists}
use Rattle.mv_reflists.specs.Lists.{lists}
use Rattle.mv_reflists.specs.Rules.{list_rule}
use Rattle.mv_reflists.specs.Segment.{active_l0, active_l1, list_entry_l0, list_entry_l1}
use Rattle.mv_reflists.specs.Sizes.{total}
use Rattle.mv_walk_segment.specs.declared.fault.SegmentFault.{SegmentFault}
use Rattle.mv_walk_segment.specs.OpenValue.{DecodedValue}

-- the conditions under which lists are made: at most 15 entries are active, and as many are coded where any are
pub record AreListed (ctx : SliceContextValue) (full : SliceFull) : Type 0 where
  pub few_l0 : active_l0 ctx full ≤ 15
  pub few_l1 : active_l1 ctx full ≤ 15
  pub all_l0 : IfSome (list_entry_l0 full) (λ entries. length entries ≡ active_l0 ctx full)
  pub all_l1 : IfSome (list_entry_l1 full) (λ entries. length entries ≡ active_l1 ctx full)

-- each of the two has at most 15 entries (7.4.7.1)
abbrev pub AreShort : Lists → Type 0
AreShort both = (length both.list0 ≤ 15) × (length both.list1 ≤ 15)

-- the rule on lists that a segment breaks first: none where its picture isn't decoded or it is a dependent one
abbrev pub broken_by : Option DecodedValue → SliceContextValue → Option SliceFull → Option Rule
broken_by None ctx full = None
broken_by (Some decoded) ctx None = None
broken_by (Some decoded) ctx (Some full) = list_rule (total decoded.sizes) ctx full

-- its lists: a dependent segment has those of the segment before it
abbrev pub with_lists : Option DecodedValue → SliceContextValue → Option SliceFull → Option DecodedValue
with_lists None ctx full = None
with_lists (Some decoded) ctx None = Some decoded
with_lists (Some decoded) ctx (Some full) = Some (record { sizes = decoded.sizes; lists = lists decoded.sizes ctx full })

-- an answer by the rule that is broken
abbrev pub taken : Option Rule → Result ⊤ SegmentFault
taken None = Ok tt
taken (Some rule) = Err (SegmentFault.Refused rule)
