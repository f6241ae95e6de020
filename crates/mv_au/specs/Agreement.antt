-- What is answered of a segment that isn't the first one of its picture (7.4.7.1; this project's profile).
use Rattle.std.specs.Prelude.{⊤, ◌≡◌, ℕ, Bool, true, not, ◌&&◌, ◌||◌, List, Some, option_map, Result, Ok, Err, nat_eq, nat_le, nat_lt, if◌then◌else◌}
use Rattle.mv_syntax.specs.Words.{is_set, or_zero}
use Rattle.mv_rules.specs.declared.rule.Rule.{Rule}
use Rattle.mv_units.specs.declared.head.UnitHead.{UnitHead}
use Rattle.mv_slice.specs.declared.slice.SliceHead.{SliceHead}
use Rattle.mv_slice.specs.Context.{SliceContextValue}
use Rattle.mv_pictures.specs.Facts.{Fact, own_picture}
use Rattle.mv_pictures.specs.SliceFields.{head_of}
use Rattle.mv_pictures.specs.Judged.{is_slice}
use Rattle.mv_pictures.specs.SliceRules.{address, address_order, full_agrees, same_opening, segment_before, slice_differs}

-- the least of the two rules that it breaks
unfoldable pub answer : List Fact → Fact → Result ⊤ Rule
answer past p = if slice_differs past p then Err Rule.SliceDiffers else if address_order past p then Err Rule.AddressOrder else Ok tt

-- a segment by the head of its unit and its header, with which its first fields are read
pub record IsSegment (head : UnitHead) (v : SliceHead) (p : Fact) : Type 0 where
  pub head_is : head ≡ p.placed.item.head
  pub opening_is : p.placed.item.opening ≡ Some v.opening
  pub header_is : head_of p ≡ Some v

-- a later segment of the picture with this first one, its context, and the address of the segment before
pub record IsLater (last_address : ℕ) (ctx : SliceContextValue) (past : List Fact) (first p : Fact) : Type 0 where
  pub slice : is_slice p ≡ true
  pub picture : own_picture past p.placed ≡ Some first
  pub context : p.context ≡ Some ctx
  pub before : option_map address (segment_before past p) ≡ Some last_address

-- the same from what is asked
abbrev pub agrees_by : SliceHead → UnitHead → UnitHead → SliceHead → Bool
agrees_by first first_head next_head next =
    nat_eq next_head.kind first_head.kind
    && nat_eq next_head.tid first_head.tid
    && same_opening next.opening first.opening
    && full_agrees next.full first.full

abbrev pub is_bad_by : ℕ → SliceHead → SliceContextValue → Bool
is_bad_by last_address next ctx =
    nat_eq (or_zero next.address.slice_segment_address) 0
    || nat_le ctx.ctbs (or_zero next.address.slice_segment_address)
    || (not (is_set ctx.tiles_enabled_flag) && not (nat_lt last_address (or_zero next.address.slice_segment_address)))
