-- What a unit is by its head (7.4.2.2, table 7-1; this project's profile).
use Rattle.std.specs.Prelude.{◌≡◌, ⊤, ℕ, Bool, not, ◌&&◌, ◌||◌, List, Option, Some, None, is_none, nat_eq, nat_lt, option_map, Result, Ok, Err, if◌then◌else◌}
use Rattle.std.specs.List.{find}
use Rattle.mv_rules.specs.declared.rule.Rule.{Rule}
use Rattle.mv_units.specs.declared.head.UnitHead.{UnitHead}
use Rattle.mv_units.specs.Head.{head}
use Rattle.mv_pictures.specs.Kinds.{is_eob_kind, is_eos_kind, is_pps_kind, is_slice_kind, is_sps_kind}
use Rattle.mv_pictures.specs.Layers.{InForce, knows}
use Rattle.mv_pictures.specs.Items.{Item, is_known, is_vps, is_vps_head, vps_behind}
use Rattle.mv_pictures.specs.Facts.{Fact, pps_of_unit, sps_of_unit}
use Rattle.mv_pictures.specs.UnitRules.{needs_vps}
use Rattle.mv_pictures.specs.Rules.{Case, item_cases, set_cases}
use Rattle.mv_walk_sets.specs.declared.roles.Role.{Role}

-- a unit with this head, behind units of which this video parameter set is in force
pub record StandsBehind (before : InForce) (h : UnitHead) (past : List Item) (u : List ℕ) : Type 0 where
  pub behind : vps_behind past ≡ before
  pub head_is : head u ≡ h

-- a known unit by its type
abbrev pub role_of_kind : ℕ → Role
role_of_kind kind = if is_sps_kind kind then Role.Sps else (if is_pps_kind kind then Role.Pps else (if is_slice_kind kind then Role.Slice else Role.Passed))

-- what a unit is, or the rule that says that no video parameter set is in force
unfoldable pub role : Item → Result Role Rule
role i =
    if is_vps i then Ok Role.Vps
    else (if is_none i.at && needs_vps i then Err Rule.NoVps
    else (if not (is_known i) then Ok Role.Stray
    else Ok (role_of_kind i.head.kind)))

-- the same by a head and by what is in force before it
abbrev pub head_needs_vps : UnitHead → Bool
head_needs_vps h = is_sps_kind h.kind || is_pps_kind h.kind || is_slice_kind h.kind || nat_lt 0 h.layer

unfoldable pub role_at : InForce → UnitHead → Result Role Rule
role_at at h =
    if is_vps_head h then Ok Role.Vps
    else (if is_none at && head_needs_vps h then Err Rule.NoVps
    else (if not (knows at h.layer) then Ok Role.Stray
    else Ok (role_of_kind h.kind)))

-- an end of a sequence, or of the bitstream in layer 0
abbrev pub is_end_head : UnitHead → Bool
is_end_head h = is_eos_kind h.kind || (is_eob_kind h.kind && nat_eq h.layer 0)

-- the least rule that holds, if one does
abbrev pub least : List Case → Option Rule
least cases = option_map (λ (c : Case). c.rule) (find (λ (c : Case). c.holds) cases)

-- the fact of an item, as far as it carries sequence and picture parameter sets
pub record IsFactOf (i : Item) (f : Fact) : Type 0 where
  pub item_is : f.placed.item ≡ i
  pub sps_is : f.sps_unit ≡ sps_of_unit i
  pub pps_is : f.pps_unit ≡ pps_of_unit i

-- what the role of a unit decides of the rules on it alone: all, but that of a video parameter set those on its own payload,
-- of a sequence parameter set those on its own payload and on what it names, and of a picture parameter set those on its payload
abbrev pub Decides : Item → Fact → Result Role Rule → Type 0
Decides i f (Ok Role.Stray) = (least (item_cases i) ≡ None) × (least (set_cases f) ≡ None)
Decides i f (Ok Role.Passed) = (least (item_cases i) ≡ None) × (least (set_cases f) ≡ None)
Decides i f (Ok Role.Slice) = (least (item_cases i) ≡ None) × (least (set_cases f) ≡ None)
Decides i f (Ok Role.Vps) = least (set_cases f) ≡ None
Decides i f (Ok Role.Sps) = ⊤
Decides i f (Ok Role.Pps) = least (item_cases i) ≡ None
Decides i f (Err rule) = least (item_cases i) ≡ Some rule
