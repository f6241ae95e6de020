-- What the tracker of access units stands for, and what it answers (7.4.2.4.4, F.7.4.2.4.4; this project's profile).
-- Histories have the latest first.
use Rattle.std.specs.Prelude.{◌≡◌, ℕ, Bool, true, ◌&&◌, List, [], ◌∷◌, length, Option, Some, None, option_map, Result, Ok, Err, nat_eq, if◌then◌else◌}
use Rattle.std.specs.List.{filter, find}
use Rattle.mv_history.specs.History.{Throughout}
use Rattle.mv_rules.specs.declared.rule.Rule.{Rule}
use Rattle.mv_units.specs.declared.head.UnitHead.{UnitHead}
use Rattle.mv_pictures.specs.Items.{Item, is_known, is_picture, is_slice}
use Rattle.mv_pictures.specs.AccessUnits.{Placed, all_placed, in_au, layer, layer_order, no_base, orphan_slice, placed, tid_differs}
use Rattle.mv_pictures.specs.Rules.{Case, case}
use Rattle.mv_au.specs.declared.access_units.AuStep.{AuStep}
use Rattle.mv_au.specs.TrackerValue.{TrackerValue}

-- the rules that are tried on access units, in rising order of their numbers, and the least one that a unit breaks
unfoldable pub cases : List Placed → Placed → List Case
cases past p =
    case Rule.NoBase (no_base past p)
    ∷ case Rule.LayerOrder (layer_order past p)
    ∷ case Rule.OrphanSlice (orphan_slice past p)
    ∷ case Rule.TidDiffers (tid_differs past p)
    ∷ []

unfoldable pub broken : List Placed → Placed → Option Rule
broken past p = option_map (λ (c : Case). c.rule) (find (λ (c : Case). c.holds) (cases past p))

-- what is answered at a unit behind others: that rule, or its access unit
unfoldable pub answer : List Item → Item → Result AuStep Rule
answer us i =
    let p : Placed = placed (all_placed us) i in
    elim (broken (all_placed us) p) [ Some r ↦ Err r | None ↦ Ok (record { au = p.au; begins = p.begins }) ]

-- a unit, which isn't a stray, as it is told: its head, and of a slice segment whether it is the first one of its picture
pub record IsTold (i : Item) (head : UnitHead) (first : Option Bool) : Type 0 where
  pub known : is_known i ≡ true
  pub head_is : head ≡ i.head
  pub first_is : first ≡ (if is_slice i then Some (is_picture i) else None)

-- the number of the latest access unit, and the latest picture of access unit n
unfoldable pub latest_au : List Placed → ℕ
latest_au past = length (filter (λ (q : Placed). q.begins) past)

unfoldable pub latest_picture : ℕ → List Placed → Option Placed
latest_picture n past = find (λ (q : Placed). is_picture q.item && in_au n q) past

-- the latest picture of layer 0
unfoldable pub latest_base : List Placed → Option Placed
latest_base past = find (λ (q : Placed). nat_eq (layer q) 0 && is_picture q.item) past

-- a tracker stands for units none of which breaks one of the rules on access units
pub record Stands (t : TrackerValue) (us : List Item) : Type 0 where
  pub kept : Throughout (λ past p. broken past p ≡ None) (all_placed us)
  pub number : t.au ≡ latest_au (all_placed us)
  pub picture : t.picture ≡ option_map (λ (q : Placed). q.item.head) (latest_picture t.au (all_placed us))
