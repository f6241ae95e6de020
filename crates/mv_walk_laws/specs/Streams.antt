-- A stream of units, and the next one (this project's profile). Units stand in the order of the stream; what is judged of them has
-- the latest first.
use Rattle.std.specs.Prelude.{ℕ, ◌≡◌, ◌≤◌, true, false, ◌&&◌, List, [], ◌∷◌, ◌++◌, All, reverse, Option, None, option_map, nat_eq}
use Rattle.std.specs.List.{list_any}
use Rattle.mv_syntax.specs.Words.{◌otherwise◌}
use Rattle.mv_rules.specs.declared.rule.Rule.{Rule}
use Rattle.mv_units.specs.Rules.{unit_rule}
use Rattle.mv_judging.specs.declared.stop.Objection.{Objection}
use Rattle.mv_pictures.specs.AccessUnits.{Placed, all_placed, in_au, placed}
use Rattle.mv_pictures.specs.History.{history_of, judged}
use Rattle.mv_pictures.specs.Items.{Item, item, items, turns}
use Rattle.mv_pictures.specs.Rules.{least_rule}
use Rattle.mv_pictures.specs.Verdict.{breaks_none, lacks, objection}
use Rattle.mv_commuting.specs.OneMore.{fact_behind}
use Rattle.mv_au.specs.Tracker as tracker

-- the units of a stream as they are placed in access units, and the number of the latest access unit
abbrev pub placed_units : List (List ℕ) → List Placed
placed_units us = all_placed (items (reverse us))

abbrev pub current : List (List ℕ) → ℕ
current us = tracker.latest_au (placed_units us)

-- a unit behind others, as an item, and as it is placed
abbrev pub item_behind : List (List ℕ) → List ℕ → Item
item_behind us u = item (items (reverse us)) u

abbrev pub placed_behind : List (List ℕ) → List ℕ → Placed
placed_behind us u = placed (placed_units us) (item_behind us u)

-- the least rule that it breaks, and what is said against it where output layer set o is asked for
abbrev pub broken_behind : List (List ℕ) → List ℕ → Option Rule
broken_behind us u = least_rule (history_of us) (judged (history_of us) (fact_behind us u))

abbrev pub objected : ℕ → List (List ℕ) → List ℕ → Option Objection
objected o us u = objection o (history_of (us ++ u ∷ []))

-- the bytes of each unit are as they have to be, no unit breaks a rule, and no video parameter set lacks output layer set o
pub record IsSound (o : ℕ) (us : List (List ℕ)) : Type 0 where
  pub clean : All (λ u. unit_rule u ≡ None) us
  pub breaks : breaks_none (history_of us) ≡ true
  pub has_set : All (λ (i : Item). lacks o i ≡ false) (items (reverse us))

-- the number of the latest access unit that has a changed video parameter set tells which of the current and the coming access
-- units have one
abbrev pub IsLatestChange : Option ℕ → List (List ℕ) → Type 0
IsLatestChange changed us =
    (n : ℕ) → current us ≤ n → list_any (λ (q : Placed). turns q.item && in_au n q) (placed_units us) ≡ (option_map (nat_eq n) changed otherwise false)
