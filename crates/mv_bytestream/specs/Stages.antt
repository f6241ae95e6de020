-- A scanner's stage, and what it is to its callers there.
use Rattle.std.specs.Prelude.{◌≡◌, ℕ, ◌+◌, ◌≤◌, min, Bool, true, false, List, [], ◌++◌, Option, None, Some, MatchOption, ⊤, vec_len, vec_capacity}
use Rattle.mv_rules.specs.declared.refusal.Refusal.{Refusal}
use Rattle.mv_units.specs.Units.{NalUnit}
use Rattle.mv_units.specs.Rules.{longest_unit}
use Rattle.mv_units.specs.Shown.{refusal_shown}
use Rattle.mv_bytestream.specs.Scan.{Scan, StandsFor}
use Rattle.mv_bytestream.specs.declared.machine.Machine.{Machine}
use Rattle.mv_bytestream.specs.declared.machine.Stage.{Stage}
use Rattle.mv_bytestream.specs.declared.machine.Stage.TheVariants.{Leading, Making, Found, Given, Last, Ended, Refused}

-- whether the input has ended
abbrev pub has_ended : Stage → Bool
has_ended Last = true
has_ended Ended = true
has_ended stage = false

-- the unit that waits
abbrev pub waiting_at : Stage → NalUnit → Option NalUnit
waiting_at Found unit = Some unit
waiting_at Last unit = Some unit
waiting_at stage unit = None

-- the unit in the making: one with no bytes behind a unit that is finished
abbrev pub making_at : Stage → NalUnit → ℕ → Option NalUnit
making_at Making unit fed = Some unit
making_at Found unit fed = Some (record { place = fed; bytes = [] })
making_at Given unit fed = Some (record { place = fed; bytes = [] })
making_at stage unit fed = None

-- the zero bytes behind it: none behind a unit that is finished
abbrev pub zeros_at : Stage → ℕ → ℕ
zeros_at Found count = 0
zeros_at Given count = 0
zeros_at stage count = count

-- the refusal
abbrev pub refusal_at : Stage → Option Refusal
refusal_at (Refused refusal) = Some refusal
refusal_at stage = None

-- the unit whose bytes the machine holds
abbrev pub unit_held : Machine → NalUnit
unit_held m = record { place = m.place; bytes = m.unit.items }

-- a machine as a scanner
abbrev pub scan_of : Machine → Scan
scan_of m = record {
  fed = m.fed;
  given = m.given;
  ended = has_ended m.stage;
  waiting = waiting_at m.stage (unit_held m);
  making = making_at m.stage (unit_held m) m.fed;
  zeros = zeros_at m.stage m.zeros;
  refusal = refusal_at m.stage;
}

-- whether a unit is in the making, or none came yet, and nothing waits
abbrev pub IsRunning : Stage → Type 0
IsRunning Leading = ⊤
IsRunning Making = ⊤
IsRunning stage = ⊥

-- the same, where the unit before may have been handed out
abbrev pub IsOpen : Stage → Type 0
IsOpen Given = ⊤
IsOpen stage = IsRunning stage

-- how many units a machine will hand out beside those given, without a byte more
abbrev pub in_hand : Stage → ℕ
in_hand Making = 1
in_hand Found = 2
in_hand Given = 1
in_hand Last = 1
in_hand stage = 0

-- what is so of each machine: it holds no more bytes than a unit may have, and its counts are below that of the bytes
pub record IsHeld (m : Machine) : Type 0 where
  pub most : vec_len m.unit ≤ longest_unit
  pub units : m.given + in_hand m.stage ≤ m.fed
  pub zeros : m.zeros ≤ m.fed

-- there is room for n bytes more, or for as many as a unit may have
abbrev pub HasRoom : Machine → ℕ → Type 0
HasRoom m n = min (vec_len m.unit + min m.zeros 2 + n) longest_unit ≤ vec_capacity m.unit

-- a machine took bytes, or refused them: what it stood for it then stands for, with them
abbrev pub Takes : Machine → Machine → List ℕ → Option Refusal → Type 0
Takes old new bytes result =
    (s : List ℕ) → StandsFor (scan_of old) s →
    MatchOption result (StandsFor (scan_of new) (s ++ bytes)) (λ r. refusal_shown false (s ++ bytes) ≡ Some r)
