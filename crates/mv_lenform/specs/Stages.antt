-- A reader's stage, and what it is to its callers there.
use Rattle.std.specs.Prelude.{◌≡◌, ℕ, ◌+◌, ◌-◌, ◌<◌, ◌≤◌, Bool, true, false, List, [], ◌++◌, length, take, Option, None, Some, ⊤}
use Rattle.mv_rules.specs.declared.refusal.Refusal.{Refusal}
use Rattle.mv_units.specs.Units.{NalUnit}
use Rattle.mv_lenform.specs.LenScan.{LenScan}
use Rattle.mv_prefixed.specs.Reading.{Open, front}
use Rattle.mv_lenform.specs.declared.machine.Machine.{Machine}
use Rattle.mv_lenform.specs.declared.machine.Stage.{Stage}
use Rattle.mv_lenform.specs.declared.machine.Stage.TheVariants.{Reading, Found, Given, Ended, Refused}

-- whether the input has ended
abbrev pub has_ended : Stage → Bool
has_ended Ended = true
has_ended stage = false

-- the unit that waits
abbrev pub waiting_at : Stage → NalUnit → Option NalUnit
waiting_at Found unit = Some unit
waiting_at stage unit = None

-- what is kept of a unit whose end hasn't come
abbrev pub kept_at : Stage → List ℕ → List ℕ
kept_at Reading bytes = bytes
kept_at stage bytes = []

-- the refusal
abbrev pub refusal_at : Stage → Option Refusal
refusal_at (Refused refusal) = Some refusal
refusal_at stage = None

-- the unit whose bytes the machine holds, where they are the last that were fed
abbrev pub unit_held : Machine → NalUnit
unit_held m = record { place = m.fed - length m.unit.items; bytes = m.unit.items }

-- the bytes of a length and of its unit that the machine holds
abbrev pub bytes_held : Machine → List ℕ
bytes_held m = take m.have m.length ++ m.unit.items

-- a machine as a reader
abbrev pub scan_of : Machine → LenScan
scan_of m = record {
  fed = m.fed;
  given = m.given;
  ended = has_ended m.stage;
  waiting = waiting_at m.stage (unit_held m);
  kept = kept_at m.stage (bytes_held m);
  refusal = refusal_at m.stage;
}

-- how many units a machine will hand out beside those given, without a byte more
abbrev pub in_hand : Stage → ℕ
in_hand Found = 1
in_hand stage = 0

-- what is so of each machine: it holds the bytes of a length before one of the unit, its counts are below that of
-- the bytes, and where a unit's end hasn't come, its length breaks no rule
pub record IsHeld (m : Machine) : Type 0 where
  pub most : m.have ≤ 4
  pub length_first : m.have < 4 → m.unit.items ≡ []
  pub units : m.given + in_hand m.stage ≤ m.fed
  pub begun : m.stage ≡ Reading → front (bytes_held m) ≡ Open

-- whether bytes may be fed: no unit waits, and the input goes on
abbrev pub IsOpen : Stage → Type 0
IsOpen Reading = ⊤
IsOpen Given = ⊤
IsOpen stage = ⊥
