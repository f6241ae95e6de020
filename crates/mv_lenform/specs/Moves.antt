-- What a piece brings behind the bytes that a reader keeps.
use Rattle.std.specs.Prelude.{◌≡◌, ◌⊎◌, ℕ, ◌+◌, ◌-◌, ◌<◌, ◌≤◌, List, [], ◌++◌, length, take}
use Rattle.mv_rules.specs.declared.refusal.Refusal.{Refusal}
use Rattle.mv_rules.specs.declared.rule.Rule.{Rule}
use Rattle.mv_bytestream.specs.declared.splitting.ScanFault.{ScanFault}
use Rattle.mv_bytestream.specs.declared.splitting.ScanFault.TheVariants.{Refused as RefusedFor, Memory}
use Rattle.mv_prefixed.specs.Reading.{Open, Broken, Whole, front}
use Rattle.mv_lenform.specs.Stages.{bytes_held, scan_of}
use Rattle.mv_lenform.specs.declared.machine.Machine.{Machine}
use Rattle.mv_lenform.specs.declared.machine.Stage.TheVariants.{Reading, Found, Refused}

-- the first bytes of a piece, fewer than n, end no unit behind those kept
abbrev pub OpenBefore : List ℕ → List ℕ → ℕ → Type 0
OpenBefore kept piece n = (k : ℕ) → k < n → front (kept ++ take k piece) ≡ Open

-- n bytes of a piece were taken: all of them, which are kept, or those up to the end of a unit
pub record GoesOn (old new : Machine) (piece : List ℕ) (n : ℕ) : Type 0 where
  pub all : n ≡ length piece
  pub reads : new.stage ≡ Reading
  pub keeps : bytes_held new ≡ bytes_held old ++ take n piece

pub record EndsUnit (old new : Machine) (piece : List ℕ) (n : ℕ) : Type 0 where
  pub found : new.stage ≡ Found
  pub whole : front (bytes_held old ++ take n piece) ≡ Whole new.unit.items []

abbrev pub Comes : Machine → Machine → List ℕ → ℕ → Type 0
Comes old new piece n = GoesOn old new piece n ⊎ EndsUnit old new piece n

-- a unit that isn't plain came with byte number `count` of a piece
pub record RefusesAt (old new : Machine) (piece : List ℕ) (r : Refusal) : Type 0 where
  pub count : ℕ
  pub some : 0 < count
  pub within : count ≤ length piece
  pub before : OpenBefore (bytes_held old) piece count
  pub rule : Rule
  pub broken : front (bytes_held old ++ take count piece) ≡ Broken rule
  pub refusal : r ≡ record { unit = old.given; byte = old.fed + count - (length (bytes_held old ++ take count piece) - 4); rule = rule }
  pub stage : new.stage ≡ Refused r

-- each fault: after want of memory all is as it was, to callers
abbrev pub Faults : Machine → Machine → List ℕ → ScanFault → Type 0
Faults old new piece (RefusedFor r) = RefusesAt old new piece r
Faults old new piece Memory = scan_of new ≡ scan_of old

-- the refusal of a unit that the end of the input cuts
abbrev pub cut_off : Machine → Refusal
cut_off m = record { unit = m.given; byte = m.fed; rule = Rule.Truncated }
