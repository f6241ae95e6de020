-- What a reader of units stands for: the bytes fed, the units handed out, and the unit that waits.
use Rattle.std.specs.Prelude.{◌≡◌, ℕ, ◌+◌, ◌≤◌, Bool, true, false, List, ◌++◌, length, take, drop, Option, None, Some, ⊤}
use Rattle.std.specs.Option.{option_to_list}
use Rattle.mv_rules.specs.declared.refusal.Refusal.{Refusal}
use Rattle.mv_units.specs.Units.{NalUnit}
use Rattle.mv_judging.specs.Format.{Format, byte_stream}
use Rattle.mv_bytestream.specs.Scan.{Scan, StandsFor}
use Rattle.mv_bytestream.specs.declared.splitting.ScanFault.{ScanFault}
use Rattle.mv_bytestream.specs.declared.splitting.ScanFault.TheVariants.{Refused, Memory}

-- what is known of a reader
pub record Reading : Type 0 where
  -- how many bytes were fed
  pub fed : ℕ
  -- how many units were handed out
  pub given : ℕ
  -- whether the input has ended
  pub ended : Bool
  -- the finished unit that waits to be handed out
  pub waiting : Option NalUnit

-- a reader stands for the bytes s that were fed to it: they show nothing that the form refuses, and the units
-- taken whole but those handed out are the one that waits, if one does
pub record StandsIn (f : Format) (reading : Reading) (s : List ℕ) : Type 0 where
  pub fed : reading.fed ≡ length s
  pub accepted : f.shown reading.ended s ≡ None
  pub given : reading.given ≤ length (f.whole reading.ended s)
  pub waiting : drop reading.given (f.whole reading.ended s) ≡ option_to_list reading.waiting

-- of a piece that is fed behind s, some first bytes show a refusal, of the unit behind those that s holds whole
pub record ShowsIn (f : Format) (s piece : List ℕ) (r : Refusal) : Type 0 where
  pub count : ℕ
  pub within : count ≤ length piece
  pub shown : f.shown false (s ++ take count piece) ≡ Some r
  pub unit : r.unit ≡ length (f.whole false s)

abbrev pub RefusesIn : Format → List ℕ → List ℕ → ScanFault → Type 0
RefusesIn f s piece (Refused r) = ShowsIn f s piece r
RefusesIn f s piece Memory = ⊤

-- the end of s shows a refusal, of the unit behind those that s holds whole
pub record ShowsEnd (f : Format) (s : List ℕ) (r : Refusal) : Type 0 where
  pub shown : f.shown true s ≡ Some r
  pub unit : r.unit ≡ length (f.whole false s)

abbrev pub RefusesEndOf : Format → List ℕ → ScanFault → Type 0
RefusesEndOf f s (Refused r) = ShowsEnd f s r
RefusesEndOf f s Memory = ⊤

-- the unit that waited, if one did, was handed out
abbrev pub handed_out : Reading → Reading
handed_out reading = elim reading.waiting [ None ↦ reading | Some u ↦ record reading { waiting = None; given = reading.given + 1 } ]

abbrev pub HandsOut : Reading → Reading → Type 0
HandsOut old new = new ≡ handed_out old

-- a scanner as a reader
abbrev pub reading_of : Scan → Reading
reading_of scan = record { fed = scan.fed; given = scan.given; ended = scan.ended; waiting = scan.waiting }

abbrev pub scanner_stands : Scan → List ℕ → Type 0
scanner_stands scan s = StandsFor scan s

pub scanner-means : (scan : Scan) (s : List ℕ) → scanner_stands scan s → StandsIn byte_stream (reading_of scan) s
scanner-means scan s h = record { fed = h.fed; accepted = h.accepted; given = h.given; waiting = h.waiting }

-- nothing was fed to a reader
pub record IsFresh (reading : Reading) : Type 0 where
  pub fed : reading.fed ≡ 0
  pub given : reading.given ≡ 0
  pub ended : reading.ended ≡ false
  pub waiting : reading.waiting ≡ None
