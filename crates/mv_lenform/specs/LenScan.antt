-- What a reader of the length-prefixed form stands for: the bytes fed, the units handed out, and what it keeps.
use Rattle.std.specs.Prelude.{◌≡◌, ℕ, ◌≤◌, ◌<◌, ◌+◌, Bool, false, true, List, [], ◌++◌, length, take, drop, Option, None, Some}
use Rattle.std.specs.Option.{option_to_list}
use Rattle.mv_rules.specs.declared.refusal.Refusal.{Refusal}
use Rattle.mv_units.specs.Units.{NalUnit}
use Rattle.mv_bytestream.specs.declared.splitting.ScanFault.{ScanFault}
use Rattle.mv_bytestream.specs.declared.splitting.ScanFault.TheVariants.{Refused, Memory}
use Rattle.mv_prefixed.specs.Reading.{read, len_units, len_refusal}

-- a reader, as its callers see it
pub record LenScan : Type 0 where
  -- how many bytes were fed
  pub fed : ℕ
  -- how many units were handed out
  pub given : ℕ
  -- whether the input has ended
  pub ended : Bool
  -- the finished unit that waits to be handed out
  pub waiting : Option NalUnit
  -- the bytes so far of the unit whose end hasn't come, behind those of its length
  pub kept : List ℕ
  -- the refusal, once there was one
  pub refusal : Option Refusal

-- a reader to which nothing was fed
abbrev pub nothing_fed : LenScan
nothing_fed = record { fed = 0; given = 0; ended = false; waiting = None; kept = []; refusal = None }

-- a reader stands for the bytes s that were fed to it: they show no refusal, the units that are read but those
-- handed out are the one that waits, if one does, and the rest behind them is kept
pub record StandsFor (scan : LenScan) (s : List ℕ) : Type 0 where
  pub fed : scan.fed ≡ length s
  pub accepted : len_refusal scan.ended s ≡ None
  pub given : scan.given ≤ length (len_units s)
  pub waiting : drop scan.given (len_units s) ≡ option_to_list scan.waiting
  pub keeps : (read s).rest ≡ scan.kept
  pub unrefused : scan.refusal ≡ None

-- of a piece that is fed behind s, n bytes are those up to and including the first that ends a unit, or all
-- where none does
pub record TakesToUnit (s piece : List ℕ) (n : ℕ) : Type 0 where
  pub within : n ≤ length piece
  pub before : (k : ℕ) → k < n → len_units (s ++ take k piece) ≡ len_units s
  pub all : n < length piece → length (len_units (s ++ take n piece)) ≡ length (len_units s) + 1

-- of a piece that is fed behind s, byte number n from 1 is the first that shows a refusal, which is r, and its
-- unit is the one behind those that s holds whole
pub record ShowsAt (s piece : List ℕ) (r : Refusal) (n : ℕ) : Type 0 where
  pub some : 0 < n
  pub within : n ≤ length piece
  pub shown : len_refusal false (s ++ take n piece) ≡ Some r
  pub before : (k : ℕ) → k < n → len_refusal false (s ++ take k piece) ≡ None
  pub unit : r.unit ≡ length (len_units s)

-- a reader that stood for s refuses a piece at the byte that shows it, and nothing waits; after want of memory it
-- is unchanged
abbrev pub RefusesPiece : LenScan → LenScan → List ℕ → ScanFault → Type 0
RefusesPiece old new piece (Refused r) =
    (new.refusal ≡ Some r) × (new.waiting ≡ None) × ((s : List ℕ) → StandsFor old s → (n : ℕ) × ShowsAt s piece r n)
RefusesPiece old new piece Memory = new ≡ old

-- bytes that are all show the refusal r, and its unit is the one behind those that they hold whole
pub record RefusedAtEnd (s : List ℕ) (r : Refusal) : Type 0 where
  pub shown : len_refusal true s ≡ Some r
  pub unit : r.unit ≡ length (len_units s)

-- a reader that stood for s refuses it at its end, and nothing waits; it takes no memory there
abbrev pub RefusesEnd : LenScan → LenScan → ScanFault → Type 0
RefusesEnd old new (Refused r) =
    (new.refusal ≡ Some r) × (new.waiting ≡ None) × ((s : List ℕ) → StandsFor old s → RefusedAtEnd s r)
RefusesEnd old new Memory = new ≡ old

-- a reader that handed out the unit that waited, if one did
abbrev pub handed_out : LenScan → LenScan
handed_out scan = elim scan.waiting [ None ↦ scan | Some u ↦ record scan { waiting = None; given = scan.given + 1 } ]
