-- What a scanner stands for: the bytes fed, the units handed out, and what of the bytes it keeps.
use Rattle.std.specs.Prelude.{◌≡◌, ℕ, ◌≤◌, ◌<◌, ◌+◌, Bool, true, false, List, [], ◌++◌, length, take, drop, replicate, Option, None, Some}
use Rattle.std.specs.Option.{option_to_list}
use Rattle.mv_rules.specs.declared.refusal.Refusal.{Refusal}
use Rattle.mv_units.specs.Units.{NalUnit, pieces, units}
use Rattle.mv_units.specs.Shown.{last, refusal_shown, whole_units}
use Rattle.mv_bytestream.specs.declared.splitting.ScanFault.{ScanFault}
use Rattle.mv_bytestream.specs.declared.splitting.ScanFault.TheVariants.{Refused, Memory}

-- a scanner, as its callers see it
pub record Scan : Type 0 where
  -- how many bytes were fed
  pub fed : ℕ
  -- how many units were handed out
  pub given : ℕ
  -- whether the input has ended
  pub ended : Bool
  -- the finished unit that waits to be handed out
  pub waiting : Option NalUnit
  -- the unit whose end hasn't come, less the zero bytes at its end
  pub making : Option NalUnit
  -- how many zero bytes stand behind it, or before the first start code
  pub zeros : ℕ
  -- the refusal, once there was one
  pub refusal : Option Refusal

-- a scanner to which nothing was fed
abbrev pub nothing_fed : Scan
nothing_fed = record { fed = 0; given = 0; ended = false; waiting = None; making = None; zeros = 0; refusal = None }

-- the bytes of a unit, if there is one
abbrev pub bytes_of : Option NalUnit → List ℕ
bytes_of None = []
bytes_of (Some u) = u.bytes

-- what of the bytes fed is kept while the input goes on: the last unit, if there is one, and the zero bytes
-- behind it, which together are the last piece
pub record Keeps (s : List ℕ) (making : Option NalUnit) (zeros : ℕ) : Type 0 where
  pub unit : last (units s) ≡ making
  pub piece : last (pieces s) ≡ Some (bytes_of making ++ replicate zeros 0)

-- a scanner stands for the bytes s that were fed to it: they show nothing that the rules on a unit's bytes
-- refuse, and the units taken whole but those handed out are the one that waits, if one does
pub record StandsFor (scan : Scan) (s : List ℕ) : Type 0 where
  pub fed : scan.fed ≡ length s
  pub accepted : refusal_shown scan.ended s ≡ None
  pub given : scan.given ≤ length (whole_units scan.ended s)
  pub waiting : drop scan.given (whole_units scan.ended s) ≡ option_to_list scan.waiting
  pub keeps : scan.ended ≡ false → Keeps s scan.making scan.zeros
  pub unrefused : scan.refusal ≡ None

-- of a piece that is fed behind s, n bytes are those up to and including the first that ends a unit, or all
-- where none does
pub record TakesToUnit (s piece : List ℕ) (n : ℕ) : Type 0 where
  pub within : n ≤ length piece
  pub before : (k : ℕ) → k < n → whole_units false (s ++ take k piece) ≡ whole_units false s
  pub all : n < length piece → length (whole_units false (s ++ take n piece)) ≡ length (whole_units false s) + 1

-- of a piece that is fed behind s, byte number n from 1 is the first that shows a refusal, which is r, and its
-- unit is the one behind those that s holds whole
pub record ShowsAt (s piece : List ℕ) (r : Refusal) (n : ℕ) : Type 0 where
  pub some : 0 < n
  pub within : n ≤ length piece
  pub shown : refusal_shown false (s ++ take n piece) ≡ Some r
  pub before : (k : ℕ) → k < n → refusal_shown false (s ++ take k piece) ≡ None
  pub unit : r.unit ≡ length (whole_units false s)

-- a scanner that stood for s refuses a piece at the byte that shows it, and nothing waits; after want of
-- memory it is unchanged
abbrev pub RefusesPiece : Scan → Scan → List ℕ → ScanFault → Type 0
RefusesPiece old new piece (Refused r) =
    (new.refusal ≡ Some r) × (new.waiting ≡ None) × ((s : List ℕ) → StandsFor old s → (n : ℕ) × ShowsAt s piece r n)
RefusesPiece old new piece Memory = new ≡ old

-- bytes that are all show the refusal r, and its unit is the one behind those that they held whole before the
-- end was known
pub record RefusedAtEnd (s : List ℕ) (r : Refusal) : Type 0 where
  pub shown : refusal_shown true s ≡ Some r
  pub unit : r.unit ≡ length (whole_units false s)

-- a scanner that stood for s refuses it at its end, and nothing waits; after want of memory it is unchanged
abbrev pub RefusesEnd : Scan → Scan → ScanFault → Type 0
RefusesEnd old new (Refused r) =
    (new.refusal ≡ Some r) × (new.waiting ≡ None) × ((s : List ℕ) → StandsFor old s → RefusedAtEnd s r)
RefusesEnd old new Memory = new ≡ old

-- a scanner that handed out the unit that waited, if one did
abbrev pub handed_out : Scan → Scan
handed_out scan = elim scan.waiting [ None ↦ scan | Some u ↦ record scan { waiting = None; given = scan.given + 1 } ]
