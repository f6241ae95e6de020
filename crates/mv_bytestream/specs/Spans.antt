-- What the spans of a byte string say, and when a string is refused as a whole.
use Rattle.std.specs.Prelude.{ℕ, ◌≡◌, ◌+◌, ◌<◌, ◌≤◌, List, ◌++◌, drop, length, slice_range, IsSomeAnd}
use Rattle.std.specs.Bool.{⊤}
use Rattle.mv_units.specs.Units.{NalUnit, leading, start_code}
use Rattle.mv_units.specs.Shown.{refused_leading}
use Rattle.mv_bytestream.specs.declared.splitting.Span.{Span}
use Rattle.mv_bytestream.specs.declared.splitting.ScanFault.{ScanFault}
use Rattle.mv_bytestream.specs.declared.splitting.ScanFault.TheVariants.{Refused, Memory}

-- the unit at a span of a string: its place is where the span begins
abbrev pub unit_at : List ℕ → Span → NalUnit
unit_at s span = record { place = span.from; bytes = slice_range s span.from span.to }

-- a span lies in a string
abbrev pub LiesIn : List ℕ → Span → Type 0
LiesIn s span = (span.from ≤ span.to) × (span.to ≤ length s)

-- a string is refused for its first leading byte; nothing is said of want of memory
abbrev pub RefusesLeading : List ℕ → ScanFault → Type 0
RefusesLeading s (Refused refusal) = IsSomeAnd (leading s) (λ at. refusal ≡ refused_leading at)
RefusesLeading s Memory = ⊤

-- at a place of a string a start code prefix stands, or the string ends there
pub record CodeOrEnd (s : List ℕ) (at : ℕ) : Type 0 where
  pub inside : at ≤ length s
  pub code : at < length s → drop at s ≡ start_code ++ drop (at + 3) s
