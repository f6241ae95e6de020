-- The form in which a byte string carries units: which of them were taken whole, and when bytes are refused by the
-- rules of the form itself. The byte stream of Annex B is one.
use Rattle.std.specs.Prelude.{◌≡◌, ◌≤◌, ℕ, Bool, true, false, List, ◌++◌, length, Option, None, Some, All}
use Rattle.mv_rules.specs.declared.refusal.Refusal.{Refusal}
use Rattle.mv_rules.specs.declared.rule.Rule.{Rule}
use Rattle.mv_units.specs.Rules.{unit_rule}
use Rattle.mv_units.specs.Shown.{IsOneOf, StartsWith, early_rules, refusal_shown, whole_units}
use Rattle.mv_units.specs.Units.{NalUnit}

pub record Format : Type 0 where
  -- the units of a byte string that were taken whole, where its end was read and where it wasn't
  pub whole : Bool → List ℕ → List NalUnit
  -- the refusal that its bytes show by the rules of the form, where its end was read and where it wasn't
  pub shown : Bool → List ℕ → Option Refusal
  -- the rules by which bytes are refused before their end is known, and never by it
  pub own : List Rule

-- bytes that show nothing are refused, with more behind them, at the unit that wasn't taken whole
pub record Goes (f : Format) (t : List ℕ) : Type 0 where
  pub more : List ℕ
  pub refusal : Refusal
  pub shown : f.shown false (t ++ more) ≡ Some refusal
  pub unit : refusal.unit ≡ length (f.whole false t)
  pub own : IsOneOf f.own refusal.rule

-- what is so of each form
pub record IsFormat (f : Format) : Type 0 where
  -- a refusal stays, however the string goes on, and where it ends
  pub stays : (t s : List ℕ) (r : Refusal) → f.shown false t ≡ Some r → f.shown false (t ++ s) ≡ Some r
  pub ends : (t : List ℕ) (r : Refusal) → f.shown false t ≡ Some r → f.shown true t ≡ Some r
  -- so do the units that were taken whole
  pub whole : (t s : List ℕ) → StartsWith (f.whole false (t ++ s)) (f.whole false t)
  pub all : (t : List ℕ) → StartsWith (f.whole true t) (f.whole false t)
  -- all units before the refused one were taken whole, and one that was taken whole before isn't refused
  pub within : (ended : Bool) (t : List ℕ) (r : Refusal) → f.shown ended t ≡ Some r → r.unit ≤ length (f.whole ended t)
  pub later : (t s : List ℕ) (r : Refusal) → f.shown false t ≡ None → f.shown false (t ++ s) ≡ Some r → length (f.whole false t) ≤ r.unit
  pub last : (t : List ℕ) (r : Refusal) → f.shown false t ≡ None → f.shown true t ≡ Some r → length (f.whole false t) ≤ r.unit
  -- where nothing is shown, more bytes may be refused, by a rule by which the end isn't
  pub goes : (t : List ℕ) → f.shown false t ≡ None → Goes f t
  pub end : (t : List ℕ) (r : Refusal) → f.shown false t ≡ None → f.shown true t ≡ Some r → ¬ IsOneOf f.own r.rule
  -- a string has no more units than bytes, and where nothing is shown they break no rule on a unit's own bytes
  pub count : (ended : Bool) (t : List ℕ) → length (f.whole ended t) ≤ length t
  pub clean : (ended : Bool) (t : List ℕ) → f.shown ended t ≡ None → All (λ (u : NalUnit). unit_rule u.bytes ≡ None) (f.whole ended t)

-- the byte stream (Annex B)
abbrev pub byte_stream : Format
byte_stream = record { whole = whole_units; shown = refusal_shown; own = early_rules }
