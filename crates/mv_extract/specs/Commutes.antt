-- What stands of an extract that was written: it is accepted in turn, and decodes as the whole does (this project's profile).
use Rattle.std.specs.Prelude.{ℕ, ◌≡◌, ◌≤◌, true, List, length, None}
use Rattle.mv_io.specs.Call.{Input, Output, Took}
use Rattle.mv_io.specs.Sink.{Appends}
use Rattle.mv_units.specs.Framing.{frame}
use Rattle.mv_units.specs.Units.{units}
use Rattle.mv_pictures.specs.Decoding.{out}
use Rattle.mv_pictures.specs.Extract.{extract}
use Rattle.mv_pictures.specs.Verdict.{bytes_of, event}
use Rattle.mv_commuting.specs.Kept.{KeepsOutputsOf}

-- the units of a byte string
abbrev pub units_in : List ℕ → List (List ℕ)
units_in s = bytes_of (units s)

-- `written` carries the units of `taken` that are kept for set o: these are its units, and it is accepted whichever set is asked
-- for that `taken` is accepted for; each set whose outputs are kept, the set itself among them, has the same output
-- pictures, with their sequences, counts, layers, views and terms, in the same order; and extracting again changes nothing
pub record Commutes (o : ℕ) (taken written : List ℕ) : Type 0 where
  pub carries : units_in written ≡ extract (units_in taken) o
  pub accepted : (n : ℕ) → event n taken ≡ None → event n written ≡ None
  pub outputs : (p : ℕ) → KeepsOutputsOf (units_in taken) o p → out (units_in written) p ≡ out (units_in taken) p
  pub own : out (units_in written) o ≡ out (units_in taken) o
  pub again : extract (units_in written) o ≡ units_in written

-- a call read an accepted byte string to its end, within the limit, and its sink gained such an extract of it, and nothing else
pub record Extracted (o limit : ℕ) (input : Input) (output : Output) : Type 0 where
  pub taken : List ℕ
  pub written : List ℕ
  pub took : Took input taken true
  pub within : length taken ≤ limit
  pub accepted : event o taken ≡ None
  pub framed : written ≡ frame (extract (units_in taken) o)
  pub gained : Appends output.old.taken output.new.taken written
  pub again : event o written ≡ None
  pub commutes : Commutes o taken written
