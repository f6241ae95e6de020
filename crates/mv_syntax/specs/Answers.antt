-- What the calls that read and write by a table promise.
use Rattle.std.specs.Prelude.{◌≡◌, ℕ, Bool, List, Option, Some, None, Result, Ok, Err}
use Rattle.mv_syntax.specs.Bits.{Fault, short, breaks}
use Rattle.mv_syntax.specs.Cursor.{Cursor}
use Rattle.mv_syntax.specs.Table.{Table, Reads, Cut}

-- each type of errors says what an error means: a fault of the bits, or None for want of memory; in the words of
-- the table: where it is short, no value reads and no rule cuts; where it breaks rule r, r cuts
abbrev pub Refuses : {V : Type 0} → (V → Type 0) → (ℕ → Type 0) → Option Fault → Type 0
Refuses reads cut None = Unit {0}
Refuses {V} reads cut (Some short) = ¬ ((v : V) × reads v) × ¬ ((r : ℕ) × cut r)
Refuses reads cut (Some (breaks r)) = cut r

-- a call that reads by a table, from one place of a reader to another: its value reads at the old place and leaves what
-- stands at the new one, or the error says why none does, and the reader stands where it stood
abbrev pub Answers : {A X E : Type 0} → (X → A) → (E → Option Fault) → Table A → Cursor → Cursor → Result X E → Type 0
Answers view means t old new (Ok x) = Reads t old.left (view x) new.left × (new.total ≡ old.total)
Answers {A} view means t old new (Err e) = Refuses {V = A × List Bool} (λ v. Reads t old.left v.0 v.1) (Cut t old.left) (means e) × (new ≡ old)
