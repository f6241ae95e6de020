-- What the calls promise that read by a table or a payload, as the reader on lists answers.
use Rattle.std.specs.Prelude.{◌≡◌, Bool, List, Option, Some, None, Result, Ok, Err}
use Rattle.mv_syntax.specs.Bits.{Fault}
use Rattle.mv_syntax.specs.Cursor.{Cursor}

-- an error agrees with the answer of the reader on lists
abbrev pub FailsAs : {V : Type 0} → Option Fault → Result V Fault → Type 0
FailsAs None answer = Unit {0}
FailsAs (Some fault) answer = answer ≡ Err fault

-- a call that reads by a table, from one place of a reader to another, as the reader on lists answers: its value, and what stands
-- behind it, or an error that agrees; nothing is said of the place after an error
abbrev pub Fills : {A X E : Type 0} → (X → A) → (E → Option Fault) → Cursor → Cursor → Result X E → Result (A × List Bool) Fault → Type 0
Fills view means old new (Ok x) answer = (answer ≡ Ok (view x, new.left)) × (new.total ≡ old.total)
Fills view means old new (Err e) answer = FailsAs (means e) answer

-- the same of a whole payload
abbrev pub FillsPayload : {A X E : Type 0} → (X → A) → (E → Option Fault) → Result X E → Result A Fault → Type 0
FillsPayload view means (Ok x) answer = answer ≡ Ok (view x)
FillsPayload view means (Err e) answer = FailsAs (means e) answer
