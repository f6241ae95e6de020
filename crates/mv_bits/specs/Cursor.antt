-- What a call of a reader of bits promises.
use Rattle.std.specs.Prelude.{◌≡◌, Bool, List, ◌++◌, Result, Ok, Err}
pub use Rattle.mv_syntax.specs.Cursor.{Cursor, place}
use Rattle.mv_syntax.specs.Bits.{Fault, short}

-- a call of a reader took a value: the bits that were left are those that are printed for it, and then those that are left
-- now; where it answers an error, nothing moved; the whole string is the same
abbrev pub TakesPrinted : {A E : Type 0} → (A → List Bool) → Cursor → Cursor → Result A E → Type 0
TakesPrinted printed old new (Ok value) = (old.left ≡ printed value ++ new.left) × (new.total ≡ old.total)
TakesPrinted printed old new (Err e) = new ≡ old

-- the same by a reading on lists, for those who read by a table: the call gave that value and left what stands behind it, or
-- the reading was short and nothing moved
abbrev pub Takes : {A E : Type 0} → Cursor → Cursor → Result A E → Result (A × List Bool) Fault → Type 0
Takes old new (Ok value) reading = (reading ≡ Ok (value, new.left)) × (new.total ≡ old.total)
Takes old new (Err e) reading = (reading ≡ Err short) × (new ≡ old)
