-- List entries, as many as are active.
use Rattle.std.specs.Prelude.{◌≡◌, ℕ, Bool, true, List, length, Option}
use Rattle.std.specs.Option.{IfSome}

-- a list has so many list entries, where they are coded, in a segment that has the list
abbrev pub AreAll : Bool → Option (List ℕ) → ℕ → Type 0
AreAll has list_entry active = IfSome list_entry (λ entries. (has ≡ true) × (length entries ≡ active))
