-- A search among numbers, as code makes it.
use Rattle.std.specs.Prelude.{ℕ, zero, suc, Bool, if◌then◌else◌}

-- the first number for which the test holds, of k and the `more` numbers behind it but the last; or that last one
abbrev pub first_from : ℕ → ℕ → (ℕ → Bool) → ℕ
first_from zero k test = k
first_from (suc more) k test = if test k then k else first_from more (suc k) test
