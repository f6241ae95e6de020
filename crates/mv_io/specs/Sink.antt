-- What a sink tells of the bytes that it has taken, and what one write to it does.
use Rattle.std.specs.Prelude.{ℕ, ◌≡◌, ◌<◌, ◌≤◌, Option, None, Some, List, ◌++◌, take, length, Result, IfOk, OnErr}

-- what a sink shows of itself
pub record SinkState : Type 0 where
  -- the bytes that it has taken, where it knows them
  pub taken : Option (List ℕ)
  -- how often it failed
  pub faults : ℕ

-- the sink took these bytes in the call and no others: they stand behind those that it had
-- (one that doesn't tell its bytes doesn't tell them afterwards)
abbrev pub Appends : Option (List ℕ) → Option (List ℕ) → List ℕ → Type 0
Appends None new bytes = new ≡ None
Appends (Some had) new bytes = new ≡ Some (had ++ bytes)

-- the sink took the first few of these bytes, and not all of them
pub record AppendsPrefix (old new : Option (List ℕ)) (bytes : List ℕ) : Type 0 where
  pub count : ℕ
  pub not_all : count < length bytes
  pub appends : Appends old new (take count bytes)

-- a write takes at least one byte, and at most the piece
abbrev pub WritesSome : {E : Type 0} → Result ℕ E → List ℕ → Type 0
WritesSome result piece = IfOk result (λ n. (0 < n) × (n ≤ length piece))

-- one write of a piece
pub record WriteAppends {E : Type 0} (old new : Option (List ℕ)) (result : Result ℕ E) (piece : List ℕ) : Type 0 where
  -- the first n bytes of the piece are appended
  pub appends : IfOk result (λ n. Appends old new (take n piece))
  -- a failure appends nothing
  pub fails : OnErr result (new ≡ old)
