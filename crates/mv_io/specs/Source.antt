-- What a source tells of its bytes, and what one read of it gives.
use Rattle.std.specs.Prelude.{ℕ, ◌≡◌, ◌<◌, ◌≤◌, Bool, true, Option, List, [], ◌++◌, take, length, Result, Ok, IfOk, OnErr, IfSome, IsSomeAnd}

-- what a source that knows its bytes tells of them
pub record Told : Type 0 where
  -- the bytes that it has left, the next one first
  pub left : List ℕ
  -- whether a read has answered 0, which is the end
  pub ended : Bool

-- what a source shows of itself
pub record SourceState : Type 0 where
  -- the bytes that are left and whether the end was read, where the source knows them
  pub told : Option Told
  -- how often it failed
  pub faults : ℕ

-- the source gave these bytes in the call and no others: they stood before those that are left now,
-- and a source that tells its bytes tells them afterwards too (nothing is said of one that doesn't)
abbrev pub Takes : Option Told → Option Told → List ℕ → Type 0
Takes old new bytes = IfSome old (λ was. IsSomeAnd new (λ is. was.left ≡ bytes ++ is.left))

-- the end was read in the call: the source told that no byte is left, and now tells that its end was read
abbrev pub Ends : Option Told → Option Told → Type 0
Ends old new = IfSome old (λ was. IsSomeAnd new (λ is. (was.left ≡ []) × (is.ended ≡ true)))

-- the end was read by now: no byte is left, and the source tells that its end was read
abbrev pub AtEnd : Option Told → Option Told → Type 0
AtEnd old new = IfSome old (λ was. IsSomeAnd new (λ is. (is.left ≡ []) × (is.ended ≡ true)))

-- whether the end was read is as it was
abbrev pub SameEnd : Option Told → Option Told → Type 0
SameEnd old new = IfSome old (λ was. IsSomeAnd new (λ is. is.ended ≡ was.ended))

-- a read answers at most as many bytes as the buffer has
abbrev pub ReadsAtMost : {E : Type 0} → Result ℕ E → List ℕ → Type 0
ReadsAtMost result into = IfOk result (λ n. n ≤ length into)

-- one read into a buffer, which holds `into` afterwards
pub record ReadTells {E : Type 0} (old new : Option Told) (result : Result ℕ E) (into : List ℕ) : Type 0 where
  -- the first n bytes of the buffer are the next ones, and no longer left
  pub gives : IfOk result (λ n. Takes old new (take n into))
  -- the answer 0 is the end
  pub ends : result ≡ Ok 0 → Ends old new
  -- any other number leaves the end unread, if it was
  pub goes_on : IfOk result (λ n. 0 < n → SameEnd old new)
  -- a failure takes no byte
  pub fails : OnErr result (new ≡ old)
