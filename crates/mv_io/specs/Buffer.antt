-- Bytes that wait in a buffer of fixed size, first in, first out.
use Rattle.std.specs.Prelude.{ℕ, List}

-- a buffer of bytes that wait
pub record Queue : Type 0 where
  -- the bytes that wait, the next one first
  pub waiting : List ℕ
  -- how many more it takes now
  pub room : ℕ
