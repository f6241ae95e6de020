-- Numbers drawn from a state.
use Rattle.std.specs.Prelude.{ℕ, zero, suc, ◌+◌, ◌*◌, ◌/◌, ◌%◌, ◌^◌, nat_eq, if◌then◌else◌}

-- the state behind a draw
unfoldable pub next : ℕ → ℕ
next state = (state * 6364136223846793005 + 1442695040888963407) % 2 ^ 64

-- the number that a draw gives, from the state behind it
abbrev pub drawn : ℕ → ℕ
drawn state = state / 2 ^ 33

-- the state behind n draws
abbrev pub behind : ℕ → ℕ → ℕ
behind state zero = state
behind state (suc n) = next (behind state n)

-- the number that draw n gives, from 0 on
abbrev pub draw : ℕ → ℕ → ℕ
draw state n = drawn (next (behind state n))

-- the byte that is made of a drawn number: a quarter of them are zero
unfoldable pub byte_of : ℕ → ℕ
byte_of number = if nat_eq (number % 4) 0 then 0 else number / 256 % 256
