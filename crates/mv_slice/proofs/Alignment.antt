-- The alignment that ends a header, taken as one number.
use Rattle.std.proofs.Common.{◌≡◌, ◌≢◌, ℕ, ◌+◌, ◌-◌, ◌*◌, ◌%◌, ◌^◌, ◌<◌, ◌≤◌, Bool, List, length, Ok, Err, ap, ◌∙◌, arith, add-one, pow-suc, pow_mono, length-append}
use Rattle.mv_syntax.specs.Bits.{Fault, short, u_bits, take_bits, trailing_bits, to_byte_end}
use Rattle.mv_syntax.specs.inner.Reader.{behind}
use Rattle.mv_syntax.proofs.BitLaws.{take_bits-printed, length-u_bits}
use Rattle.mv_syntax.proofs.AlignLaws.{behind_u, behind_other, behind_short, trailing_one}

-- how many tail there are
zeros_left : (p tail : ℕ) → tail + p % 8 ≡ 7 → to_byte_end (p + 1) ≡ tail
zeros_left p tail h = omega arith

trailing_is : (p tail : ℕ) → tail + p % 8 ≡ 7 → trailing_bits p ≡ u_bits (tail + 1) (2 ^ tail)
trailing_is p tail h = trailing_one p ∙ ap (λ n. u_bits (n + 1) (2 ^ n)) (zeros_left p tail h)

narrow : (n : ℕ) → 2 ^ n < 2 ^ (n + 1)
narrow n =
    let least : 0 ≤ n = omega arith in
    let some : 2 ^ 0 ≤ 2 ^ n = pow_mono least in
    rw (add-one n) (omega (arith, some, pow-suc 2 n))

pub alignment_there : (p tail value : ℕ) (b rest : List Bool) → tail + p % 8 ≡ 7 → take_bits (tail + 1) 0 b ≡ Ok (value, rest) → value ≡ 2 ^ tail
    → behind (trailing_bits p) b ≡ Ok rest
alignment_there p tail value b rest h e is =
    ap (λ l. behind l b) (trailing_is p tail h) ∙ behind_u (tail + 1) (2 ^ tail) b rest (narrow tail) (e ∙ ap (λ v. Ok (v, rest)) is)

pub alignment_other : (p tail value : ℕ) (b rest : List Bool) → tail + p % 8 ≡ 7 → take_bits (tail + 1) 0 b ≡ Ok (value, rest) → 2 ^ tail ≢ value
    → behind (trailing_bits p) b ≡ Err short
alignment_other p tail value b rest h e differ =
    ap (λ l. behind l b) (trailing_is p tail h) ∙ behind_other (tail + 1) (2 ^ tail) value b rest (narrow tail) e differ

pub alignment_short : (p tail : ℕ) (b : List Bool) (fault : Fault) → tail + p % 8 ≡ 7 → take_bits (tail + 1) 0 b ≡ Err fault
    → behind (trailing_bits p) b ≡ Err short
alignment_short p tail b fault h e = ap (λ l. behind l b) (trailing_is p tail h) ∙ behind_short (tail + 1) (2 ^ tail) b fault (narrow tail) e

-- what is left behind it is whole bytes
pub whole_left : (total tail value : ℕ) (b rest : List Bool) → total % 8 ≡ 0 → length b ≤ total → tail + (total - length b) % 8 ≡ 7
    → take_bits (tail + 1) 0 b ≡ Ok (value, rest) → length rest % 8 ≡ 0
whole_left total tail value b rest whole within h e =
    let same : length b ≡ tail + 1 + length rest =
    ap length (take_bits-printed (tail + 1) b value rest e).0 ∙ length-append (u_bits (tail + 1) value) rest ∙ ap (λ n. n + length rest) (length-u_bits (tail + 1) value) in
    omega arith

-- 2 ^ n is one shifted to the left in 64 bits
pub one_shifted : (n : ℕ) → n ≤ 63 → 1 * 2 ^ n % 18446744073709551616 ≡ 2 ^ n
one_shifted n h = let most : 2 ^ n ≤ 2 ^ 63 = pow_mono h in omega arith

-- the tail behind the one at a place
pub zeros_at : (n p : ℕ) → n ≡ p → 7 - n % 8 + p % 8 ≡ 7
zeros_at n p e = omega arith
