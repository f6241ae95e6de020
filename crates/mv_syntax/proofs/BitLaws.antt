-- The laws of the bit codes: what was printed reads back before any rest, what reads was printed and is in range,
-- and a reading that fails is short exactly where no code stands.
use Rattle.std.proofs.Common.{◌≡◌, ℕ, zero, suc, ◌+◌, ◌-◌, ◌*◌, ◌/◌, ◌%◌, ◌^◌, ◌<◌, ◌≤◌, ◌⊎◌, Bool, true, false, cond, nat_eq, List, [], ◌∷◌, ◌++◌, length, replicate, ℤ, pos, negsuc, Result, Ok, Err, refl, sym, ap, ◌∙◌, arith, ◌<ℤ◌, ap₂, subst, inl, inr, lit<, mod-lt, mod-eq_of_lt, pow-suc, add-mul, mul_assoc, pow_mono, lt-ltb, le-ltb, suc-le-suc, le_antisymm, append_assoc, length-append, add-one, neg_ℤ, not, ◌||◌, ◌≢◌, ne_eqb}
use Rattle.std.proofs.lemmas.Int.{ints}
use Rattle.std.proofs.lemmas.Bool.{cases_lt}
use Rattle.std.proofs.lemmas.List.{length-replicate}
use Rattle.std.specs.Int.{bit_at}
use Rattle.std.proofs.lemmas.Nat.{mod-pow-add, shr_split, shr_high, pow_pos}
use Rattle.std.proofs.lemmas.Nat.Bits.{bit_at_cat_low, bit_at_cat_high, bit_at-zero}
use Rattle.mv_syntax.specs.Bits.{Fault, short, ◌>>=◌, kept, bit, u_bits, take_bits, halvings, ue_zeros, ue_bits, take_ue_from, take_ue, HasNoUe, se_value, se_code, se_bits, take_se, align_bits, trailing_bits, has_one, byte_bits}

-- a reading has one value
pub same_ok : {A : Type 0} {r : Result A Fault} {x y : A} → r ≡ Ok x → r ≡ Ok y → x ≡ y
same_ok e f = cc

-- ---- u(n)
pub length-u_bits : (n v : ℕ) → length (u_bits n v) ≡ n
unfolding u_bits
length-u_bits zero v = refl
length-u_bits (suc n) v = ap suc (length-u_bits n v)

bit-eqb : (d : ℕ) → d < 2 → bit (nat_eq d 1) ≡ d
bit-eqb zero h = refl
bit-eqb (suc zero) h = refl
bit-eqb (suc (suc n)) h = absurd (omega arith)

eqb-bit : (x : Bool) → nat_eq (bit x) 1 ≡ x
eqb-bit true = refl
eqb-bit false = refl

bit_lt : (x : Bool) → bit x < 2
bit_lt true = lit< tt
bit_lt false = lit< tt

-- the bits of u(n) are the n low ones alone
u_bits-same : (n v w : ℕ) → ((i : ℕ) → i < n → bit_at v i ≡ bit_at w i) → u_bits n v ≡ u_bits n w
unfolding u_bits
u_bits-same zero v w h = refl
u_bits-same (suc n) v w h =
    ap₂ (λ x rest. nat_eq x 1 ∷ rest) (h n (omega arith)) (u_bits-same n v w (λ i k. h i (omega arith)))

-- the next bit above the n low ones
pub mod-suc_bits : (n v : ℕ) → v % 2 ^ suc n ≡ bit_at v n * 2 ^ n + v % 2 ^ n
mod-suc_bits n v =
    let e : 1 + n ≡ suc n = omega arith in
    subst (λ k. v % 2 ^ k ≡ v / 2 ^ n % 2 * 2 ^ n + v % 2 ^ n) e (mod-pow-add v 1 n)

take_bits-after : (n v high : ℕ) (rest : List Bool) → take_bits n high (u_bits n v ++ rest) ≡ Ok (high * 2 ^ n + v % 2 ^ n, rest)
unfolding take_bits u_bits
take_bits-after zero v high rest =
    let e : high ≡ high * 2 ^ 0 + v % 2 ^ 0 = omega arith in ap (λ x. Ok (x, rest)) e
take_bits-after (suc n) v high rest =
    let top = bit_at v n in
    let e : (2 * high + top) * 2 ^ n + v % 2 ^ n ≡ high * 2 ^ suc n + v % 2 ^ suc n
    = omega (arith, mod-suc_bits n v, pow-suc 2 n, add-mul (2 * high) top (2 ^ n), mul_assoc 2 high (2 ^ n), ap (λ p. high * p) (pow-suc 2 n), mul_assoc high (2 ^ n) 2)
    in
    rw (bit-eqb top (mod-lt (v / 2 ^ n) (lit< tt))) (take_bits-after n v (2 * high + top) rest ∙ ap (λ x. Ok (x, rest)) e)

-- what was printed reads back before any rest
pub take_bits-u_bits : (n v : ℕ) (rest : List Bool) → v < 2 ^ n → take_bits n 0 (u_bits n v ++ rest) ≡ Ok (v, rest)
take_bits-u_bits n v rest h =
    let e : 0 * 2 ^ n + v % 2 ^ n ≡ v = omega (arith, mod-eq_of_lt h) in
    take_bits-after n v 0 rest ∙ ap (λ x. Ok (x, rest)) e

-- u(n) of the n low bits, printed at any number above them
pub u_bits-low : (n v : ℕ) → u_bits n (v % 2 ^ n) ≡ u_bits n v
u_bits-low n v =
    u_bits-same n (v % 2 ^ n) v (λ i h. sym (bit_at_cat_low (v / 2 ^ n) n (v % 2 ^ n) i h) ∙ ap (λ x. bit_at x i) (shr_split v n))

-- m bits and then n bits are the m + n bits of one number
pub u_bits-append : (m n v w : ℕ) → w < 2 ^ n → u_bits (m + n) (v * 2 ^ n + w) ≡ u_bits m v ++ u_bits n w
unfolding u_bits
u_bits-append zero n v w h =
    let e : 0 + n ≡ n = omega arith in
    rw e (u_bits-same n (v * 2 ^ n + w) w (λ i k. bit_at_cat_low v n w i k))
u_bits-append (suc m) n v w h =
    let e : suc m + n ≡ suc (m + n) = omega arith in
    let below : n ≤ m + n = omega arith in
    let less : m + n - n ≡ m = omega arith in
    rw e (ap₂ (λ x rest. nat_eq x 1 ∷ rest) (bit_at_cat_high v n w (m + n) h below ∙ ap (bit_at v) less) (u_bits-append m n v w h))

pub u_bits-zero : (n : ℕ) → u_bits n 0 ≡ replicate n false
unfolding u_bits
u_bits-zero zero = refl
u_bits-zero (suc n) = ap₂ (λ x rest. nat_eq x 1 ∷ rest) (bit_at-zero n) (u_bits-zero n)

-- a number whose highest one is the first of its bits
pub u_bits-leading : (n v : ℕ) → 2 ^ n ≤ v → v < 2 ^ suc n → u_bits (suc n) v ≡ true ∷ u_bits n (v - 2 ^ n)
unfolding u_bits
u_bits-leading n v low high =
    let rest = v - 2 ^ n in
    let below : rest < 2 ^ n = omega (arith, pow-suc 2 n) in
    let parts : 1 * 2 ^ n + rest ≡ v = omega arith in
    let top : bit_at v n ≡ 1
    = ap (λ w. bit_at w n) (sym parts) ∙ ap (λ q. q % 2) (shr_high 1 n rest below)
    in
    ap₂ (λ x b. nat_eq x 1 ∷ b)
    top
    (u_bits-same n v rest (λ i h. ap (λ w. bit_at w i) (sym parts) ∙ bit_at_cat_low 1 n rest i h))

-- the highest one, and zeros
pub u_bits-one : (n : ℕ) → u_bits (suc n) (2 ^ n) ≡ true ∷ replicate n false
u_bits-one n =
    let none : 2 ^ n - 2 ^ n ≡ 0 = omega arith in
    u_bits-leading n (2 ^ n) (omega arith) (omega (arith, pow-suc 2 n, pow_pos n))
    ∙ ap (λ w. true ∷ u_bits n w) none
    ∙ ap (λ b. true ∷ b) (u_bits-zero n)

-- the greatest number is all ones
pub u_bits-ones : (n : ℕ) → u_bits n (2 ^ n - 1) ≡ replicate n true
unfolding u_bits
u_bits-ones zero = refl
u_bits-ones (suc n) =
    let rest : 2 ^ suc n - 1 - 2 ^ n ≡ 2 ^ n - 1 = omega (arith, pow-suc 2 n, pow_pos n) in
    u_bits-leading n (2 ^ suc n - 1) (omega (arith, pow-suc 2 n, pow_pos n)) (omega (arith, pow_pos (suc n)))
    ∙ ap (λ w. true ∷ u_bits n w) rest
    ∙ ap (λ b. true ∷ b) (u_bits-ones n)

-- a list of bits is shorter than n, or begins with the n bits of a number
pub split_bits : (n : ℕ) (b : List Bool) → (length b < n) ⊎ ((v : ℕ) × (rest : List Bool) × (b ≡ u_bits n v ++ rest) × (v < 2 ^ n))
unfolding u_bits
split_bits zero b = inr (0, b, refl, lit< tt)
split_bits (suc n) [] = inl (omega arith)
split_bits (suc n) (x ∷ b) =
    elim (split_bits n b) [
      | inl h ↦ inl (omega arith)
      | inr (v, rest, e, h) ↦
          let top : bit_at (bit x * 2 ^ n + v) n ≡ bit x
          = ap (λ q. q % 2) (shr_high (bit x) n v h) ∙ mod-eq_of_lt (bit_lt x)
          in
          let low : u_bits n (bit x * 2 ^ n + v) ≡ u_bits n v
          = u_bits-same n (bit x * 2 ^ n + v) v (λ i k. bit_at_cat_low (bit x) n v i k)
          in
          inr (
            bit x * 2 ^ n + v,
            rest,
            ap₂ (λ y c. y ∷ c) (sym (ap (λ q. nat_eq q 1) top ∙ eqb-bit x)) (e ∙ ap (λ c. c ++ rest) (sym low)),
            grind (arith, bit_lt x, pow-suc 2 n),
          )
    ]

pub take_bits-short : (n high : ℕ) (b : List Bool) → length b < n → take_bits n high b ≡ Err short
unfolding take_bits
take_bits-short zero high b h = absurd (omega arith)
take_bits-short (suc n) high [] h = refl
take_bits-short (suc n) high (x ∷ b) h = take_bits-short n (2 * high + bit x) b (omega arith)

-- what reads was printed, and is in range
pub take_bits-printed : (n : ℕ) (b : List Bool) (v : ℕ) (rest : List Bool) → take_bits n 0 b ≡ Ok (v, rest) → (b ≡ u_bits n v ++ rest) × (v < 2 ^ n)
take_bits-printed n b v rest e =
    elim (split_bits n b) [
      | inl h ↦ absurd (cc (take_bits-short n 0 b h))
      | inr (w, left, same, h) ↦
          let f : take_bits n 0 b ≡ Ok (w, left) = rw same (take_bits-u_bits n w left h) in
          let one : (v, rest) ≡ (w, left) = same_ok e f in
          rw (ap (λ r. r.0) one, ap (λ r. r.1) one) (same, h)
    ]

-- a reading that fails is short, and fewer than n bits are left
pub take_bits-failed : (n high : ℕ) (b : List Bool) (fault : Fault) → take_bits n high b ≡ Err fault → (fault ≡ short) × (length b < n)
take_bits-failed n high b fault e =
    elim (split_bits n b) [
      | inl h ↦ let f = take_bits-short n high b h in ((cc), h)
      | inr (w, left, same, h) ↦
          let f : take_bits n high b ≡ Ok (high * 2 ^ n + w % 2 ^ n, left) = rw same (take_bits-after n w high left) in
          absurd (cc)
    ]

-- the n bits of two numbers in range are the same where the numbers are
pub u_bits-injective : (n v w : ℕ) → v < 2 ^ n → w < 2 ^ n → u_bits n v ≡ u_bits n w → v ≡ w
u_bits-injective n v w h k e =
    let f : take_bits n 0 (u_bits n v ++ []) ≡ Ok (w, []) = ap (λ b. take_bits n 0 (b ++ [])) e ∙ take_bits-u_bits n w [] k in
    ap (λ r. r.0) (same_ok (take_bits-u_bits n v [] h) f)

-- the bits above the next n are added as they stand
pub take_bits-high : (n high : ℕ) (b : List Bool) → take_bits n high b ≡ kept (λ v. high * 2 ^ n + v) (take_bits n 0 b)
take_bits-high n high b =
    elim (split_bits n b) [
      | inl h ↦ rw (take_bits-short n high b h, take_bits-short n 0 b h) refl
      | inr (w, left, same, h) ↦
          let e : high * 2 ^ n + w % 2 ^ n ≡ high * 2 ^ n + w = omega (arith, mod-eq_of_lt h) in
          rw (same, take_bits-after n w high left, take_bits-u_bits n w left h, e) refl
    ]

-- m bits and then n bits read as the m + n bits of one number
take_bits-after_bits : (m n high : ℕ) (b : List Bool) → take_bits (m + n) high b ≡ take_bits m high b >>= (λ x. take_bits n x.0 x.1)
unfolding take_bits
take_bits-after_bits zero n high b = let e : 0 + n ≡ n = omega arith in rw e refl
take_bits-after_bits (suc m) n high [] = let e : suc m + n ≡ suc (m + n) = omega arith in rw e refl
take_bits-after_bits (suc m) n high (x ∷ b) =
    let e : suc m + n ≡ suc (m + n) = omega arith in
    rw e (take_bits-after_bits m n (2 * high + bit x) b)

then_high : (n : ℕ) (r : Result (ℕ × List Bool) Fault) → r >>= (λ x. take_bits n x.0 x.1) ≡ r >>= (λ x. kept (λ v. x.0 * 2 ^ n + v) (take_bits n 0 x.1))
then_high n (Ok x) = take_bits-high n x.0 x.1
then_high n (Err fault) = refl

pub take_bits-add : (m n : ℕ) (b : List Bool) → take_bits (m + n) 0 b ≡ take_bits m 0 b >>= (λ x. kept (λ v. x.0 * 2 ^ n + v) (take_bits n 0 x.1))
take_bits-add m n b = take_bits-after_bits m n 0 b ∙ then_high n (take_bits m 0 b)

-- ---- ue(v)

-- one k alone has 2 ^ k ≤ n < 2 ^ (k + 1)
exponent_le : (j k n : ℕ) → 2 ^ j ≤ n → n < 2 ^ suc k → j ≤ k
exponent_le j k n low high =
    elim (cases_lt k j) [ inl h ↦ absurd (omega (arith, pow_mono h)) | inr h ↦ h ]

halvings-range : (most n : ℕ) → 0 < n → n < 2 ^ suc most → (2 ^ halvings most n ≤ n) × (n < 2 ^ suc (halvings most n)) × (halvings most n ≤ most)
unfolding halvings
halvings-range zero n low high = (low, high, omega arith)
halvings-range (suc most) n low high =
    elim (cases_lt n 2) [
      | inl h ↦ rw (lt-ltb n 2 h) (low, h, omega arith)
      | inr h ↦
          let below : n / 2 < 2 ^ suc most = omega (arith, pow-suc 2 (suc most)) in
          let e = halvings-range most (n / 2) (omega arith) below in
          rw (le-ltb n 2 h) (
            omega (arith, e.0, pow-suc 2 (halvings most (n / 2))),
            omega (arith, e.1, pow-suc 2 (suc (halvings most (n / 2)))),
            omega (arith, e.2),
          )
    ]

-- the number of leading zeros, by what it is
pub ue_zeros-is : (k v : ℕ) → k ≤ 31 → 2 ^ k ≤ v + 1 → v + 1 < 2 ^ suc k → ue_zeros v ≡ k
unfolding ue_zeros
ue_zeros-is k v most low high =
    let within : v + 1 < 2 ^ 32 = omega (arith, pow_mono (suc-le-suc most)) in
    let e = halvings-range 31 (v + 1) (omega arith) within in
    le_antisymm (exponent_le _ _ (v + 1) e.0 high) (exponent_le _ _ (v + 1) low e.1)

pub ue_zeros-range : (v : ℕ) → v < 2 ^ 32 - 1 → (2 ^ ue_zeros v ≤ v + 1) × (v + 1 < 2 ^ suc (ue_zeros v)) × (ue_zeros v ≤ 31)
unfolding ue_zeros
ue_zeros-range v h = halvings-range 31 (v + 1) (omega arith) (omega arith)

-- the code of 2 ^ k - 1 and the number of the k bits after the one
pub ue_bits-is : (k low : ℕ) → k ≤ 31 → low < 2 ^ k → ue_bits (2 ^ k - 1 + low) ≡ replicate k false ++ true ∷ u_bits k low
unfolding ue_bits
ue_bits-is k low most h =
    let z : ue_zeros (2 ^ k - 1 + low) ≡ k
    = ue_zeros-is k (2 ^ k - 1 + low) most (omega (arith, pow_pos k)) (omega (arith, pow_pos k, pow-suc 2 k))
    in
    let e : 2 ^ k - 1 + low + 1 - 2 ^ k ≡ low = omega (arith, pow_pos k) in
    rw (z, e) refl

take_ue_from-code : (k most leading : ℕ) (rest : List Bool) → k ≤ most → take_ue_from most leading (replicate k false ++ true ∷ rest) ≡ kept (λ low. 2 ^ (leading + k) - 1 + low) (take_bits (leading + k) 0 rest)
unfolding take_ue_from
take_ue_from-code zero most leading rest h = let e : leading + 0 ≡ leading = omega arith in rw e refl
take_ue_from-code (suc k) zero leading rest h = absurd (omega arith)
take_ue_from-code (suc k) (suc most) leading rest h =
    let e : leading + suc k ≡ suc leading + k = omega arith in
    rw e (take_ue_from-code k most (suc leading) rest (omega arith))

take_ue_from-many : (most leading : ℕ) (rest : List Bool) → take_ue_from most leading (replicate (suc most) false ++ rest) ≡ Err short
unfolding take_ue_from
take_ue_from-many zero leading rest = refl
take_ue_from-many (suc most) leading rest = take_ue_from-many most (suc leading) rest

take_ue_from-zeros : (k most leading : ℕ) → take_ue_from most leading (replicate k false) ≡ Err short
unfolding take_ue_from
take_ue_from-zeros zero most leading = refl
take_ue_from-zeros (suc k) zero leading = refl
take_ue_from-zeros (suc k) (suc most) leading = take_ue_from-zeros k most (suc leading)

take_ue_from-cut : (k most leading : ℕ) (rest : List Bool) → length rest < leading + k → take_ue_from most leading (replicate k false ++ true ∷ rest) ≡ Err short
unfolding take_ue_from
take_ue_from-cut zero most leading rest h = rw (take_bits-short leading 0 rest (omega arith)) refl
take_ue_from-cut (suc k) zero leading rest h = refl
take_ue_from-cut (suc k) (suc most) leading rest h = take_ue_from-cut k most (suc leading) rest (omega arith)

-- what was printed reads back before any rest
pub take_ue-ue_bits : (v : ℕ) (rest : List Bool) → v < 2 ^ 32 - 1 → take_ue (ue_bits v ++ rest) ≡ Ok (v, rest)
unfolding take_ue ue_bits
take_ue-ue_bits v rest h =
    let k = ue_zeros v in
    let r = ue_zeros-range v h in
    let low : v + 1 - 2 ^ k < 2 ^ k = omega (arith, r.0, r.1, pow-suc 2 k) in
    let value : 2 ^ k - 1 + (v + 1 - 2 ^ k) ≡ v = omega (arith, r.0, pow_pos k) in
    let none : 0 + k ≡ k = omega arith in
    ap (take_ue_from 31 0) (append_assoc (replicate k false) _ _)
    ∙ take_ue_from-code k 31 0 (u_bits k (v + 1 - 2 ^ k) ++ rest) r.2
    ∙ ap (λ n. kept (λ low. 2 ^ n - 1 + low) (take_bits n 0 (u_bits k (v + 1 - 2 ^ k) ++ rest))) none
    ∙ ap (kept (λ low. 2 ^ k - 1 + low)) (take_bits-u_bits k (v + 1 - 2 ^ k) rest low)
    ∙ ap (λ x. Ok (x, rest)) value

pub take_ue-short : (b : List Bool) → HasNoUe b → take_ue b ≡ Err short
unfolding take_ue
take_ue-short b h =
    elim h [
      | inl (rest, e) ↦ ap (take_ue_from 31 0) e ∙ take_ue_from-many 31 0 rest
      | inr (inl (k, e)) ↦ ap (take_ue_from 31 0) e ∙ take_ue_from-zeros k 31 0
      | inr (inr (k, rest, e, few)) ↦ ap (take_ue_from 31 0) e ∙ take_ue_from-cut k 31 0 rest (omega arith)
    ]

-- zeros past `most`, zeros alone, or at most `most` zeros and a one
zeros_first : (most : ℕ) (b : List Bool) → ((rest : List Bool) × (b ≡ replicate (suc most) false ++ rest)) ⊎ ((k : ℕ) × (b ≡ replicate k false)) ⊎ ((k : ℕ) × (rest : List Bool) × (b ≡ replicate k false ++ true ∷ rest) × (k ≤ most))
zeros_first most [] = inr (inl (0, refl))
zeros_first most (true ∷ b) = inr (inr (0, b, refl, omega arith))
zeros_first zero (false ∷ b) = inl (b, refl)
zeros_first (suc most) (false ∷ b) =
    elim (zeros_first most b) [
      | inl (rest, e) ↦ inl (rest, ap (λ c. false ∷ c) e)
      | inr (inl (k, e)) ↦ inr (inl (suc k, ap (λ c. false ∷ c) e))
      | inr (inr (k, rest, e, h)) ↦ inr (inr (suc k, rest, ap (λ c. false ∷ c) e, omega arith))
    ]

-- a list of bits has no code at its front, or begins with the code of a value in range
pub split_ue : (b : List Bool) → HasNoUe b ⊎ ((v : ℕ) × (rest : List Bool) × (b ≡ ue_bits v ++ rest) × (v < 2 ^ 32 - 1))
split_ue b =
    elim (zeros_first 31 b) [
      | inl many ↦ inl (inl many)
      | inr (inl alone) ↦ inl (inr (inl alone))
      | inr (inr (k, after, e, most)) ↦
          elim (split_bits k after) [
            | inl few ↦ inl (inr (inr (k, after, e, few)))
            | inr (low, rest, same, h) ↦
                let printed : b ≡ ue_bits (2 ^ k - 1 + low) ++ rest
                = rw (ue_bits-is k low most h) (e ∙ ap (λ c. replicate k false ++ true ∷ c) same ∙ sym (append_assoc (replicate k false) _ _))
                in
                inr (2 ^ k - 1 + low, rest, printed, omega (arith, pow-suc 2 k, pow_pos k, pow_mono (suc-le-suc most)))
          ]
    ]

-- what reads was printed, and is in range
pub take_ue-printed : (b : List Bool) (v : ℕ) (rest : List Bool) → take_ue b ≡ Ok (v, rest) → (b ≡ ue_bits v ++ rest) × (v < 2 ^ 32 - 1)
take_ue-printed b v rest e =
    elim (split_ue b) [
      | inl h ↦ absurd (cc (take_ue-short b h))
      | inr (w, left, same, h) ↦
          let f : take_ue b ≡ Ok (w, left) = ap take_ue same ∙ take_ue-ue_bits w left h in
          let one : (v, rest) ≡ (w, left) = same_ok e f in
          rw (ap (λ r. r.0) one, ap (λ r. r.1) one) (same, h)
    ]

-- a reading that fails is short, and no code stands at the front
pub take_ue-failed : (b : List Bool) (fault : Fault) → take_ue b ≡ Err fault → (fault ≡ short) × HasNoUe b
take_ue-failed b fault e =
    elim (split_ue b) [
      | inl h ↦ let f = take_ue-short b h in ((cc), h)
      | inr (w, left, same, h) ↦ let f : take_ue b ≡ Ok (w, left) = ap take_ue same ∙ take_ue-ue_bits w left h in absurd (cc)
    ]

-- the code of c - 1, where 2 ^ z ≤ c < 2 ^ (z + 1), is the number c in 2 z + 1 bits
pub ue_bits-number : (z c : ℕ) → z ≤ 31 → 2 ^ z ≤ c → c < 2 ^ suc z → ue_bits (c - 1) ≡ u_bits (z + suc z) c
ue_bits-number z c most low high =
    let rest = c - 2 ^ z in
    let below : rest < 2 ^ z = omega (arith, pow-suc 2 z) in
    let value : 2 ^ z - 1 + rest ≡ c - 1 = omega (arith, pow_pos z) in
    let whole : 0 * 2 ^ suc z + c ≡ c = omega arith in
    ap ue_bits (sym value)
    ∙ ue_bits-is z rest most below
    ∙ sym (ap₂ (λ a b. a ++ b) (u_bits-zero z) (u_bits-leading z c low high))
    ∙ sym (u_bits-append z (suc z) 0 c high)
    ∙ ap (u_bits (z + suc z)) whole

-- ---- se(v)
se_value-odd : (n : ℕ) → se_value (2 * n + 1) ≡ pos (n + 1)
unfolding se_value
se_value-odd n =
    let odd : (2 * n + 1) % 2 ≡ 1 = omega arith in
    let half : (2 * n + 1 + 1) / 2 ≡ n + 1 = omega arith in
    rw (odd, half) refl

se_value-even : (n : ℕ) → se_value (2 * n) ≡ neg_ℤ (pos n)
unfolding se_value
se_value-even n =
    let even : 2 * n % 2 ≡ 0 = omega arith in
    let half : (2 * n + 1) / 2 ≡ n = omega arith in
    rw (even, half) refl

pub se_value-se_code : (x : ℤ) → se_value (se_code x) ≡ x
unfolding se_code
se_value-se_code (pos zero) = se_value-even 0
se_value-se_code (pos (suc n)) =
    let e : 2 * suc n - 1 ≡ 2 * n + 1 = omega arith in
    ap se_value e ∙ se_value-odd n ∙ ap pos (add-one n)
se_value-se_code (negsuc n) = se_value-even (suc n)

code_neg : (n : ℕ) → se_code (neg_ℤ (pos n)) ≡ 2 * n
unfolding se_code
code_neg zero = refl
code_neg (suc n) = refl

pub se_code-se_value : (k : ℕ) → se_code (se_value k) ≡ k
unfolding se_code
se_code-se_value k =
    elim (cases_lt (k % 2) 1) [
      | inr odd ↦
          let e : 2 * (k / 2) + 1 ≡ k = omega arith in
          let f : 2 * (k / 2 + 1) - 1 ≡ k = omega arith in
          ap se_code (ap se_value (sym e) ∙ se_value-odd (k / 2)) ∙ f
      | inl even ↦
          let e : 2 * (k / 2) ≡ k = omega arith in
          ap se_code (ap se_value (sym e) ∙ se_value-even (k / 2)) ∙ code_neg (k / 2) ∙ e
    ]

-- the range of se(v): above -2 ^ 31, and below 2 ^ 31
pub se_code-range : (x : ℤ) → negsuc (2 ^ 31 - 1) <ℤ x → x <ℤ pos (2 ^ 31) → se_code x < 2 ^ 32 - 1
unfolding se_code
se_code-range (pos n) low high = omega (arith, ints)
se_code-range (negsuc n) low high = omega (arith, ints)

-- a number with a code is above -2 ^ 31
pub se_code-above : (x : ℤ) → se_code x < 2 ^ 32 - 1 → negsuc (2 ^ 31 - 1) <ℤ x
unfolding se_code
se_code-above (pos n) h = omega (arith, ints)
se_code-above (negsuc n) h = omega (arith, ints)

signed_range : (sign : Bool) (n : ℕ) → n < 2 ^ 31 → (negsuc (2 ^ 31 - 1) <ℤ cond sign (pos n) (neg_ℤ (pos n))) × (cond sign (pos n) (neg_ℤ (pos n)) <ℤ pos (2 ^ 31))
signed_range true n h = (omega (arith, ints), omega (arith, ints))
signed_range false zero h = (omega (arith, ints), omega (arith, ints))
signed_range false (suc n) h = (omega (arith, ints), omega (arith, ints))

pub se_value-range : (k : ℕ) → k < 2 ^ 32 - 1 → (negsuc (2 ^ 31 - 1) <ℤ se_value k) × (se_value k <ℤ pos (2 ^ 31))
unfolding se_value
se_value-range k h = signed_range (nat_eq (k % 2) 1) ((k + 1) / 2) (omega arith)

pub take_se-se_bits : (x : ℤ) (rest : List Bool) → se_code x < 2 ^ 32 - 1 → take_se (se_bits x ++ rest) ≡ Ok (x, rest)
unfolding take_se se_bits
take_se-se_bits x rest h =
    ap (kept se_value) (take_ue-ue_bits (se_code x) rest h) ∙ ap (λ y. Ok (y, rest)) (se_value-se_code x)

pub take_se-short : (b : List Bool) → HasNoUe b → take_se b ≡ Err short
unfolding take_se
take_se-short b h = ap (kept se_value) (take_ue-short b h)

-- a list of bits has no code at its front, or begins with the code of a value in range
pub split_se : (b : List Bool) → HasNoUe b ⊎ ((x : ℤ) × (rest : List Bool) × (b ≡ se_bits x ++ rest) × (se_code x < 2 ^ 32 - 1))
unfolding se_bits
split_se b =
    elim (split_ue b) [
      | inl h ↦ inl h
      | inr (v, rest, same, h) ↦
          let code : v ≡ se_code (se_value v) = sym (se_code-se_value v) in
          inr (se_value v, rest, same ∙ ap (λ w. ue_bits w ++ rest) code, rw (← code) h)
    ]

pub take_se-printed : (b : List Bool) (x : ℤ) (rest : List Bool) → take_se b ≡ Ok (x, rest) → (b ≡ se_bits x ++ rest) × (se_code x < 2 ^ 32 - 1)
take_se-printed b x rest e =
    elim (split_se b) [
      | inl h ↦ absurd (cc (take_se-short b h))
      | inr (y, left, same, h) ↦
          let f : take_se b ≡ Ok (y, left) = ap take_se same ∙ take_se-se_bits y left h in
          let one : (x, rest) ≡ (y, left) = same_ok e f in
          rw (ap (λ r. r.0) one, ap (λ r. r.1) one) (same, h)
    ]

pub take_se-failed : (b : List Bool) (fault : Fault) → take_se b ≡ Err fault → (fault ≡ short) × HasNoUe b
take_se-failed b fault e =
    elim (split_se b) [
      | inl h ↦ let f = take_se-short b h in ((cc), h)
      | inr (y, left, same, h) ↦ let f : take_se b ≡ Ok (y, left) = ap take_se same ∙ take_se-se_bits y left h in absurd (cc)
    ]

-- ---- bytes
pub length-byte_bits : (bytes : List ℕ) → length (byte_bits bytes) ≡ 8 * length bytes
unfolding byte_bits
length-byte_bits [] = refl
length-byte_bits (byte ∷ bytes) =
    omega (arith, length-append (u_bits 8 byte) (byte_bits bytes), length-u_bits 8 byte, length-byte_bits bytes)

-- after alignment the place is at the end of its byte
pub length-align_bits : (x : Bool) (place : ℕ) → (place + length (align_bits x place)) % 8 ≡ 0
unfolding align_bits
length-align_bits x place = omega (arith, length-replicate ((8 - place % 8) % 8) x)

-- after trailing bits the place is at the end of its byte
pub length-trailing_bits : (place : ℕ) → (place + length (trailing_bits place)) % 8 ≡ 0
unfolding trailing_bits align_bits
length-trailing_bits place = omega (arith, length-replicate ((8 - (place + 1) % 8) % 8) false)

-- ---- set bits
pub has_one-append : (a b : List Bool) → has_one (a ++ b) ≡ has_one a || has_one b
unfolding has_one
has_one-append [] b = refl
has_one-append (true ∷ a) b = refl
has_one-append (false ∷ a) b = has_one-append a b

top_or_low : (d low p : ℕ) (b : Bool) → d < 2 → 0 < p → b ≡ not (nat_eq low 0) → nat_eq d 1 || b ≡ not (nat_eq (d * p + low) 0)
top_or_low zero low p b h some e = let same : 0 * p + low ≡ low = omega arith in e ∙ ap (λ n. not (nat_eq n 0)) (sym same)
top_or_low (suc zero) low p b h positive e =
    let some : 1 * p + low ≢ 0 = omega arith in sym (ap not (ne_eqb (1 * p + low) 0 some))
top_or_low (suc (suc d)) low p b h some e = absurd (omega arith)

-- a number of n bits has a set bit, unless it is 0
pub has_one-u_bits : (n v : ℕ) → has_one (u_bits n v) ≡ not (nat_eq (v % 2 ^ n) 0)
unfolding has_one u_bits
has_one-u_bits zero v = let e : v % 2 ^ 0 ≡ 0 = omega arith in rw e refl
has_one-u_bits (suc n) v =
    top_or_low (bit_at v n) (v % 2 ^ n) (2 ^ n) (has_one (u_bits n v)) (mod-lt (v / 2 ^ n) (lit< tt)) (pow_pos n) (has_one-u_bits n v)
    ∙ ap (λ w. not (nat_eq w 0)) (sym (mod-suc_bits n v))
