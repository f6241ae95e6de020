-- The bit codes of H.265 (7.2, 7.3.2.11, 9.2): each as the bits that it prints, and as what it takes from the
-- front of a list of bits. A list of bits has the most significant bit, which is the first read, at its head.
use Rattle.std.specs.Prelude.{◌≡◌, ℕ, zero, suc, ◌+◌, ◌-◌, ◌*◌, ◌/◌, ◌%◌, ◌^◌, ◌<◌, ◌⊎◌, Bool, true, false, cond, ◌||◌, nat_eq, nat_lt, List, [], ◌∷◌, ◌++◌, length, replicate, ℤ, pos, negsuc, neg_ℤ, Result, Ok, Err}

-- why bits cannot be read: they end in a field or hold no code, or they break the rule of this number
pub data Fault : Type 0 where
  short : Fault
  breaks : ℕ → Fault

infixl 10 ◌>>=◌
-- one reading, and then another of what it gave
abbrev pub ◌>>=◌ : {A B : Type 0} → Result A Fault → (A → Result B Fault) → Result B Fault
Ok x >>= f = f x
Err fault >>= f = Err fault

-- a reading with its value mapped; the bits that are left stay
abbrev pub kept : {A B : Type 0} → (A → B) → Result (A × List Bool) Fault → Result (B × List Bool) Fault
kept f (Ok x) = Ok (f x.0, x.1)
kept f (Err fault) = Err fault

-- a bit as a number
abbrev pub bit : Bool → ℕ
bit true = 1
bit false = 0

-- u(n) (7.2, read_bits): the n low bits of v, the most significant first
unfoldable pub u_bits : ℕ → ℕ → List Bool
u_bits zero v = []
u_bits (suc n) v = nat_eq (v / 2 ^ n % 2) 1 ∷ u_bits n v

-- the number whose bits are `high`'s and then the next n bits, and the bits behind them
unfoldable pub take_bits : ℕ → ℕ → List Bool → Result (ℕ × List Bool) Fault
take_bits zero high b = Ok (high, b)
take_bits (suc n) high [] = Err short
take_bits (suc n) high (x ∷ b) = take_bits n (2 * high + bit x) b

-- how often n can be halved before less than 2 is left: the largest k with 2 ^ k ≤ n, if it is at most `most`
unfoldable pub halvings : ℕ → ℕ → ℕ
halvings zero n = 0
halvings (suc most) n = cond (nat_lt n 2) 0 (suc (halvings most (n / 2)))

-- the number of leading zeros of the code of v (9.2): the k with 2 ^ k - 1 ≤ v < 2 ^ (k + 1) - 1, at most 31
unfoldable pub ue_zeros : ℕ → ℕ
ue_zeros v = halvings 31 (v + 1)

-- ue(v) (9.2): k zeros, a one, and the k bits of v less 2 ^ k - 1; for v from 0 to 2 ^ 32 - 2
unfoldable pub ue_bits : ℕ → List Bool
ue_bits v = replicate (ue_zeros v) false ++ true ∷ u_bits (ue_zeros v) (v + 1 - 2 ^ ue_zeros v)

-- the value of a code after its first `leading` zeros, where at most `most` more may come (9.2)
unfoldable pub take_ue_from : ℕ → ℕ → List Bool → Result (ℕ × List Bool) Fault
take_ue_from most leading [] = Err short
take_ue_from most leading (true ∷ b) = kept (λ low. 2 ^ leading - 1 + low) (take_bits leading 0 b)
take_ue_from zero leading (false ∷ b) = Err short
take_ue_from (suc most) leading (false ∷ b) = take_ue_from most (suc leading) b

-- the value of the ue(v) code at the front, of at most 31 zeros, and the bits behind it (9.2)
unfoldable pub take_ue : List Bool → Result (ℕ × List Bool) Fault
take_ue b = take_ue_from 31 0 b

-- no ue(v) code stands at the front: over 31 zeros do, or the bits end among the zeros or in the bits after the one
abbrev pub HasNoUe : List Bool → Type 0
HasNoUe b =
    ((rest : List Bool) × (b ≡ replicate 32 false ++ rest))
    ⊎ ((k : ℕ) × (b ≡ replicate k false))
    ⊎ ((k : ℕ) × (rest : List Bool) × (b ≡ replicate k false ++ true ∷ rest) × (length rest < k))

-- se(v) (9.2.2): the ue(v) value k stands for (-1) ^ (k + 1) * Ceil(k / 2)
unfoldable pub se_value : ℕ → ℤ
se_value k = cond (nat_eq (k % 2) 1) (pos ((k + 1) / 2)) (neg_ℤ (pos ((k + 1) / 2)))

-- the ue(v) value that stands for a number: 2 x - 1 for x above 0, and else twice the number without its sign
unfoldable pub se_code : ℤ → ℕ
se_code (pos n) = 2 * n - 1
se_code (negsuc n) = 2 * suc n

unfoldable pub se_bits : ℤ → List Bool
se_bits x = ue_bits (se_code x)

unfoldable pub take_se : List Bool → Result (ℤ × List Bool) Fault
take_se b = kept se_value (take_ue b)

-- how many bits stand between `place`, a number of bits, and the end of its byte: none where it is aligned (6.2)
abbrev pub to_byte_end : ℕ → ℕ
to_byte_end place = (8 - place % 8) % 8

-- bits equal to x from `place` up to the end of its byte, none where it is aligned
unfoldable pub align_bits : Bool → ℕ → List Bool
align_bits x place = replicate (to_byte_end place) x

-- rbsp_trailing_bits() at `place` (7.3.2.11): a one, and zeros up to the end of the byte
unfoldable pub trailing_bits : ℕ → List Bool
trailing_bits place = true ∷ align_bits false (place + 1)

-- whether one of the bits is set
unfoldable pub has_one : List Bool → Bool
has_one [] = false
has_one (x ∷ b) = x || has_one b

-- more_rbsp_data() (7.2): whether the last set bit stands behind the next bit, so that something comes before the
-- trailing bits
unfoldable pub more_data : List Bool → Bool
more_data [] = false
more_data (x ∷ b) = has_one b

-- the bits of a byte string, eight a byte
unfoldable pub byte_bits : List ℕ → List Bool
byte_bits [] = []
byte_bits (byte ∷ bytes) = u_bits 8 byte ++ byte_bits bytes
