-- What is known of a reader's calls.
use Rattle.std.proofs.Common.{◌≡◌, ℕ, ◌+◌, ◌-◌, ◌/◌, ◌%◌, ◌^◌, ◌<◌, ◌*◌, Bool, ℤ, pos, negsuc, nat_abs, neg_ℤ, ◌-ℤ◌, ◌<ℤ◌, ◌≤ℤ◌, to_z, of_z, w32, List, Result, Ok, Err, refl, IsErr, IfOk, ap, arith, ◌++◌, ◌↔◌}
use Rattle.std.specs.Int.{div_ceil}
use Rattle.std.proofs.lemmas.Int.{ints}
use Rattle.mv_syntax.specs.Bits.{Fault, short, take_ue, take_se, kept, se_value, se_code}
use Rattle.mv_bits.specs.Cursor.{Cursor, TakesPrinted, Takes}

-- a short reading, where nothing moved
pub Takes-refused : {A E : Type 0} (now : Cursor) (r : Result A E) (reading : Result (A × List Bool) Fault) → IsErr r → reading ≡ Err short → Takes now now r reading
Takes-refused now (Ok value) reading h e = absurd (cc)
Takes-refused now (Err fault) reading h e = (e, refl)

-- what is printed for a value that was taken
pub Takes-printed : {A E : Type 0} (printed : A → List Bool) (old new : Cursor) (r : Result A E) (reading : Result (A × List Bool) Fault)
    → ((v : A) (rest : List Bool) → reading ≡ Ok (v, rest) → old.left ≡ printed v ++ rest)
    → Takes old new r reading → TakesPrinted printed old new r
Takes-printed printed old new (Ok value) reading stood h = (stood value new.left h.0, h.1)
Takes-printed printed old new (Err fault) reading stood h = h.1

-- a value that was taken has what every value that reads has
pub Takes-in_range : {A E : Type 0} (P : A → Type 0) (old new : Cursor) (r : Result A E) (reading : Result (A × List Bool) Fault)
    → ((v : A) (rest : List Bool) → reading ≡ Ok (v, rest) → P v)
    → Takes old new r reading → IfOk r P
Takes-in_range P old new (Ok value) reading each h = each value new.left h.0
Takes-in_range P old new (Err fault) reading each h = _

-- an error comes exactly where the reading is short
pub Takes-missing : {A E : Type 0} (P : Type 0) (old new : Cursor) (r : Result A E) (reading : Result (A × List Bool) Fault)
    → (reading ≡ Err short → P) → (P → reading ≡ Err short)
    → Takes old new r reading → IsErr r ↔ P
Takes-missing P old new (Ok value) reading from to h = (λ e. absurd (cc), λ p. absurd (cc (h.0, to p)))
Takes-missing P old new (Err fault) reading from to h = (λ e. from h.0, λ p. refl)

-- a reading of ue(v), as one of se(v)
pub Takes_se-from_ue : (left rest : List Bool) (code : ℕ) → take_ue left ≡ Ok (code, rest) → take_se left ≡ Ok (se_value code, rest)
unfolding take_se
Takes_se-from_ue left rest code e = ap (kept se_value) e

pub Takes_se-short : (left : List Bool) → take_ue left ≡ Err short → take_se left ≡ Err short
unfolding take_se
Takes_se-short left e = ap (kept se_value) e

-- the program's size, with its sign
pub signed_odd : (code size : ℕ) → size ≡ div_ceil code 2 → code % 2 ≡ 1 → code < 2 ^ 32 - 1 → to_z w32 size ≡ se_value code
unfolding se_value
signed_odd code size e odd range =
    let half : (code + 1) / 2 ≡ size = omega arith in
    let same : to_z w32 size ≡ pos size = omega (arith, ints) in
    rw (odd, half) same

pub signed_even : (code size : ℕ) → size ≡ div_ceil code 2 → (code % 2 ≡ 1 → ⊥) → code < 2 ^ 32 - 1 → to_z w32 (of_z w32 (pos 0 -ℤ to_z w32 size)) ≡ se_value code
unfolding se_value
signed_even code size e odd range =
    let even : code % 2 ≡ 0 = omega arith in
    let half : (code + 1) / 2 ≡ size = omega arith in
    let same : to_z w32 (of_z w32 (pos 0 -ℤ to_z w32 size)) ≡ neg_ℤ (pos size) = omega (arith, ints) in
    rw (even, half) same

-- the program's size, as the ue(v) value
pub unsigned_positive : (x : ℤ) (size : ℕ) → size ≡ nat_abs x → pos 0 <ℤ x → 2 * size - 1 ≡ se_code x
unfolding se_code
unsigned_positive (pos n) size e h = ap (λ m. 2 * m - 1) e
unsigned_positive (negsuc n) size e h = absurd (omega (arith, ints))

pub unsigned_other : (x : ℤ) (size : ℕ) → size ≡ nat_abs x → x ≤ℤ pos 0 → 2 * size ≡ se_code x
unfolding se_code
unsigned_other (pos n) size e h = omega (arith, ints)
unsigned_other (negsuc n) size e h = ap (λ m. 2 * m) e
