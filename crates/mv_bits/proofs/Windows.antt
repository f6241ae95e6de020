-- What a reader's steps do to the bits that are left.
use Rattle.std.proofs.Common.{◌≡◌, ℕ, ◌+◌, ◌-◌, ◌*◌, ◌/◌, ◌%◌, ◌^◌, ◌<◌, ◌≤◌, Bool, Result, List, ◌∷◌, ◌++◌, length, Ok, Err, bit_and, bit_or, sym, ap, ap₂, ◌∙◌, arith, append_assoc, length-append, zero, suc, [], refl, IsTrue, ◌↔◌, nat_eq, eqb-true, eq-eqb}
use Rattle.std.proofs.lemmas.Nat.{shr_split, shr_below, mod_below, pow_pos, pow-add, shl_whole, or_shifted, one_shl, and_mask}
use Rattle.std.specs.Borrow.{Bor}
use Rattle.mv_syntax.specs.Bits.{Fault, short, ◌>>=◌, kept, u_bits, take_bits, byte_bits}
use Rattle.mv_syntax.proofs.BitLaws.{u_bits-append, take_bits-u_bits, take_bits-short, take_bits-add, take_bits-printed, length-u_bits, length-byte_bits}
use Rattle.mv_bits.specs.Cursor.{Cursor, place}
use Rattle.mv_bits.specs.inner.Window.{window_bits, IsWindow, SetKnown}

pub same_cursor : {c d : Cursor} → c.total ≡ d.total → c.left ≡ d.left → c ≡ d
same_cursor e f = let made : ℕ → List Bool → Cursor = λ t b. record { total = t; left = b } in ap₂ made e f

-- the program's word with a byte more
pub pulled_word : (count word byte : ℕ) → count < 57 → word < 2 ^ count → byte < 2 ^ 8 → bit_or (word * 2 ^ 8 % 2 ^ 64) byte ≡ word * 2 ^ 8 + byte
pulled_word count word byte narrow h k =
    ap (λ w. bit_or w byte) (shl_whole word count 8 64 h (omega arith)) ∙ or_shifted word 8 byte k

pub pulled_word-lt : (count word byte : ℕ) → word < 2 ^ count → byte < 2 ^ 8 → word * 2 ^ 8 + byte < 2 ^ (count + 8)
pulled_word-lt count word byte h k = omega (arith, pow-add 2 count 8)

-- the low bits of the program's word
pub low_word : (count word : ℕ) → count < 64 → bit_and word (1 * 2 ^ count % 2 ^ 64 - 1) ≡ word % 2 ^ count
low_word count word h = ap (λ m. bit_and word (m - 1)) (one_shl count 64 h) ∙ and_mask word count

-- a byte more in hand
pub window_bits-pulled : (count word byte : ℕ) (bytes : List ℕ) → byte < 2 ^ 8 → window_bits count word (byte ∷ bytes) ≡ window_bits (count + 8) (word * 2 ^ 8 + byte) bytes
unfolding window_bits byte_bits
window_bits-pulled count word byte bytes h =
    sym (append_assoc (u_bits count word) (u_bits 8 byte) (byte_bits bytes))
    ∙ ap (λ b. b ++ byte_bits bytes) (sym (u_bits-append count 8 word byte h))

-- n bits taken of those in hand
pub window_bits-taken : (n count word : ℕ) (bytes : List ℕ) → word < 2 ^ (n + count) → take_bits n 0 (window_bits (n + count) word bytes) ≡ Ok (word / 2 ^ count, window_bits count (word % 2 ^ count) bytes)
unfolding window_bits
window_bits-taken n count word bytes h =
    let low : word % 2 ^ count < 2 ^ count = mod_below word (2 ^ count) (pow_pos count) in
    let parts : u_bits (n + count) word ≡ u_bits n (word / 2 ^ count) ++ u_bits count (word % 2 ^ count)
    = ap (u_bits (n + count)) (sym (shr_split word count)) ∙ u_bits-append n count (word / 2 ^ count) (word % 2 ^ count) low
    in
    ap (take_bits n 0) (ap (λ b. b ++ byte_bits bytes) parts ∙ append_assoc (u_bits n (word / 2 ^ count)) (u_bits count (word % 2 ^ count)) (byte_bits bytes))
    ∙ take_bits-u_bits n (word / 2 ^ count) (u_bits count (word % 2 ^ count) ++ byte_bits bytes) (shr_below word n count h)

pub length-window_bits : (count word : ℕ) (bytes : List ℕ) → length (window_bits count word bytes) ≡ count + 8 * length bytes
unfolding window_bits
length-window_bits count word bytes =
    omega (arith, length-append (u_bits count word) (byte_bits bytes), length-u_bits count word, length-byte_bits bytes)

-- a reading of n bits, of which at least n are in hand
pub takes_in_hand : (n count word : ℕ) (bytes : List ℕ) (left : List Bool) → n ≤ count → count < 64 → word < 2 ^ count → window_bits count word bytes ≡ left → take_bits n 0 left ≡ Ok (word / 2 ^ (count - n), window_bits (count - n) (bit_and word (1 * 2 ^ (count - n) % 2 ^ 64 - 1)) bytes)
takes_in_hand n count word bytes left within narrow h same =
    let k = count - n in
    let parts : n + k ≡ count = omega arith in
    let below : word < 2 ^ (n + k) = rw parts h in
    let less : k < 64 = omega arith in
    ap (take_bits n 0) (sym same ∙ ap (λ i. window_bits i word bytes) (sym parts))
    ∙ window_bits-taken n k word bytes below
    ∙ ap (λ w. Ok (word / 2 ^ k, window_bits k w bytes)) (sym (low_word k word less))

-- fewer than n bits are in hand, and no byte is behind them
pub takes_past_end : (n count word : ℕ) (bytes : List ℕ) (left : List Bool) → count < n → length bytes ≡ 0 → window_bits count word bytes ≡ left → take_bits n 0 left ≡ Err short
takes_past_end n count word bytes left few none same =
    take_bits-short n 0 left (omega (arith, length-window_bits count word bytes, ap length same))

-- a byte more in hand, as the program's word
pub pulled_left : (count word first : ℕ) (bytes rest : List ℕ) (left : List Bool) → count < 57 → word < 2 ^ count → first < 2 ^ 8 → bytes ≡ first ∷ rest → window_bits count word bytes ≡ left → window_bits (count + 8) (bit_or (word * 2 ^ 8 % 2 ^ 64) first) rest ≡ left
pulled_left count word first bytes rest left narrow h byte split same =
    ap (λ w. window_bits (count + 8) w rest) (pulled_word count word first narrow h byte)
    ∙ sym (window_bits-pulled count word first rest byte)
    ∙ ap (window_bits count word) (sym split)
    ∙ same

pub pulled_in_hand : (count word first : ℕ) → count < 57 → word < 2 ^ count → first < 2 ^ 8 → bit_or (word * 2 ^ 8 % 2 ^ 64) first < 2 ^ (count + 8)
pulled_in_hand count word first narrow h byte =
    rw (pulled_word count word first narrow h byte) (pulled_word-lt count word first h byte)

-- n bits read in two parts, the second of 32 bits
in_two : (n : ℕ) (left : List Bool) → 32 ≤ n → take_bits n 0 left ≡ take_bits (n - 32) 0 left >>= (λ x. kept (λ v. x.0 * 2 ^ 32 + v) (take_bits 32 0 x.1))
in_two n left h =
    let parts : n - 32 + 32 ≡ n = omega arith in ap (λ m. take_bits m 0 left) (sym parts) ∙ take_bits-add (n - 32) 32 left

pub two_no_high : (n : ℕ) (left : List Bool) → 32 ≤ n → take_bits (n - 32) 0 left ≡ Err short → take_bits n 0 left ≡ Err short
two_no_high n left h e =
    let go : Result (ℕ × List Bool) Fault → Result (ℕ × List Bool) Fault = λ r. r >>= (λ x. kept (λ v. x.0 * 2 ^ 32 + v) (take_bits 32 0 x.1)) in
    in_two n left h ∙ ap go e

pub two_no_low : (n high : ℕ) (left middle : List Bool) → 32 ≤ n → take_bits (n - 32) 0 left ≡ Ok (high, middle) → take_bits 32 0 middle ≡ Err short → take_bits n 0 left ≡ Err short
two_no_low n high left middle h e f =
    let go : Result (ℕ × List Bool) Fault → Result (ℕ × List Bool) Fault = λ r. r >>= (λ x. kept (λ v. x.0 * 2 ^ 32 + v) (take_bits 32 0 x.1)) in
    in_two n left h ∙ ap go e ∙ ap (kept (λ v. high * 2 ^ 32 + v)) f

pub two_joined : (n high low : ℕ) (left middle rest : List Bool) → 32 ≤ n → n ≤ 64 → take_bits (n - 32) 0 left ≡ Ok (high, middle) → take_bits 32 0 middle ≡ Ok (low, rest) → take_bits n 0 left ≡ Ok (bit_or (high * 2 ^ 32 % 2 ^ 64) low, rest)
two_joined n high low left middle rest h k e f =
    let go : Result (ℕ × List Bool) Fault → Result (ℕ × List Bool) Fault = λ r. r >>= (λ x. kept (λ v. x.0 * 2 ^ 32 + v) (take_bits 32 0 x.1)) in
    let top : high < 2 ^ (n - 32) = (take_bits-printed (n - 32) left high middle e).1 in
    let bottom : low < 2 ^ 32 = (take_bits-printed 32 middle low rest f).1 in
    let value : bit_or (high * 2 ^ 32 % 2 ^ 64) low ≡ high * 2 ^ 32 + low
    = ap (λ w. bit_or w low) (shl_whole high (n - 32) 32 64 top (omega arith)) ∙ or_shifted high 32 low bottom
    in
    in_two n left h ∙ ap go e ∙ ap (kept (λ v. high * 2 ^ 32 + v)) f ∙ ap (λ v. Ok (v, rest)) (sym value)

-- the fields of a reader that stands at a cursor, as its loops keep them
pub record Holds (count word : ℕ) (bytes : List ℕ) (whole : ℕ) (cursor : Cursor) : Type 0 where
  pub narrow : count < 64
  pub in_hand : word < 2 ^ count
  pub within : count + 8 * length bytes ≤ 8 * whole
  pub left : window_bits count word bytes ≡ cursor.left
  pub total : 8 * whole ≡ cursor.total

pub Holds-pulled : (count word first whole : ℕ) (bytes rest : List ℕ) (cursor : Cursor) → Holds count word bytes whole cursor → count < 56 → first < 2 ^ 8 → bytes ≡ first ∷ rest → Holds (count + 8) (bit_or (word * 2 ^ 8 % 2 ^ 64) first) rest whole cursor
Holds-pulled count word first whole bytes rest cursor h room byte split =
    let narrow : count < 57 = omega arith in
    record {
      narrow = omega arith;
      in_hand = pulled_in_hand count word first narrow h.in_hand byte;
      within = omega (arith, h.within, ap length split);
      left = pulled_left count word first bytes rest cursor.left narrow h.in_hand byte split h.left;
      total = h.total;
    }

pub Holds-from : {set : ℕ} (count word : ℕ) (bytes : List ℕ) (whole : ℕ) (cursor : Cursor) → (let seen : Cursor = record { total = 8 * whole; left = window_bits count word bytes } in seen ≡ cursor) → (count < 64) × (word < 2 ^ count) × (count + 8 * length bytes ≤ 8 * whole) × SetKnown set whole bytes → Holds count word bytes whole cursor
Holds-from count word bytes whole cursor e h = record {
  narrow = h.0;
  in_hand = h.1;
  within = h.2;
  left = ap (λ (r : Cursor). r.left) e;
  total = ap (λ (r : Cursor). r.total) e;
}

-- the bits taken, by the fields
pub Holds-place : {count word : ℕ} {bytes : List ℕ} {whole : ℕ} {cursor : Cursor} → Holds count word bytes whole cursor → place cursor + (count + 8 * length bytes) ≡ 8 * whole
Holds-place {count = count} {word = word} {bytes = bytes} h =
    omega (arith, h.within, h.total, ap length h.left, length-window_bits count word bytes)

pub Holds-aligned : {count word : ℕ} {bytes : List ℕ} {whole : ℕ} {cursor : Cursor} → Holds count word bytes whole cursor → IsTrue (nat_eq (count % 8) 0) ↔ (place cursor % 8 ≡ 0)
Holds-aligned {count = count} {cursor = cursor} h =
    let e = Holds-place h in
    (λ t. let k : count % 8 ≡ 0 = eqb-true (count % 8) 0 t in omega arith, λ t. let k : count % 8 ≡ 0 = omega arith in eq-eqb (count % 8) 0 k)

byte_bits-cons : (byte : ℕ) (bytes : List ℕ) → byte_bits (byte ∷ bytes) ≡ u_bits 8 byte ++ byte_bits bytes
unfolding byte_bits
byte_bits-cons byte bytes = refl

-- no bit is in hand
pub window_bits-none : (count word : ℕ) (bytes : List ℕ) → count ≡ 0 → length bytes ≡ 0 → window_bits count word bytes ≡ []
unfolding window_bits u_bits byte_bits
window_bits-none zero word [] e none = refl
window_bits-none zero word (byte ∷ bytes) e none = absurd (omega arith)
window_bits-none (suc count) word bytes e none = absurd (omega arith)

pub window_bits-first : (count word first : ℕ) (bytes rest : List ℕ) → count ≡ 0 → bytes ≡ first ∷ rest → window_bits count word bytes ≡ window_bits 8 first rest
unfolding window_bits u_bits
window_bits-first zero word first bytes rest e split = ap byte_bits split ∙ byte_bits-cons first rest
window_bits-first (suc count) word first bytes rest e split = absurd (omega arith)

-- the bits taken and those left are whole bytes
pub Holds-whole : {count word : ℕ} {bytes : List ℕ} {whole : ℕ} {cursor : Cursor} → Holds count word bytes whole cursor → place cursor + length cursor.left ≡ 8 * whole
Holds-whole {count = count} {word = word} {bytes = bytes} h =
    omega (arith, h.within, h.total, ap length h.left, length-window_bits count word bytes)

-- the bits in hand, or those of the first byte, as the next ones
pub window_in_hand : {count word : ℕ} (bytes : Bor (List ℕ)) {whole : ℕ} {cursor : Cursor} → Holds count word bytes.now whole cursor → 0 < count → IsWindow cursor (word, count, bytes)
window_in_hand bytes h some = record {
  left = h.left;
  some = some;
  narrow = h.narrow;
  in_hand = h.in_hand;
  whole = omega (arith, Holds-whole h);
}

pub window_first : {count word : ℕ} {bytes : List ℕ} {whole : ℕ} {cursor : Cursor} (first : ℕ) (rest : Bor (List ℕ)) → Holds count word bytes whole cursor → count ≤ 0 → bytes ≡ first ∷ rest.now → first < 2 ^ 8 → IsWindow cursor (first, 8, rest)
window_first {count = count} {word = word} {bytes = bytes} first rest h none split small =
    let empty : count ≡ 0 = omega arith in
    record {
      left = sym (window_bits-first count word first bytes rest.now empty split) ∙ h.left;
      some = omega arith;
      narrow = omega arith;
      in_hand = small;
      whole = omega (arith, Holds-whole h);
    }
