-- How the last set bit of a string of bits is found in its last byte.
use Rattle.std.proofs.Common.{◌≡◌, ℕ, zero, suc, ◌+◌, ◌-◌, ◌*◌, ◌/◌, ◌%◌, ◌^◌, ◌<◌, ◌≤◌, ◌≢◌, Bool, true, false, not, nat_eq, List, [], ◌∷◌, ◌++◌, length, drop, replicate, refl, sym, ap, ap₂, ◌∙◌, arith, append_assoc, append-nil, length-append, pow_mono, inl, inr, true≢false, bit_and, bit_or, take, get_or, lit<}
use Rattle.std.proofs.lemmas.Bool.{cases_lt}
use Rattle.std.proofs.lemmas.List.{length-replicate, drop-append-le, take_more}
use Rattle.std.proofs.lemmas.Nat.{shr_split, shr_below, mod_below, pow_pos, pow-add, shl_whole, or_shifted}
use Rattle.std.proofs.lemmas.Nat.Bits.{bit_at-trailing_zeros, shr_and_one}
use Rattle.std.proofs.Math.Seq.{drop-append_seam}
use Rattle.std.specs.Int.{bit_at, trailing_zeros, from_bool}
use Rattle.std.specs.Int.Count.{trailing_of_zero}
use Rattle.std.specs.Borrow.{Bor}
use Rattle.std.proofs.Common.{w64}
use Rattle.mv_syntax.specs.Bits.{u_bits, byte_bits, has_one, trailing_bits}
use Rattle.mv_syntax.specs.Cursor.{Cursor, place}
use Rattle.mv_syntax.proofs.BitLaws.{mod-suc_bits, u_bits-append, u_bits-one, has_one-u_bits, length-u_bits}
use Rattle.mv_syntax.proofs.PayloadLaws.{one-has_one}
use Rattle.mv_bits.specs.inner.Tail.{Before, Ends, LacksOne}
use Rattle.mv_bits.specs.inner.Window.{window_bits, IsWindow}
use Rattle.mv_bits.proofs.Endings.{trailing_bits-is, window_bits-last}
use Rattle.mv_bits.proofs.Windows.{window_bits-none}
use Rattle.mv_bits.proofs.Written.{byte_bits-push}

-- ---- the last set bit of a number
zeros_below : (z v : ℕ) → ((i : ℕ) → i < z → bit_at v i ≡ 0) → v % 2 ^ z ≡ 0
zeros_below zero v h = omega arith
zeros_below (suc z) v h =
    let low : v % 2 ^ z ≡ 0 = zeros_below z v (λ i k. h i (omega arith)) in
    mod-suc_bits z v ∙ ap₂ (λ b r. b * 2 ^ z + r) (h z (omega arith)) low ∙ omega arith

one_above : (z v : ℕ) → bit_at v z ≡ 1 → ((i : ℕ) → i < z → bit_at v i ≡ 0) → v % 2 ^ suc z ≡ 2 ^ z
one_above z v one h = mod-suc_bits z v ∙ ap₂ (λ b r. b * 2 ^ z + r) one (zeros_below z v h) ∙ omega arith

-- a bit that is set is one of the number's
bit_inside : (count z v : ℕ) → v < 2 ^ count → bit_at v z ≡ 1 → z < count
bit_inside count z v h one =
    elim (cases_lt z count) [
      | inl k ↦ k
      | inr k ↦
          let sum : 0 + z ≡ z = omega arith in
          let below : v < 2 ^ (0 + z) = rw sum (omega (arith, pow_mono k)) in
          absurd (omega (arith, shr_below v 0 z below))
    ]

last_one : (count z v : ℕ) → count ≤ 64 → z < count → z < 8 → bit_at v z ≡ 1 → ((i : ℕ) → i < z → bit_at v i ≡ 0) → Before (u_bits count v) (v / 2 ^ (z + 1), count - 1 - z)
last_one count z v most inside few one low =
    let k = count - 1 - z in
    let parts : k + suc z ≡ count = omega arith in
    let next : z + 1 ≡ suc z = omega arith in
    record {
      zeros = z;
      few = few;
      narrow = omega arith;
      bits = ap₂ u_bits (sym parts) (sym (shr_split v (suc z)))
          ∙ u_bits-append k (suc z) (v / 2 ^ suc z) (v % 2 ^ suc z) (mod_below v (2 ^ suc z) (pow_pos (suc z)))
          ∙ ap (λ w. u_bits k (v / 2 ^ suc z) ++ u_bits (suc z) w) (one_above z v one low)
          ∙ ap (λ b. u_bits k (v / 2 ^ suc z) ++ b) (u_bits-one z)
          ∙ ap (λ n. u_bits k (v / 2 ^ n) ++ true ∷ replicate z false) (sym next);
    }

pub trailing_inside : (count v : ℕ) → count ≤ 64 → v < 2 ^ count → trailing_zeros w64 v ≤ 7 → trailing_zeros w64 v < count
trailing_inside count v most h few =
    let fits : v < 2 ^ 64 = omega (arith, pow_mono most) in
    elim (cases_lt 0 v) [
      | inl some ↦ bit_inside count (trailing_zeros w64 v) v h (bit_at-trailing_zeros w64 v some fits).1
      | inr none ↦
          let same : v ≡ 0 = omega arith in
          let many : trailing_zeros w64 v ≡ 64 = ap (trailing_zeros w64) same ∙ trailing_of_zero 64 in
          absurd (omega arith)
    ]

pub Before-found : (count v : ℕ) → count ≤ 64 → v < 2 ^ count → trailing_zeros w64 v ≤ 7 → Before (u_bits count v) (v / 2 ^ (trailing_zeros w64 v + 1), count - 1 - trailing_zeros w64 v)
Before-found count v most h few =
    let fits : v < 2 ^ 64 = omega (arith, pow_mono most) in
    elim (cases_lt 0 v) [
      | inl some ↦
          let bits = bit_at-trailing_zeros w64 v some fits in
          last_one count (trailing_zeros w64 v) v most (bit_inside count (trailing_zeros w64 v) v h bits.1) (omega arith) bits.1 bits.2
      | inr none ↦
          let same : v ≡ 0 = omega arith in
          let many : trailing_zeros w64 v ≡ 64 = ap (trailing_zeros w64) same ∙ trailing_of_zero 64 in
          absurd (omega arith)
    ]

-- ---- no set bit among the last eight
no_one-behind : (n : ℕ) (b : List Bool) → has_one b ≡ false → has_one (drop n b) ≡ false
unfolding has_one
no_one-behind zero b h = h
no_one-behind (suc n) [] h = refl
no_one-behind (suc n) (true ∷ b) h = absurd (cc)
no_one-behind (suc n) (false ∷ b) h = no_one-behind n b h

pub LacksOne-all : (b : List Bool) → has_one b ≡ false → LacksOne b
LacksOne-all b h = no_one-behind (length b - 8) b h

pub LacksOne-none : (b : List Bool) → b ≡ [] → LacksOne b
unfolding has_one
LacksOne-none [] e = refl
LacksOne-none (x ∷ b) e = absurd (cc)

LacksOne-last : (front b : List Bool) → length b ≡ 8 → has_one b ≡ false → LacksOne (front ++ b)
LacksOne-last front b size h =
    let at : length (front ++ b) - 8 ≡ length front = omega (arith, length-append front b) in
    ap (λ n. has_one (drop n (front ++ b))) at ∙ ap has_one (drop-append_seam front b) ∙ h

zero_bits : (n v : ℕ) → v % 2 ^ n ≡ 0 → has_one (u_bits n v) ≡ false
zero_bits n v h = has_one-u_bits n v ∙ ap (λ w. not (nat_eq w 0)) h

low_byte : (v : ℕ) → v < 2 ^ 64 → 7 < trailing_zeros w64 v → v % 2 ^ 8 ≡ 0
low_byte v fits many =
    elim (cases_lt 0 v) [
      | inl some ↦ zeros_below 8 v (λ i k. (bit_at-trailing_zeros w64 v some fits).2 i (omega arith))
      | inr none ↦ omega arith
    ]

pub LacksOne-number : (count v : ℕ) → count ≤ 64 → v < 2 ^ count → 7 < trailing_zeros w64 v → LacksOne (u_bits count v)
LacksOne-number count v most h many =
    let fits : v < 2 ^ 64 = omega (arith, pow_mono most) in
    let low : v % 2 ^ 8 ≡ 0 = low_byte v fits many in
    elim (cases_lt count 8) [
      | inl few ↦
          let below : count ≤ 8 = omega arith in
          let none : v ≡ 0 = omega (arith, pow_mono below) in
          LacksOne-all (u_bits count v) (zero_bits count v (ap (λ w. w % 2 ^ count) none ∙ omega (arith, pow_pos count)))
      | inr some ↦
          let k = count - 8 in
          let parts : k + 8 ≡ count = omega arith in
          let split : u_bits count v ≡ u_bits k (v / 2 ^ 8) ++ u_bits 8 (v % 2 ^ 8)
          = ap₂ u_bits (sym parts) (sym (shr_split v 8)) ∙ u_bits-append k 8 (v / 2 ^ 8) (v % 2 ^ 8) (mod_below v (2 ^ 8) (pow_pos 8))
          in
          rw split (LacksOne-last (u_bits k (v / 2 ^ 8)) (u_bits 8 (v % 2 ^ 8)) (length-u_bits 8 (v % 2 ^ 8)) (zero_bits 8 (v % 2 ^ 8) (ap (λ w. w % 2 ^ 8) low)))
    ]

-- then no tail and trailing bits stand there
pub no_end : (b tail : List Bool) (at : ℕ) → LacksOne b → b ≢ tail ++ trailing_bits at
no_end b tail at none e =
    let k = (8 - (at + 1) % 8) % 8 in
    let end : List Bool = true ∷ replicate k false in
    let shape : b ≡ tail ++ end = e ∙ ap (λ c. tail ++ c) (trailing_bits-is at k refl) in
    let size : length b ≡ length tail + suc k
    = ap length shape ∙ length-append tail end ∙ ap (λ n. length tail + suc n) (length-replicate k false)
    in
    let n = length b - 8 in
    let within : n ≤ length tail = omega arith in
    let some : has_one (drop n b) ≡ true
    = ap (λ c. has_one (drop n c)) shape ∙ ap has_one (drop-append-le n tail end within) ∙ one-has_one (drop n tail) (replicate k false)
    in
    true≢false (sym some ∙ none)

-- ---- what is left of a reader
pub Ends-from : (cursor : Cursor) (front : List Bool) (zeros : ℕ) → zeros < 8 → (place cursor + length cursor.left) % 8 ≡ 0 → cursor.left ≡ front ++ true ∷ replicate zeros false → Ends cursor front
Ends-from cursor front zeros few whole e =
    let size : length cursor.left ≡ length front + suc zeros
    = ap length e ∙ length-append front (true ∷ replicate zeros false) ∙ ap (λ n. length front + suc n) (length-replicate zeros false)
    in
    let k : (8 - (place cursor + length front + 1) % 8) % 8 ≡ zeros = omega arith in
    e ∙ ap (λ c. front ++ c) (sym (trailing_bits-is (place cursor + length front) zeros k))

-- where the last set bit is looked for in the bits in hand
pub Ends-word : (cursor : Cursor) (word count : ℕ) (rest : Bor (List ℕ)) (front : ℕ × ℕ) → IsWindow cursor (word, count, rest) → length rest.now ≡ 0 → Before (u_bits count word) front → Ends cursor ((u_bits 0 0 ++ byte_bits rest.now) ++ u_bits front.1 front.0)
unfolding window_bits
Ends-word cursor word count rest front w none h =
    let nothing : u_bits 0 0 ++ byte_bits rest.now ≡ [] = window_bits-none 0 0 rest.now refl none in
    let left : cursor.left ≡ u_bits front.1 front.0 ++ true ∷ replicate h.zeros false
    = sym w.left ∙ window_bits-last count word rest.now none ∙ h.bits
    in
    rw nothing (Ends-from cursor (u_bits front.1 front.0) h.zeros h.few w.whole left)

pub LacksOne-word : (cursor : Cursor) (word count : ℕ) (rest : Bor (List ℕ)) → IsWindow cursor (word, count, rest) → length rest.now ≡ 0 → LacksOne (u_bits count word) → LacksOne cursor.left
LacksOne-word cursor word count rest w none h =
    let left : cursor.left ≡ u_bits count word = sym w.left ∙ window_bits-last count word rest.now none in
    rw left h

-- where it is looked for in the last byte
left_last : (cursor : Cursor) (word count last : ℕ) (rest : Bor (List ℕ)) (bytes : List ℕ) → IsWindow cursor (word, count, rest) → rest.now ≡ bytes ++ last ∷ [] → cursor.left ≡ (u_bits count word ++ byte_bits bytes) ++ u_bits 8 last
unfolding window_bits
left_last cursor word count last rest bytes w e =
    sym w.left
    ∙ ap (λ r. u_bits count word ++ byte_bits r) e
    ∙ ap (λ b. u_bits count word ++ b) (byte_bits-push bytes last)
    ∙ sym (append_assoc (u_bits count word) (byte_bits bytes) (u_bits 8 last))

pub Ends-bytes : (cursor : Cursor) (word count last : ℕ) (rest : Bor (List ℕ)) (bytes : List ℕ) (front : ℕ × ℕ) → IsWindow cursor (word, count, rest) → rest.now ≡ bytes ++ last ∷ [] → Before (u_bits 8 last) front → Ends cursor ((u_bits count word ++ byte_bits bytes) ++ u_bits front.1 front.0)
Ends-bytes cursor word count last rest bytes front w e h =
    let begun : List Bool = u_bits count word ++ byte_bits bytes in
    let left : cursor.left ≡ (begun ++ u_bits front.1 front.0) ++ true ∷ replicate h.zeros false
    = left_last cursor word count last rest bytes w e
    ∙ ap (λ b. begun ++ b) h.bits
    ∙ sym (append_assoc begun (u_bits front.1 front.0) (true ∷ replicate h.zeros false))
    in
    Ends-from cursor (begun ++ u_bits front.1 front.0) h.zeros h.few w.whole left

pub LacksOne-bytes : (cursor : Cursor) (word count last : ℕ) (rest : Bor (List ℕ)) (bytes : List ℕ) → IsWindow cursor (word, count, rest) → rest.now ≡ bytes ++ last ∷ [] → LacksOne (u_bits 8 last) → LacksOne cursor.left
LacksOne-bytes cursor word count last rest bytes w e h =
    let byte : List Bool = u_bits 8 last in
    let size : length byte ≡ 8 = length-u_bits 8 last in
    let first : length byte - 8 ≡ 0 = omega arith in
    let none : has_one byte ≡ false = ap (λ n. has_one (drop n byte)) (sym first) ∙ h in
    rw (left_last cursor word count last rest bytes w e) (LacksOne-last (u_bits count word ++ byte_bits bytes) byte size none)

-- ---- a tail, as it is written down
u_bits-next : (k value : ℕ) → nat_eq (value / 2 ^ k % 2) 1 ∷ u_bits k value ≡ u_bits (suc k) value
unfolding u_bits
u_bits-next k value = refl

pub pushed_bit : (items start new : List Bool) (left value : ℕ) → 0 < left → items ++ u_bits left value ≡ start → new ≡ items ++ nat_eq (bit_and (value / 2 ^ (left - 1)) 1) 1 ∷ [] → new ++ u_bits (left - 1) value ≡ start
pushed_bit items start new left value some h e =
    let k = left - 1 in
    let next : suc k ≡ left = omega arith in
    let same : nat_eq (bit_and (value / 2 ^ k) 1) 1 ≡ nat_eq (value / 2 ^ k % 2) 1 = ap (λ w. nat_eq w 1) (shr_and_one value k) in
    ap (λ b. b ++ u_bits k value) (e ∙ ap (λ x. items ++ x ∷ []) same)
    ∙ append_assoc items (nat_eq (value / 2 ^ k % 2) 1 ∷ []) (u_bits k value)
    ∙ ap (λ b. items ++ b) (u_bits-next k value)
    ∙ ap (λ n. items ++ u_bits n value) next
    ∙ h

pub all_pushed : (items start : List Bool) (left value : ℕ) → left ≤ 0 → items ++ u_bits left value ≡ start → items ≡ start
unfolding u_bits
all_pushed items start zero value none h = sym (append-nil items) ∙ h
all_pushed items start (suc left) value none h = absurd (omega arith)

pub pushed_byte : (i byte : ℕ) (xs : List ℕ) (start items new : List Bool) → items ≡ start ++ byte_bits (take i xs) → i < length xs → byte ≡ get_or xs i 0 → new ≡ items ++ u_bits 8 byte → new ≡ start ++ byte_bits (take (i + 1) xs)
pushed_byte i byte xs start items new h inside is e =
    let more : byte_bits (take (i + 1) xs) ≡ byte_bits (take i xs) ++ u_bits 8 byte
    = ap byte_bits (take_more xs i 0 inside) ∙ byte_bits-push (take i xs) (get_or xs i 0) ∙ ap (λ b. byte_bits (take i xs) ++ u_bits 8 b) (sym is)
    in
    e ∙ ap (λ b. b ++ u_bits 8 byte) h ∙ append_assoc start (byte_bits (take i xs)) (u_bits 8 byte) ∙ ap (λ b. start ++ b) (sym more)

pub no_byte : (xs : List ℕ) (start : List Bool) → start ≡ start ++ byte_bits (take 0 xs)
unfolding byte_bits
no_byte xs start = sym (append-nil start)

-- ---- a tail, as it is printed
bit_number : (x : Bool) → u_bits 1 (from_bool x) ≡ x ∷ []
unfolding u_bits
bit_number true = refl
bit_number false = refl

bit_below : (x : Bool) → from_bool x < 2 ^ 1
bit_below true = lit< tt
bit_below false = lit< tt

pub no_bits : u_bits 0 0 ≡ []
unfolding u_bits
no_bits = refl

-- one bit more in the program's number
pub next_number : (i number : ℕ) (x : Bool) → i < 64 → number < 2 ^ i → bit_or (number * 2 ^ 1 % 2 ^ 64) (from_bool x) ≡ number * 2 ^ 1 + from_bool x
next_number i number x narrow h = ap (λ w. bit_or w (from_bool x)) (shl_whole number i 1 64 h (omega arith)) ∙ or_shifted number 1 (from_bool x) (bit_below x)

pub next_bits : (i number : ℕ) (xs : List Bool) → i < 64 → i < length xs → number < 2 ^ i → u_bits i number ≡ take i xs → u_bits (i + 1) (bit_or (number * 2 ^ 1 % 2 ^ 64) (from_bool (get_or xs i false))) ≡ take (i + 1) xs
next_bits i number xs narrow inside h e =
    let x = get_or xs i false in
    ap (u_bits (i + 1)) (next_number i number x narrow h)
    ∙ u_bits-append i 1 number (from_bool x) (bit_below x)
    ∙ ap₂ (λ a b. a ++ b) e (bit_number x)
    ∙ sym (take_more xs i false inside)

pub next_number-lt : (i number : ℕ) (x : Bool) → i < 64 → number < 2 ^ i → bit_or (number * 2 ^ 1 % 2 ^ 64) (from_bool x) < 2 ^ (i + 1)
next_number-lt i number x narrow h = rw (next_number i number x narrow h) (omega (arith, bit_below x, pow-add 2 i 1))
