-- What ends a string of bits: more data, or the trailing bits.
use Rattle.std.proofs.Common.{◌≡◌, ℕ, suc, ◌+◌, ◌-◌, ◌*◌, ◌%◌, ◌^◌, ◌<◌, ◌≤◌, ◌≢◌, Bool, true, false, not, ◌||◌, nat_eq, List, [], ◌∷◌, ◌++◌, length, replicate, bit_and, sym, ap, ap₂, ◌∙◌, arith, append-nil, ne_eqb, eq-eqb, refl}
use Rattle.std.proofs.lemmas.Nat.{one_shl, pow_below}
use Rattle.std.proofs.lemmas.List.{length-replicate}
use Rattle.std.specs.Borrow.{Bor}
use Rattle.mv_syntax.specs.Bits.{u_bits, byte_bits, align_bits, trailing_bits, has_one, more_data}
use Rattle.mv_syntax.proofs.BitLaws.{has_one-append, has_one-u_bits, u_bits-one, u_bits-injective}
use Rattle.mv_bits.specs.Cursor.{Cursor, place}
use Rattle.mv_bits.specs.inner.Window.{window_bits, IsWindow}
use Rattle.mv_bits.proofs.Windows.{low_word, length-window_bits}

-- ---- more data
pub more_data-none : (left : List Bool) → left ≡ [] → false ≡ more_data left
unfolding more_data
more_data-none left e = sym (ap more_data e)

more_data-behind : (k word : ℕ) (bytes : List ℕ) → more_data (window_bits (suc k) word bytes) ≡ has_one (u_bits k word ++ byte_bits bytes)
unfolding more_data window_bits u_bits
more_data-behind k word bytes = refl

-- the bits behind the next one: the low bits of the word, and the bytes
more_data-window : (cursor : Cursor) (word count : ℕ) (rest : Bor (List ℕ)) → IsWindow cursor (word, count, rest) → more_data cursor.left ≡ not (nat_eq (bit_and word (1 * 2 ^ (count - 1) % 2 ^ 64 - 1)) 0) || has_one (byte_bits rest.now)
more_data-window cursor word count rest w =
    let k = count - 1 in
    let next : suc k ≡ count = omega (arith, w.some) in
    let narrow : k < 64 = omega (arith, w.narrow) in
    ap more_data (sym w.left)
    ∙ ap (λ n. more_data (window_bits n word rest.now)) (sym next)
    ∙ more_data-behind k word rest.now
    ∙ has_one-append (u_bits k word) (byte_bits rest.now)
    ∙ ap (λ a. a || has_one (byte_bits rest.now)) (has_one-u_bits k word ∙ ap (λ n. not (nat_eq n 0)) (sym (low_word k word narrow)))

pub more_data-in_hand : (cursor : Cursor) (word count : ℕ) (rest : Bor (List ℕ)) → IsWindow cursor (word, count, rest) → bit_and word (1 * 2 ^ (count - 1) % 2 ^ 64 - 1) ≢ 0 → not (nat_eq (bit_and word (1 * 2 ^ (count - 1) % 2 ^ 64 - 1)) 0) ≡ more_data cursor.left
more_data-in_hand cursor word count rest w some =
    let low = bit_and word (1 * 2 ^ (count - 1) % 2 ^ 64 - 1) in
    let set : not (nat_eq low 0) ≡ true = ap not (ne_eqb low 0 some) in
    set ∙ sym (more_data-window cursor word count rest w ∙ ap (λ b. b || has_one (byte_bits rest.now)) set)

pub more_data-in_bytes : (cursor : Cursor) (word count : ℕ) (rest : Bor (List ℕ)) → IsWindow cursor (word, count, rest) → bit_and word (1 * 2 ^ (count - 1) % 2 ^ 64 - 1) ≡ 0 → has_one (byte_bits rest.now) ≡ more_data cursor.left
more_data-in_bytes cursor word count rest w none =
    let low = bit_and word (1 * 2 ^ (count - 1) % 2 ^ 64 - 1) in
    let clear : not (nat_eq low 0) ≡ false = ap not (eq-eqb low 0 none) in
    sym (more_data-window cursor word count rest w ∙ ap (λ b. b || has_one (byte_bits rest.now)) clear)

-- ---- trailing bits
pub trailing_bits-some : (at : ℕ) (left : List Bool) → left ≡ [] → left ≡ trailing_bits at → ⊥
unfolding trailing_bits
trailing_bits-some at left e f = cc

length-trailing : (at : ℕ) → length (trailing_bits at) ≡ suc ((8 - (at + 1) % 8) % 8)
unfolding trailing_bits align_bits
length-trailing at = ap suc (length-replicate ((8 - (at + 1) % 8) % 8) false)

pub trailing_bits-is : (at k : ℕ) → (8 - (at + 1) % 8) % 8 ≡ k → trailing_bits at ≡ true ∷ replicate k false
unfolding trailing_bits align_bits
trailing_bits-is at k e = ap (λ n. true ∷ replicate n false) e

pub window_bits-last : (count word : ℕ) (bytes : List ℕ) → length bytes ≡ 0 → window_bits count word bytes ≡ u_bits count word
unfolding window_bits byte_bits
window_bits-last count word [] e = append-nil (u_bits count word)
window_bits-last count word (byte ∷ bytes) e = absurd (omega arith)

-- the place is behind whole bytes, but for the bits that are left
pub trailing_bits-found : (cursor : Cursor) (word count : ℕ) (rest : Bor (List ℕ)) → IsWindow cursor (word, count, rest) → count ≤ 8 → word ≡ 1 * 2 ^ (count - 1) % 2 ^ 64 → length rest.now ≡ 0 → cursor.left ≡ trailing_bits (place cursor)
trailing_bits-found cursor word count rest w most one none =
    let k = count - 1 in
    let next : suc k ≡ count = omega (arith, w.some) in
    let narrow : k < 64 = omega (arith, w.narrow) in
    let word_is : word ≡ 2 ^ k = one ∙ one_shl k 64 narrow in
    let size : length cursor.left ≡ count = omega (arith, ap length w.left, length-window_bits count word rest.now) in
    let zeros : (8 - (place cursor + 1) % 8) % 8 ≡ k = omega (arith, w.whole, size, most, w.some) in
    sym w.left
    ∙ window_bits-last count word rest.now none
    ∙ ap₂ u_bits (sym next) word_is
    ∙ u_bits-one k
    ∙ sym (trailing_bits-is (place cursor) k zeros)

pub trailing_bits-shape : (cursor : Cursor) (word count : ℕ) (rest : Bor (List ℕ)) → IsWindow cursor (word, count, rest) → cursor.left ≡ trailing_bits (place cursor) → (count ≤ 8) × (length rest.now ≡ 0) × (word ≡ 1 * 2 ^ (count - 1) % 2 ^ 64)
trailing_bits-shape cursor word count rest w e =
    let k = count - 1 in
    let zeros = (8 - (place cursor + 1) % 8) % 8 in
    let next : suc k ≡ count = omega (arith, w.some) in
    let narrow : k < 64 = omega (arith, w.narrow) in
    let size : count + 8 * length rest.now ≡ suc zeros
    = sym (length-window_bits count word rest.now) ∙ ap length w.left ∙ ap length e ∙ length-trailing (place cursor)
    in
    let none : length rest.now ≡ 0 = omega (arith, w.some) in
    let same : zeros ≡ k = omega (arith, w.some) in
    let bits : u_bits (suc k) word ≡ u_bits (suc k) (2 ^ k)
    = ap (λ n. u_bits n word) next
    ∙ sym (window_bits-last count word rest.now none)
    ∙ w.left
    ∙ e
    ∙ trailing_bits-is (place cursor) k same
    ∙ sym (u_bits-one k)
    in
    let fits : word < 2 ^ suc k = rw next w.in_hand in
    let word_is : word ≡ 2 ^ k = u_bits-injective (suc k) word (2 ^ k) fits (pow_below k (suc k) (omega arith)) bits in
    (omega arith, none, word_is ∙ sym (one_shl k 64 narrow))
