-- What a writer's steps do to the bits written.
use Rattle.std.proofs.Common.{◌≡◌, ℕ, suc, ◌+◌, ◌-◌, ◌*◌, ◌/◌, ◌%◌, ◌^◌, ◌<◌, ◌≤◌, Bool, true, false, replicate, List, [], ◌∷◌, ◌++◌, length, bit_and, bit_or, sym, ap, ap₂, ◌∙◌, arith, append_assoc, append-nil, length-append, take, get_or, refl, mul_comm, zero, add-one, pow-suc, pow_mono}
use Rattle.std.proofs.lemmas.List.{take-append-le, take_more, take_all}
use Rattle.std.proofs.lemmas.Nat.{shr_below, shr_split, mod_below, pow_pos, pow-add, shl_whole, or_shifted, one_shl, and_mask, mul-add-lt}
use Rattle.mv_syntax.specs.Bits.{u_bits, ue_bits, align_bits, trailing_bits, byte_bits}
use Rattle.mv_syntax.proofs.BitLaws.{u_bits-append, u_bits-ones, u_bits-zero, u_bits-one, ue_bits-number, length-u_bits, length-byte_bits}
use Rattle.mv_bits.proofs.Codes.{exponent_lt}
use Rattle.mv_bits.proofs.Endings.{trailing_bits-is}
use Rattle.mv_bits.specs.inner.Written.{written_bits, Extends}

-- a byte more behind the bytes
pub byte_bits-push : (bytes : List ℕ) (byte : ℕ) → byte_bits (bytes ++ byte ∷ []) ≡ byte_bits bytes ++ u_bits 8 byte
unfolding byte_bits
byte_bits-push [] byte = append-nil (u_bits 8 byte)
byte_bits-push (b ∷ bytes) byte =
    ap (λ c. u_bits 8 b ++ c) (byte_bits-push bytes byte) ∙ sym (append_assoc (u_bits 8 b) (byte_bits bytes) (u_bits 8 byte))

-- the highest byte of the word goes behind the bytes
pub written_bits-moved : (bytes : List ℕ) (count word : ℕ) → word < 2 ^ (8 + count) → written_bits (bytes ++ word / 2 ^ count ∷ []) count (word % 2 ^ count) ≡ written_bits bytes (8 + count) word
unfolding written_bits
written_bits-moved bytes count word h =
    let low : word % 2 ^ count < 2 ^ count = mod_below word (2 ^ count) (pow_pos count) in
    let parts : u_bits (8 + count) word ≡ u_bits 8 (word / 2 ^ count) ++ u_bits count (word % 2 ^ count)
    = ap (u_bits (8 + count)) (sym (shr_split word count)) ∙ u_bits-append 8 count (word / 2 ^ count) (word % 2 ^ count) low
    in
    ap (λ b. b ++ u_bits count (word % 2 ^ count)) (byte_bits-push bytes (word / 2 ^ count))
    ∙ append_assoc (byte_bits bytes) (u_bits 8 (word / 2 ^ count)) (u_bits count (word % 2 ^ count))
    ∙ ap (λ b. byte_bits bytes ++ b) (sym parts)

-- n bits more behind the word
pub written_bits-more : (bytes : List ℕ) (count word n value : ℕ) → value < 2 ^ n → written_bits bytes (count + n) (word * 2 ^ n + value) ≡ written_bits bytes count word ++ u_bits n value
unfolding written_bits
written_bits-more bytes count word n value h =
    ap (λ b. byte_bits bytes ++ b) (u_bits-append count n word value h)
    ∙ sym (append_assoc (byte_bits bytes) (u_bits count word) (u_bits n value))

-- the bits of a value behind those of the word, as the program's word of `width` bits
pub started_word : (width count last n value : ℕ) → count + n ≤ width → last < 2 ^ count → value < 2 ^ n → bit_or (last * 2 ^ n % 2 ^ width) value ≡ last * 2 ^ n + value
started_word width count last n value room h k =
    ap (λ w. bit_or w value) (shl_whole last count n width h room) ∙ or_shifted last n value k

started_sum-lt : (count last n value : ℕ) → last < 2 ^ count → value < 2 ^ n → last * 2 ^ n + value < 2 ^ (count + n)
started_sum-lt count last n value h k =
    omega (arith, mul-add-lt last (2 ^ n) value (2 ^ count) h k, pow-add 2 count n, mul_comm (2 ^ n) (2 ^ count))

pub started_word-lt : (width count last n value : ℕ) → count + n ≤ width → last < 2 ^ count → value < 2 ^ n → bit_or (last * 2 ^ n % 2 ^ width) value < 2 ^ (count + n)
started_word-lt width count last n value room h k =
    rw (started_word width count last n value room h k) (started_sum-lt count last n value h k)

pub written_bits-started : (width : ℕ) (bytes : List ℕ) (count last n value : ℕ) → count + n ≤ width → last < 2 ^ count → value < 2 ^ n → written_bits bytes (count + n) (bit_or (last * 2 ^ n % 2 ^ width) value) ≡ written_bits bytes count last ++ u_bits n value
written_bits-started width bytes count last n value room h k =
    ap (written_bits bytes (count + n)) (started_word width count last n value room h k)
    ∙ written_bits-more bytes count last n value k

-- what the loop keeps: the bits behind `before`, of which the first are those at the start
pub record Pending (left word : ℕ) (bytes started : List ℕ) (before : ℕ) (bits : List Bool) : Type 0 where
  pub narrow : left < 64
  pub in_hand : word < 2 ^ left
  pub written : written_bits bytes left word ≡ bits
  pub long : before ≤ length bytes
  pub kept : take before bytes ≡ started

pub Pending-started : (count last n value before : ℕ) (bytes : List ℕ) → count < 8 → n ≤ 56 → last < 2 ^ count → value < 2 ^ n → before ≤ length bytes → Pending (count + n) (bit_or (last * 2 ^ n % 2 ^ 64) value) bytes (take before bytes) before (written_bits bytes count last ++ u_bits n value)
Pending-started count last n value before bytes narrow most h k long = record {
  narrow = omega arith;
  in_hand = started_word-lt 64 count last n value (omega arith) h k;
  written = written_bits-started 64 bytes count last n value (omega arith) h k;
  long = long;
  kept = refl;
}

pub Pending-moved : (left word before : ℕ) (bytes started more : List ℕ) (bits : List Bool) → Pending left word bytes started before bits → 8 ≤ left → more ≡ bytes ++ word / 2 ^ (left - 8) ∷ [] → Pending (left - 8) (bit_and word (1 * 2 ^ (left - 8) % 2 ^ 64 - 1)) more started before bits
Pending-moved left word before bytes started more bits h some pushed =
    let count = left - 8 in
    let parts : 8 + count ≡ left = omega arith in
    let narrow : count < 64 = omega (arith, h.narrow) in
    let below : word < 2 ^ (8 + count) = rw parts h.in_hand in
    let mask : bit_and word (1 * 2 ^ count % 2 ^ 64 - 1) ≡ word % 2 ^ count
    = ap (λ m. bit_and word (m - 1)) (one_shl count 64 narrow) ∙ and_mask word count
    in
    let long = h.long in
    record {
      narrow = omega (arith, h.narrow);
      in_hand = rw mask (mod_below word (2 ^ count) (pow_pos count));
      written = ap₂ (λ b w. written_bits b count w) pushed mask
          ∙ written_bits-moved bytes count word below
          ∙ ap (λ n. written_bits bytes n word) parts
          ∙ h.written;
      long = omega (arith, ap length pushed, length-append bytes (word / 2 ^ count ∷ []));
      kept = ap (take before) pushed ∙ take-append-le before bytes (word / 2 ^ count ∷ []) long ∙ h.kept;
    }

-- the upper bits of a value first, and then the k bits below
pub Extends-halves : (before count word n k value : ℕ) (started mid new : List ℕ) (high last : ℕ × ℕ) → k ≤ n → Extends before started mid (written_bits started count word ++ u_bits (n - k) (value / 2 ^ k)) high → Extends before mid new (written_bits mid high.1 high.0 ++ u_bits k (value % 2 ^ k)) last → Extends before started new (written_bits started count word ++ u_bits n value) last
Extends-halves before count word n k value started mid new high last some h l =
    let low : value % 2 ^ k < 2 ^ k = mod_below value (2 ^ k) (pow_pos k) in
    let size : n - k + k ≡ n = omega arith in
    let parts : u_bits (n - k) (value / 2 ^ k) ++ u_bits k (value % 2 ^ k) ≡ u_bits n value
    = sym (u_bits-append (n - k) k (value / 2 ^ k) (value % 2 ^ k) low) ∙ ap₂ u_bits size (shr_split value k)
    in
    record {
      written = l.written
          ∙ ap (λ b. b ++ u_bits k (value % 2 ^ k)) h.written
          ∙ append_assoc (written_bits started count word) (u_bits (n - k) (value / 2 ^ k)) (u_bits k (value % 2 ^ k))
          ∙ ap (λ b. written_bits started count word ++ b) parts;
      narrow = l.narrow;
      in_hand = l.in_hand;
      long = l.long;
      kept = l.kept ∙ h.kept;
    }

pub upper-lt : (n k value : ℕ) → k ≤ n → value < 2 ^ n → value / 2 ^ k < 2 ^ (n - k)
upper-lt n k value some h =
    let size : n - k + k ≡ n = omega arith in shr_below value (n - k) k (rw size h)

pub written_bits-none : (bytes : List ℕ) → bytes ≡ [] → written_bits bytes 0 0 ≡ []
unfolding written_bits u_bits byte_bits
written_bits-none bytes e = ap (λ b. byte_bits b ++ []) e

pub length-written_bits : (bytes : List ℕ) (count word : ℕ) → length (written_bits bytes count word) ≡ 8 * length bytes + count
unfolding written_bits
length-written_bits bytes count word =
    omega (arith, length-append (byte_bits bytes) (u_bits count word), length-u_bits count word, length-byte_bits bytes)

-- no bit is behind the bytes
pub written_bits-whole : (bytes : List ℕ) (count word : ℕ) → count < 8 → length (written_bits bytes count word) % 8 ≡ 0 → byte_bits bytes ≡ written_bits bytes count word
unfolding written_bits u_bits
written_bits-whole bytes zero word h e = sym (append-nil (byte_bits bytes))
written_bits-whole bytes (suc count) word h e = absurd (omega (arith, length-written_bits bytes (suc count) word))

-- the bits up to the end of the byte, as the program's number
pub align_bits-ones : (bytes count place n value : ℕ) → count < 8 → place ≡ 8 * bytes + count → n ≡ (8 - count) % 8 → value ≡ 1 * 2 ^ n % 2 ^ 64 - 1 → align_bits true place ≡ u_bits n value
unfolding align_bits
align_bits-ones bytes count place n value h at size e =
    let end : (8 - place % 8) % 8 ≡ n = omega arith in
    let narrow : n < 64 = omega arith in
    ap (λ k. replicate k true) end ∙ sym (u_bits-ones n) ∙ ap (λ w. u_bits n (w - 1)) (sym (one_shl n 64 narrow)) ∙ ap (u_bits n) (sym e)

pub align_bits-zeros : (bytes count place n value : ℕ) → count < 8 → place ≡ 8 * bytes + count → n ≡ (8 - count) % 8 → value ≡ 0 → align_bits false place ≡ u_bits n value
unfolding align_bits
align_bits-zeros bytes count place n value h at size e =
    let end : (8 - place % 8) % 8 ≡ n = omega arith in
    ap (λ k. replicate k false) end ∙ sym (u_bits-zero n) ∙ ap (u_bits n) (sym e)

-- the trailing bits, as the program's number
pub trailing_bits-number : (bytes count place : ℕ) → count < 8 → place ≡ 8 * bytes + count → trailing_bits place ≡ u_bits (7 - count + 1) (1 * 2 ^ (7 - count) % 2 ^ 64)
trailing_bits-number bytes count place h at =
    let k = 7 - count in
    let end : (8 - (place + 1) % 8) % 8 ≡ k = omega arith in
    let narrow : k < 64 = omega arith in
    trailing_bits-is place k end
    ∙ sym (u_bits-one k)
    ∙ ap₂ u_bits (sym (add-one k)) (sym (one_shl k 64 narrow))

-- the code of a value, as the program's number
pub ue_bits-printed : (value z number : ℕ) → number ≡ value + 1 → 2 ^ z ≤ value + 1 → value + 1 < 2 * 2 ^ z → value < 2 ^ 32 - 1 → ue_bits value ≡ u_bits (2 * z + 1) number
ue_bits-printed value z number e low high range =
    let most : z < 32 = exponent_lt z 32 (value + 1) low (omega arith) in
    let top : value + 1 < 2 ^ suc z = omega (arith, pow-suc 2 z) in
    let back : value + 1 - 1 ≡ value = omega arith in
    let size : z + suc z ≡ 2 * z + 1 = omega arith in
    ap ue_bits (sym back) ∙ ue_bits-number z (value + 1) (omega arith) low top ∙ ap₂ u_bits size (sym e)

pub ue_bits-fits : (value z number : ℕ) → number ≡ value + 1 → value + 1 < 2 * 2 ^ z → number < 2 ^ (2 * z + 1)
ue_bits-fits value z number e high =
    let more : suc z ≤ 2 * z + 1 = omega arith in omega (arith, pow-suc 2 z, pow_mono more)

-- ---- one writer behind another
pub Extends-started : (before count word : ℕ) (bytes : List ℕ) (old : List Bool) → before ≤ length bytes → count < 8 → word < 2 ^ count → written_bits bytes count word ≡ old → Extends before bytes bytes (old ++ byte_bits []) (word, count)
unfolding byte_bits
Extends-started before count word bytes old long narrow h same = record {
  written = same ∙ sym (append-nil old);
  narrow = narrow;
  in_hand = h;
  long = long;
  kept = refl;
}

pub Extends-byte : (before i value : ℕ) (started mid new xs : List ℕ) (old : List Bool) (last next : ℕ × ℕ) → Extends before started mid (old ++ byte_bits (take i xs)) last → Extends before mid new (written_bits mid last.1 last.0 ++ u_bits 8 value) next → i < length xs → value ≡ get_or xs i 0 → Extends before started new (old ++ byte_bits (take (i + 1) xs)) next
Extends-byte before i value started mid new xs old last next h k inside is =
    let more : byte_bits (take (i + 1) xs) ≡ byte_bits (take i xs) ++ u_bits 8 value
    = ap byte_bits (take_more xs i 0 inside) ∙ byte_bits-push (take i xs) (get_or xs i 0) ∙ ap (λ b. byte_bits (take i xs) ++ u_bits 8 b) (sym is)
    in
    record {
      written = k.written
          ∙ ap (λ b. b ++ u_bits 8 value) h.written
          ∙ append_assoc old (byte_bits (take i xs)) (u_bits 8 value)
          ∙ ap (λ b. old ++ b) (sym more);
      narrow = k.narrow;
      in_hand = k.in_hand;
      long = k.long;
      kept = k.kept ∙ h.kept;
    }

pub Extends-ended : (before i count word : ℕ) (started mid new xs : List ℕ) (old other : List Bool) (last next : ℕ × ℕ) → Extends before started mid (old ++ byte_bits (take i xs)) last → Extends before mid new (written_bits mid last.1 last.0 ++ u_bits count word) next → length xs ≤ i → written_bits xs count word ≡ other → written_bits new next.1 next.0 ≡ old ++ other
unfolding written_bits
Extends-ended before i count word started mid new xs old other last next h k outside same =
    k.written
    ∙ ap (λ b. b ++ u_bits count word) (h.written ∙ ap (λ b. old ++ byte_bits b) (take_all i xs outside))
    ∙ append_assoc old (byte_bits xs) (u_bits count word)
    ∙ ap (λ b. old ++ b) same

-- ---- whole bytes
pub whole_after : (old more new : List Bool) → new ≡ old ++ more → (length old + length more) % 8 ≡ 0 → length new % 8 ≡ 0
whole_after old more new e h = ap (λ b. length b % 8) e ∙ ap (λ n. n % 8) (length-append old more) ∙ h
