-- A ue(v) code read bit by bit, and read as the number in its bits.
use Rattle.std.proofs.Common.{◌≡◌, ℕ, suc, ◌+◌, ◌-◌, ◌*◌, ◌/◌, ◌%◌, ◌^◌, ◌<◌, ◌≤◌, ◌≢◌, Bool, true, false, List, [], ◌∷◌, ◌++◌, Ok, Err, bit_and, refl, sym, ap, ◌∙◌, arith, append_assoc, pow_mono, suc-le-suc, pow-suc, inl, inr}
use Rattle.std.proofs.lemmas.Bool.{cases_lt}
use Rattle.std.proofs.lemmas.Nat.{pow_pos, pow-add, le-div, div_below, shr_split, mod_below}
use Rattle.mv_syntax.specs.Bits.{short, kept, u_bits, take_bits, take_ue_from, take_ue, ue_bits, byte_bits}
use Rattle.mv_syntax.proofs.BitLaws.{same_ok, take_ue-ue_bits, ue_bits-number, u_bits-append}
use Rattle.mv_bits.specs.inner.Window.{window_bits}
use Rattle.mv_bits.proofs.Windows.{low_word}

-- ---- a bit at a time
pub ue_no_bit : (most leading : ℕ) (left : List Bool) → take_bits 1 0 left ≡ Err short → take_ue_from most leading left ≡ Err short
unfolding take_bits take_ue_from
ue_no_bit most leading [] e = refl
ue_no_bit most leading (x ∷ left) e = absurd (cc)

pub ue_zero_bit : (most leading v : ℕ) (left rest : List Bool) → take_bits 1 0 left ≡ Ok (v, rest) → v ≡ 0 → take_ue_from (suc most) leading left ≡ take_ue_from most (suc leading) rest
unfolding take_bits take_ue_from
ue_zero_bit most leading v [] rest e none = absurd (cc)
ue_zero_bit most leading v (true ∷ left) rest e none =
    let same : (1, left) ≡ (v, rest) = same_ok refl e in absurd (omega (arith, ap (λ r. r.0) same))
ue_zero_bit most leading v (false ∷ left) rest e none =
    let same : (0, left) ≡ (v, rest) = same_ok refl e in ap (λ r. take_ue_from most (suc leading) r.1) same

pub ue_zero_too_many : (leading v : ℕ) (left rest : List Bool) → take_bits 1 0 left ≡ Ok (v, rest) → v ≡ 0 → take_ue_from 0 leading left ≡ Err short
unfolding take_bits take_ue_from
ue_zero_too_many leading v [] rest e none = refl
ue_zero_too_many leading v (true ∷ left) rest e none =
    let same : (1, left) ≡ (v, rest) = same_ok refl e in absurd (omega (arith, ap (λ r. r.0) same))
ue_zero_too_many leading v (false ∷ left) rest e none = refl

pub ue_one_bit : (most leading v : ℕ) (left rest : List Bool) → take_bits 1 0 left ≡ Ok (v, rest) → v ≢ 0 → take_ue_from most leading left ≡ kept (λ low. 2 ^ leading - 1 + low) (take_bits leading 0 rest)
unfolding take_bits take_ue_from
ue_one_bit most leading v [] rest e some = absurd (cc)
ue_one_bit most leading v (false ∷ left) rest e some =
    let same : (0, left) ≡ (v, rest) = same_ok refl e in absurd (some (sym (ap (λ r. r.0) same)))
ue_one_bit most leading v (true ∷ left) rest e some =
    let same : (1, left) ≡ (v, rest) = same_ok refl e in
    ap (λ r. kept (λ low. 2 ^ leading - 1 + low) (take_bits leading 0 r.1)) same

-- ---- a whole code in hand

-- the first one of the word has `behind` bits behind it and `leading` zeros before it, at most as many
pub ue_in_window : (leading behind word : ℕ) (bytes : List ℕ) → leading ≤ behind → leading ≤ 31 → 2 ^ behind ≤ word → word < 2 ^ suc behind → (let after = behind - leading in let code = word / 2 ^ after in take_ue (window_bits (leading + suc behind) word bytes) ≡ Ok (code - 1, window_bits after (word % 2 ^ after) bytes))
unfolding window_bits
ue_in_window leading behind word bytes whole most low high =
    let after = behind - leading in
    let code = word / 2 ^ after in
    let rest = word % 2 ^ after in
    let split : leading + suc leading + after ≡ leading + suc behind = omega arith in
    let sum : leading + after ≡ behind = omega arith in
    let sums : suc leading + after ≡ suc behind = omega arith in
    let at_least : 2 ^ leading ≤ code
    = le-div (2 ^ leading) word (2 ^ after) (pow_pos after) (rw (← pow-add 2 leading after, sum) low)
    in
    let below : code < 2 ^ suc leading
    = div_below word (2 ^ after) (2 ^ suc leading) (pow_pos after) (rw (← pow-add 2 (suc leading) after, sums) high)
    in
    let printed : u_bits (leading + suc behind) word ≡ ue_bits (code - 1) ++ u_bits after rest
    = ap (λ n. u_bits n word) (sym split)
    ∙ ap (u_bits (leading + suc leading + after)) (sym (shr_split word after))
    ∙ u_bits-append (leading + suc leading) after code rest (mod_below word (2 ^ after) (pow_pos after))
    ∙ ap (λ b. b ++ u_bits after rest) (sym (ue_bits-number leading code most at_least below))
    in
    let top : code < 2 ^ 32 = omega (arith, pow_mono (suc-le-suc most)) in
    ap (λ b. take_ue (b ++ byte_bits bytes)) printed
    ∙ ap take_ue (append_assoc (ue_bits (code - 1)) (u_bits after rest) (byte_bits bytes))
    ∙ take_ue-ue_bits (code - 1) (u_bits after rest ++ byte_bits bytes) (omega (arith, pow_pos leading))

pub exponent_lt : (j k n : ℕ) → 2 ^ j ≤ n → n < 2 ^ k → j < k
exponent_lt j k n low high = elim (cases_lt j k) [ inl h ↦ h | inr h ↦ absurd (omega (arith, pow_mono h)) ]

-- what a reader computes of a code that is whole in hand: `behind` bits stand behind the first one
pub record CodeInHand (count word behind : ℕ) : Type 0 where
  pub positive : 1 ≤ word / 2 ^ (behind - (count - 1 - behind))
  pub small : word / 2 ^ (behind - (count - 1 - behind)) - 1 < 2 ^ 32
  pub narrow : behind - (count - 1 - behind) < 64
  pub low : bit_and word (1 * 2 ^ (behind - (count - 1 - behind)) % 2 ^ 64 - 1) < 2 ^ (behind - (count - 1 - behind))
  pub read : (bytes : List ℕ) → take_ue (window_bits count word bytes) ≡ Ok (word / 2 ^ (behind - (count - 1 - behind)) - 1, window_bits (behind - (count - 1 - behind)) (bit_and word (1 * 2 ^ (behind - (count - 1 - behind)) % 2 ^ 64 - 1)) bytes)

pub code_in_hand : (count word behind : ℕ) → count < 64 → word < 2 ^ count → 2 ^ behind ≤ word → word < 2 * 2 ^ behind → count - 1 - behind ≤ behind → CodeInHand count word behind
code_in_hand count word behind narrow h low high whole =
    let leading = count - 1 - behind in
    let after = behind - leading in
    let inside : behind < count = exponent_lt behind count word low h in
    let count_is : leading + suc behind ≡ count = omega arith in
    let most : leading ≤ 31 = omega arith in
    let short_after : after < 64 = omega arith in
    let top : word < 2 ^ suc behind = omega (arith, pow-suc 2 behind) in
    let mask : bit_and word (1 * 2 ^ after % 2 ^ 64 - 1) ≡ word % 2 ^ after = low_word after word short_after in
    let fits : after ≤ behind = omega arith in
    let parts : suc leading + after ≡ suc behind = omega arith in
    record {
      positive = le-div 1 word (2 ^ after) (pow_pos after) (omega (arith, pow_mono fits));
      small =
          (let below : word / 2 ^ after < 2 ^ suc leading = div_below word (2 ^ after) (2 ^ suc leading) (pow_pos after) (rw (← pow-add 2 (suc leading) after, parts) top) in
          omega (arith, pow_mono (suc-le-suc most)));
      narrow = short_after;
      low = rw mask (mod_below word (2 ^ after) (pow_pos after));
      read = λ bytes.
          ap (λ n. take_ue (window_bits n word bytes)) (sym count_is)
          ∙ ue_in_window leading behind word bytes whole most low top
          ∙ ap (λ w. Ok (word / 2 ^ after - 1, window_bits after w bytes)) (sym mask);
    }
