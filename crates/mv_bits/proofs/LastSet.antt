-- Where the last set bit of bytes is known to be.
use Rattle.std.proofs.Common.{◌≡◌, ℕ, zero, suc, ◌+◌, ◌-◌, ◌*◌, ◌%◌, ◌^◌, ◌<◌, ◌≤◌, ◌≢◌, Bool, true, false, not, ◌||◌, nat_eq, nat_lt, List, [], ◌∷◌, length, drop, get_or, refl, sym, ap, ap₂, ◌∙◌, arith, mod-eq_of_lt, ne_eqb, lt-ltb, le-ltb, inl, inr, bit_or}
use Rattle.std.proofs.lemmas.Bool.{cases_lt}
use Rattle.std.proofs.lemmas.List.{get_or-drop, length-drop}
use Rattle.std.proofs.Math.Seq.{drop-cons}
use Rattle.mv_syntax.specs.Bits.{u_bits, byte_bits, has_one}
use Rattle.mv_syntax.proofs.BitLaws.{has_one-append, has_one-u_bits}
use Rattle.mv_bits.specs.inner.Window.{SetKnown}
use Rattle.mv_syntax.specs.Cursor.{Cursor}
use Rattle.mv_bits.proofs.Windows.{Holds, Holds-pulled}

-- a byte more is in hand
pub SetKnown-pulled : (set whole first : ℕ) (bytes rest : List ℕ) → SetKnown set whole bytes → length bytes ≤ whole → bytes ≡ first ∷ rest → SetKnown set whole rest
SetKnown-pulled set whole first bytes rest h fits e = record {
  within = h.within;
  known = λ n.
      let size : length bytes ≡ suc (length rest) = ap length e in
      let at : whole - length bytes + suc n ≡ whole - length rest + n = omega arith in
      ap (λ b. has_one (byte_bits (drop (suc n) b))) (sym e) ∙ h.known (suc n) ∙ ap (λ k. nat_lt k set) at;
}

-- the fields of a reader, as its loops keep them
pub record Keeps (count word : ℕ) (bytes : List ℕ) (whole set : ℕ) (cursor : Cursor) : Type 0 where
  pub holds : Holds count word bytes whole cursor
  pub set_known : SetKnown set whole bytes

pub Keeps-pulled : (count word first whole set : ℕ) (bytes rest : List ℕ) (cursor : Cursor) → Keeps count word bytes whole set cursor → count < 56 → first < 2 ^ 8 → bytes ≡ first ∷ rest → Keeps (count + 8) (bit_or (word * 2 ^ 8 % 2 ^ 64) first) rest whole set cursor
Keeps-pulled count word first whole set bytes rest cursor h room byte split =
    let fits : length bytes ≤ whole = omega (arith, h.holds.within) in
    record {
      holds = Holds-pulled count word first whole bytes rest cursor h.holds room byte split;
      set_known = SetKnown-pulled set whole first bytes rest h.set_known fits split;
    }

-- no bytes are left
pub SetKnown-none : (set whole : ℕ) → set ≤ whole → SetKnown set whole []
unfolding has_one byte_bits
SetKnown-none set whole h = record { within = h; known = λ n. past n (le-ltb (whole - 0 + n) set (omega arith)) }
  where
    past : (n : ℕ) → nat_lt (whole - 0 + n) set ≡ false → has_one (byte_bits (drop n [])) ≡ nat_lt (whole - 0 + n) set
    past zero e = sym e
    past (suc n) e = sym e

-- whether a bit is set in what is left
pub SetKnown-here : (set whole : ℕ) (bytes : List ℕ) → SetKnown set whole bytes → has_one (byte_bits bytes) ≡ nat_lt (whole - length bytes) set
SetKnown-here set whole bytes h = let at : whole - length bytes + 0 ≡ whole - length bytes = omega arith in h.known 0 ∙ ap (λ k. nat_lt k set) at

-- ---- the search
cons-has_one : (byte : ℕ) (bytes : List ℕ) → byte < 256 → has_one (byte_bits (byte ∷ bytes)) ≡ not (nat_eq byte 0) || has_one (byte_bits bytes)
unfolding byte_bits
cons-has_one byte bytes small =
    let low : byte % 2 ^ 8 ≡ byte = mod-eq_of_lt small in
    has_one-append (u_bits 8 byte) (byte_bits bytes)
    ∙ ap (λ x. x || has_one (byte_bits bytes)) (has_one-u_bits 8 byte ∙ ap (λ n. not (nat_eq n 0)) low)

or_true : (x : Bool) → x || true ≡ true
or_true true = refl
or_true false = refl

has_set : (i : ℕ) (bytes : List ℕ) → ((k : ℕ) → get_or bytes k 0 < 256) → get_or bytes i 0 ≢ 0 → has_one (byte_bits bytes) ≡ true
has_set zero [] small some = absurd (some refl)
has_set (suc i) [] small some = absurd (some refl)
has_set zero (byte ∷ bytes) small some =
    cons-has_one byte bytes (small 0) ∙ ap (λ b. not b || has_one (byte_bits bytes)) (ne_eqb byte 0 some)
has_set (suc i) (byte ∷ bytes) small some =
    cons-has_one byte bytes (small 0)
    ∙ ap (λ x. not (nat_eq byte 0) || x) (has_set i bytes (λ k. small (suc k)) some)
    ∙ or_true (not (nat_eq byte 0))

-- only zeros stand from `set` on
abbrev pub ZerosFrom : ℕ → List ℕ → Type 0
ZerosFrom set bytes = (n : ℕ) → set ≤ n → has_one (byte_bits (drop n bytes)) ≡ false

no_has_one : (bytes : List ℕ) → length bytes ≡ 0 → has_one (byte_bits bytes) ≡ false
unfolding has_one byte_bits
no_has_one [] e = refl
no_has_one (byte ∷ bytes) e = absurd (omega arith)

pub ZerosFrom-end : (set : ℕ) (bytes : List ℕ) → set ≡ length bytes → ZerosFrom set bytes
ZerosFrom-end set bytes e = λ n h. no_has_one (drop n bytes) (omega (arith, length-drop n bytes))

pub ZerosFrom-before : (set : ℕ) (bytes : List ℕ) → ((k : ℕ) → get_or bytes k 0 < 256) → 0 < set → set ≤ length bytes → get_or bytes (set - 1) 0 ≡ 0 → ZerosFrom set bytes → ZerosFrom (set - 1) bytes
ZerosFrom-before set bytes small some fits none h = λ n low.
    elim (cases_lt n set) [
      | inl below ↦
          let at : n ≡ set - 1 = omega arith in
          let inside : n < length bytes = omega arith in
          let byte : get_or bytes n 0 ≡ 0 = ap (λ k. get_or bytes k 0) at ∙ none in
          let past : set ≤ suc n = omega arith in
          ap (λ b. has_one (byte_bits b)) (drop-cons bytes n 0 inside)
          ∙ cons-has_one (get_or bytes n 0) (drop (suc n) bytes) (small n)
          ∙ ap₂ (λ b x. not (nat_eq b 0) || x) byte (h (suc n) past)
      | inr above ↦ h n above
    ]

pub set_found : (set : ℕ) (bytes : List ℕ) → ((k : ℕ) → get_or bytes k 0 < 256) → 0 < set → get_or bytes (set - 1) 0 ≢ 0 → ZerosFrom set bytes → (n : ℕ) → has_one (byte_bits (drop n bytes)) ≡ nat_lt n set
set_found set bytes small some byte h n =
    elim (cases_lt n set) [
      | inl below ↦
          let at : n + (set - 1 - n) ≡ set - 1 = omega arith in
          let here : get_or (drop n bytes) (set - 1 - n) 0 ≡ get_or bytes (set - 1) 0 = get_or-drop n bytes (set - 1 - n) 0 ∙ ap (λ k. get_or bytes k 0) at in
          has_set (set - 1 - n) (drop n bytes) (λ k. rw (get_or-drop n bytes k 0) (small (n + k))) (λ e. byte (sym here ∙ e))
          ∙ sym (lt-ltb n set below)
      | inr above ↦ h n above ∙ sym (le-ltb n set above)
    ]

pub set_none : (bytes : List ℕ) → ZerosFrom 0 bytes → (n : ℕ) → has_one (byte_bits (drop n bytes)) ≡ nat_lt n 0
set_none bytes h n = let low : 0 ≤ n = omega arith in h n low ∙ sym (le-ltb n 0 low)
