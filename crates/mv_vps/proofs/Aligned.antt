-- The one bits before an extension, as a call takes and writes them.
use Rattle.std.proofs.Common.{◌≡◌, ℕ, ◌-◌, ◌*◌, ◌<◌, ◌^◌, ◌%◌, ◌≢◌, Bool, true, false, List, [], ◌++◌, length, Option, Some, None, ◌⊎◌, inl, inr, Ok, Err, refl, sym, ap, ◌∙◌, arith, append-nil, lit<}
use Rattle.std.proofs.Math.Pow.{pow-sub-lt}
use Rattle.std.proofs.lemmas.Nat.{one_shl}
use Rattle.mv_syntax.specs.Bits.{Fault, short, take_bits, align_bits, to_byte_end, u_bits}
use Rattle.mv_syntax.specs.Cursor.{Cursor, place}
use Rattle.mv_syntax.specs.Table.{Valid}
use Rattle.mv_syntax.specs.inner.Writer.{put}
use Rattle.mv_syntax.specs.inner.Reader.{read, behind}
use Rattle.mv_syntax.specs.Words.{is_set}
use Rattle.mv_syntax.specs.inner.Filling.{FailsAs}
use Rattle.mv_syntax.proofs.AlignLaws.{behind_u, behind_other, behind_short, align_ones}
use Rattle.mv_syntax.specs.Printed.{Output, bits, lines, printed}
use Rattle.mv_syntax.proofs.PrintedLaws.{printed-bits, printed-text}
use Rattle.mv_fields.specs.Output.{IsText, aligned}
use Rattle.mv_vps.specs.Base.{VpsBaseValue, base, aligned_base}

-- a flag is 1, or another number
pub eq_is : (flag : ℕ) → flag ≡ 1 → is_set flag ≡ true
eq_is flag e = grind arith

pub ne_is : (flag : ℕ) → flag ≢ 1 → is_set flag ≡ false
ne_is flag e = grind arith

-- the number of bits that a call took since it began at the head
pub taken_since : (old new : Cursor) → old.total ≡ length old.left → new.total ≡ old.total → length old.left - length new.left ≡ place new
taken_since old new whole same = ap (λ n. n - length new.left) (sym (same ∙ whole))

pub below_power : (n : ℕ) → 2 ^ n - 1 < 2 ^ n
below_power n = pow-sub-lt n (lit< tt)

-- the number of as many ones as are left in the byte
pub all_ones : (at : ℕ) → 1 * 2 ^ to_byte_end at % 2 ^ 64 - 1 ≡ 2 ^ to_byte_end at - 1
all_ones at = ap (λ p. p - 1) (one_shl (to_byte_end at) 64 (omega arith))

-- these ones stand there, others do, or the bits end
pub ones_there : (n at v : ℕ) (b rest : List Bool) → n ≡ to_byte_end at → 2 ^ n - 1 < 2 ^ n → take_bits n 0 b ≡ Ok (v, rest) → v ≡ 2 ^ n - 1 → behind (align_bits true at) b ≡ Ok rest
ones_there n at v b rest same fits e is =
    ap (λ a. behind a b) (align_ones at ∙ ap (λ k. u_bits k (2 ^ k - 1)) (sym same)) ∙ behind_u n (2 ^ n - 1) b rest fits (e ∙ ap (λ w. Ok (w, rest)) is)

pub ones_other : (n at v : ℕ) (b rest : List Bool) → n ≡ to_byte_end at → 2 ^ n - 1 < 2 ^ n → take_bits n 0 b ≡ Ok (v, rest) → v ≢ 2 ^ n - 1 → behind (align_bits true at) b ≡ Err short
ones_other n at v b rest same fits e other =
    ap (λ a. behind a b) (align_ones at ∙ ap (λ k. u_bits k (2 ^ k - 1)) (sym same)) ∙ behind_other n (2 ^ n - 1) v b rest fits e (λ f. other (sym f))

pub ones_short : (n at : ℕ) (b : List Bool) (fault : Fault) → n ≡ to_byte_end at → 2 ^ n - 1 < 2 ^ n → take_bits n 0 b ≡ Err fault → behind (align_bits true at) b ≡ Err short
ones_short n at b fault same fits e =
    ap (λ a. behind a b) (align_ones at ∙ ap (λ k. u_bits k (2 ^ k - 1)) (sym same)) ∙ behind_short n (2 ^ n - 1) b fault fits e

-- where there is no extension no bits are taken
pub plain_read : (b : List Bool) (v : VpsBaseValue) (rest : List Bool) → read base b ≡ Ok (v, rest) → is_set v.vps_extension_flag ≡ false → read aligned_base b ≡ Ok (v, rest)
unfolding aligned_base
plain_read b v rest e unset = rw (e, unset) refl

pub ones_read : (b : List Bool) (v : VpsBaseValue) (rest more : List Bool) (at : ℕ) → read base b ≡ Ok (v, rest) → is_set v.vps_extension_flag ≡ true
    → length b - length rest ≡ at → behind (align_bits true at) rest ≡ Ok more → read aligned_base b ≡ Ok (v, more)
unfolding aligned_base
ones_read b v rest more at e flag here there = rw (e, flag, here, there) refl

pub ones_fail : (b : List Bool) (v : VpsBaseValue) (rest : List Bool) (at : ℕ) → read base b ≡ Ok (v, rest) → is_set v.vps_extension_flag ≡ true
    → length b - length rest ≡ at → behind (align_bits true at) rest ≡ Err short → read aligned_base b ≡ Err short
unfolding aligned_base
ones_fail b v rest at e flag here there = rw (e, flag, here, there) refl

pub base_fails : (b : List Bool) (fault : Option Fault) → FailsAs fault (read base b) → FailsAs fault (read aligned_base b)
unfolding aligned_base
base_fails b None h = tt
base_fails b (Some fault) h = rw h refl

-- ---- printing
none_before : (n : ℕ) → n - 0 ≡ n
none_before n = omega arith

pub base_valid : (v : VpsBaseValue) → Valid aligned_base v → Valid base v
unfolding aligned_base
base_valid v h = h

pub plain_printed : (v : VpsBaseValue) (old new : Output) → (old ≡ bits []) ⊎ IsText old → is_set v.vps_extension_flag ≡ false → new ≡ printed base v old
    → new ≡ printed aligned_base v old
unfolding aligned_base
plain_printed v old new (inl none) unset e = e ∙ rw (none, printed-bits base [] v [], unset) (ap bits (sym (append-nil (put base v []))))
plain_printed v (bits b) new (inr text) unset e = absurd text
plain_printed v (lines text around) new (inr none) unset e = e

pub ones_printed : (v : VpsBaseValue) (old so_far new : Output) → (old ≡ bits []) ⊎ IsText old → is_set v.vps_extension_flag ≡ true → so_far ≡ printed base v old
    → new ≡ aligned true so_far → new ≡ printed aligned_base v old
unfolding aligned_base
ones_printed v old so_far new (inl none) flag before e =
    e ∙ rw (before, none, printed-bits base [] v [], flag, none_before (length (put base v []))) refl
ones_printed v (bits b) so_far new (inr text) flag before e = absurd text
ones_printed v (lines text around) so_far new (inr none) flag before e = e ∙ rw (before, none, printed-text base v text) refl
