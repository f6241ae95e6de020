-- Alignment bits are the bits of one number, so a call that reads them reads u(n) and compares.
use Rattle.std.proofs.Common.{◌≡◌, ℕ, ◌+◌, ◌-◌, ◌^◌, ◌<◌, ◌≢◌, Bool, true, List, [], ◌++◌, length, Result, Ok, Err, refl, sym, ap, ◌∙◌, arith, add-one}
use Rattle.mv_syntax.specs.Bits.{Fault, short, u_bits, take_bits, align_bits, trailing_bits, to_byte_end}
use Rattle.mv_syntax.specs.Table.{Table}
use Rattle.mv_syntax.specs.inner.Writer.{put}
use Rattle.mv_syntax.specs.inner.Reader.{read, behind}
use Rattle.mv_syntax.specs.Words.{whole_bytes}
use Rattle.mv_syntax.proofs.BitLaws.{u_bits-one, u_bits-ones, take_bits-u_bits, take_bits-printed}
use Rattle.mv_syntax.proofs.TableLaws.{ok_value, ok_err, behind-there, behind-found, behind-failed}

-- the bits of a number stand there exactly where u(n) reads it
pub behind_u : (n v : ℕ) (b rest : List Bool) → v < 2 ^ n → take_bits n 0 b ≡ Ok (v, rest) → behind (u_bits n v) b ≡ Ok rest
behind_u n v b rest h e = rw (take_bits-printed n b v rest e).0 (behind-there (u_bits n v) rest)

pub behind_other : (n v w : ℕ) (b rest : List Bool) → v < 2 ^ n → take_bits n 0 b ≡ Ok (w, rest) → v ≢ w → behind (u_bits n v) b ≡ Err short
behind_other n v w b rest h e differ = go (behind (u_bits n v) b) refl
  where
    go : (x : Result (List Bool) Fault) → behind (u_bits n v) b ≡ x → x ≡ Err short
    go (Ok more) found =
        let there : b ≡ u_bits n v ++ more = behind-found (u_bits n v) b more found in
        absurd (differ (ap (λ p. p.0) (ok_value (v, more) (w, rest) (sym (take_bits-u_bits n v more h) ∙ sym (ap (take_bits n 0) there) ∙ e))))
    go (Err fault) found = ap (λ f. Err f) (behind-failed (u_bits n v) b fault found)

pub behind_short : (n v : ℕ) (b : List Bool) (fault : Fault) → v < 2 ^ n → take_bits n 0 b ≡ Err fault → behind (u_bits n v) b ≡ Err short
behind_short n v b fault h e = go (behind (u_bits n v) b) refl
  where
    go : (x : Result (List Bool) Fault) → behind (u_bits n v) b ≡ x → x ≡ Err short
    go (Ok more) found =
        let there : b ≡ u_bits n v ++ more = behind-found (u_bits n v) b more found in
        absurd (ok_err (v, more) fault (sym (take_bits-u_bits n v more h) ∙ sym (ap (take_bits n 0) there) ∙ e))
    go (Err other) found = ap (λ f. Err f) (behind-failed (u_bits n v) b other found)

-- ones up to the byte's end, and a one with zeros behind it, as the bits of numbers
pub align_ones : (place : ℕ) → align_bits true place ≡ u_bits (to_byte_end place) (2 ^ to_byte_end place - 1)
unfolding align_bits
align_ones place = sym (u_bits-ones (to_byte_end place))

pub trailing_one : (place : ℕ) → trailing_bits place ≡ u_bits (to_byte_end (place + 1) + 1) (2 ^ to_byte_end (place + 1))
unfolding trailing_bits align_bits
trailing_one place =
    let n : ℕ = to_byte_end (place + 1) in
    rw (add-one n) (sym (u_bits-one n))

none_before : (n : ℕ) → n - 0 ≡ n
none_before n = omega arith

-- a header's bits are put, and then a one and zeros up to the byte's end
pub whole_bytes_put : {A : Type 0} (t : Table A) (v : A) → put (whole_bytes t) v [] ≡ put t v [] ++ trailing_bits (length (put t v []))
whole_bytes_put t v = rw (none_before (length (put t v []))) refl

pub whole_bytes_read : {A : Type 0} (t : Table A) (b : List Bool) (v : A) (rest more : List Bool) → read t b ≡ Ok (v, rest)
    → behind (trailing_bits (length b - length rest)) rest ≡ Ok more → read (whole_bytes t) b ≡ Ok (v, more)
whole_bytes_read t b v rest more e there = rw (e, there) refl

pub whole_bytes_short : {A : Type 0} (t : Table A) (b : List Bool) (v : A) (rest : List Bool) → read t b ≡ Ok (v, rest)
    → behind (trailing_bits (length b - length rest)) rest ≡ Err short → read (whole_bytes t) b ≡ Err short
whole_bytes_short t b v rest e there = rw (e, there) refl

pub whole_bytes_fault : {A : Type 0} (t : Table A) (b : List Bool) (fault : Fault) → read t b ≡ Err fault → read (whole_bytes t) b ≡ Err fault
whole_bytes_fault t b fault e = rw e refl
