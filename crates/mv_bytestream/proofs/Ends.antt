-- Zero bytes at the end of a part of a string.
use Rattle.std.proofs.Common.{◌≡◌, ◌≢◌, ℕ, suc, ◌+◌, ◌-◌, ◌<◌, ◌≤◌, List, [], ◌∷◌, ◌++◌, length, take, drop, get_or, refl, ap, sym, ◌∙◌, subst, arith, slice_range, min, zero, replicate, Result, Ok, Err, IsOk, is_ok, if◌then◌else◌, length-append}
use Rattle.std.proofs.lemmas.Bool.{false≢true}
use Rattle.std.proofs.lemmas.List.{get_or-take, get_or-drop, length-take, length-drop}
use Rattle.std.proofs.Math.Seq.{take-suc}
use Rattle.mv_units.specs.Units.{trimmed}
use Rattle.mv_units.proofs.Trimmed.{trimmed-zero, trimmed-whole}

-- a part with one byte more
slice-more : (s : List ℕ) (from to : ℕ) → from ≤ to → to < length s → slice_range s from (to + 1) ≡ slice_range s from to ++ get_or s to 0 ∷ []
slice-more s from to low high =
    let count : to + 1 - from ≡ suc (to - from) = omega arith in
    let within : to - from < length (drop from s) = omega (arith, length-drop from s) in
    let there : from + (to - from) ≡ to = omega arith in
    ap (λ n. take n (drop from s)) count
    ∙ take-suc (drop from s) (to - from) 0 within
    ∙ ap (λ b. slice_range s from to ++ b ∷ []) (get_or-drop from s (to - from) 0 ∙ ap (λ n. get_or s n 0) there)

-- a zero byte at the end is trimmed
pub trimmed-less : (s : List ℕ) (from to : ℕ) → from < to → to ≤ length s → get_or s (to - 1) 0 ≡ 0 → trimmed (slice_range s from (to - 1)) ≡ trimmed (slice_range s from to)
trimmed-less s from to low high is =
    let more : to - 1 + 1 ≡ to = omega arith in
    let part = slice-more s from (to - 1) (omega arith) (omega arith) in
    sym (ap (λ n. trimmed (slice_range s from n)) (sym more)
    ∙ ap trimmed part
    ∙ ap (λ b. trimmed (slice_range s from (to - 1) ++ b ∷ [])) is
    ∙ trimmed-zero (slice_range s from (to - 1)))

-- a part whose last byte isn't zero stays whole
pub trimmed-stays : (s : List ℕ) (from to : ℕ) → from < to → to ≤ length s → get_or s (to - 1) 0 ≢ 0 → trimmed (slice_range s from to) ≡ slice_range s from to
trimmed-stays s from to low high isnt = trimmed-whole (slice_range s from to) (λ is. isnt (sym (last-is (length-part (length-take (to - from) (drop from s)))) ∙ is))
  where
    length-part : length (slice_range s from to) ≡ min (to - from) (length (drop from s)) → length (slice_range s from to) ≡ to - from
    length-part e = omega (arith, length-drop from s)

    last-is : length (slice_range s from to) ≡ to - from → get_or (slice_range s from to) (length (slice_range s from to) - 1) 0 ≡ get_or s (to - 1) 0
    last-is e =
        let within : to - from - 1 < to - from = omega arith in
        let there : from + (to - from - 1) ≡ to - 1 = omega arith in
        ap (λ n. get_or (slice_range s from to) (n - 1) 0) e
        ∙ get_or-take (to - from) (drop from s) (to - from - 1) 0 within
        ∙ get_or-drop from s (to - from - 1) 0
        ∙ ap (λ n. get_or s n 0) there

-- an empty part
pub trimmed-none : (s : List ℕ) (from to : ℕ) → to ≡ from → trimmed (slice_range s from to) ≡ slice_range s from to
unfolding trimmed
trimmed-none s from to is = let none : to - from ≡ 0 = omega arith in subst (λ n. trimmed (take n (drop from s)) ≡ take n (drop from s)) (sym none) refl

-- bytes whose last isn't zero stay whole
get-last : (s : List ℕ) (b : ℕ) → get_or (s ++ b ∷ []) (length s) 0 ≡ b
get-last [] b = refl
get-last (a ∷ s) b = get-last s b

pub nonzero-last : (s : List ℕ) (b : ℕ) → b ≢ 0 → trimmed (s ++ b ∷ []) ≡ s ++ b ∷ []
nonzero-last s b h =
    let n : length (s ++ b ∷ []) - 1 ≡ length s = omega (arith, length-append s (b ∷ [])) in
    trimmed-whole (s ++ b ∷ []) (λ e. h (sym (get-last s b) ∙ ap (λ n. get_or (s ++ b ∷ []) n 0) (sym n) ∙ e))

-- no more than two zero bytes
pub taken-zeros : (n : ℕ) → n ≤ 2 → take {A = ℕ} n (0 ∷ 0 ∷ []) ≡ replicate n 0
taken-zeros zero low = refl
taken-zeros (suc zero) low = refl
taken-zeros (suc (suc zero)) low = refl
taken-zeros (suc (suc (suc n))) low = absurd (omega arith)

-- what a call left that succeeds
pub ok-items : {X Y : Type 0} (r : Result X Y) (xs ys zs : List ℕ) → IsOk r → xs ≡ (if is_ok r then ys else zs) → xs ≡ ys
ok-items (Ok x) xs ys zs ok is = is
ok-items (Err x) xs ys zs ok is = absurd (false≢true ok)
