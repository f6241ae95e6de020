-- A search for the start code prefix, in the words of pieces.
use Rattle.std.proofs.Common.{◌≡◌, ℕ, zero, suc, ◌+◌, ◌-◌, ◌<◌, ◌≤◌, Bool, true, false, ◌==◌, ◌&&◌, List, [], ◌∷◌, ◌++◌, length, take, drop, get_or, refl, ap, sym, ◌∙◌, subst, arith, slice_range, min}
use Rattle.std.proofs.lemmas.Bool.{or_from, and_parts, eqb-true}
use Rattle.std.proofs.lemmas.List.{get_or-take, length-take, length-drop, drop-drop, take_rest}
use Rattle.std.proofs.Math.Seq.{drop-cons}
use Rattle.memchr.specs.Find.{OccursAt, Nowhere}
use Rattle.mv_units.specs.Units.{start_code, is_code, has_code}
use Rattle.mv_bytestream.specs.Spans.{CodeOrEnd}

-- three bytes that are a code are one that occurs
here : (a b c : ℕ) (s : List ℕ) → is_code a b c ≡ true → OccursAt (a ∷ b ∷ c ∷ s) start_code 0
here a b c s is =
    let all = and_parts ((a == 0) && (b == 0)) (c == 1) is in
    let two = and_parts (a == 0) (b == 0) all.0 in
    record {
      fits = omega arith;
      reads = λ j low. reads j low (eqb-true a 0 two.0) (eqb-true b 0 two.1) (eqb-true c 1 all.1);
    }
  where
    reads : (j : ℕ) → j < 3 → a ≡ 0 → b ≡ 0 → c ≡ 1 → get_or (a ∷ b ∷ c ∷ s) (0 + j) 0 ≡ get_or start_code j 0
    reads zero low x y z = x
    reads (suc zero) low x y z = y
    reads (suc (suc zero)) low x y z = z
    reads (suc (suc (suc j))) low x y z = absurd (omega arith)

-- what occurs behind the first byte
later : (a : ℕ) (s : List ℕ) (k : ℕ) → OccursAt s start_code k → OccursAt (a ∷ s) start_code (suc k)
later a s k h = record {
  fits = let fits : k + length start_code ≤ length s = h.fits in omega arith;
  reads = λ j low. ap (λ n. get_or (a ∷ s) n 0) (shifted j) ∙ h.reads j low;
}
  where
    shifted : (j : ℕ) → suc k + j ≡ suc (k + j)
    shifted j = omega arith

-- a string in which no code occurs
pub clean-nowhere : (s : List ℕ) → ((k : ℕ) → OccursAt s start_code k → ⊥) → has_code s ≡ false
unfolding has_code
clean-nowhere [] never = refl
clean-nowhere (a ∷ []) never = refl
clean-nowhere (a ∷ b ∷ []) never = refl
clean-nowhere (a ∷ b ∷ c ∷ s) never =
    or_from (is_code a b c) (has_code (b ∷ c ∷ s)) (isnt (is_code a b c) refl) (clean-nowhere (b ∷ c ∷ s) (λ k h. never (suc k) (later a (b ∷ c ∷ s) k h)))
  where
    isnt : (t : Bool) → is_code a b c ≡ t → is_code a b c ≡ false
    isnt true is = absurd (never 0 (here a b c s is))
    isnt false is = is

-- the bytes before the first place where a code occurs
pub clean-before : (s : List ℕ) (n : ℕ) → Nowhere (OccursAt s start_code) 0 n → has_code (take n s) ≡ false
clean-before s n never = clean-nowhere (take n s) (λ k h. never k (omega arith) (within k h) (whole k h))
  where
    long : (k : ℕ) → OccursAt (take n s) start_code k → k + 3 ≤ min n (length s)
    long k h = subst (λ m. k + 3 ≤ m) (length-take n s) h.fits

    within : (k : ℕ) → OccursAt (take n s) start_code k → k < n
    within k h = omega (arith, long k h)

    whole : (k : ℕ) → OccursAt (take n s) start_code k → OccursAt s start_code k
    whole k h = record {
      fits = omega (arith, long k h);
      reads = λ j low. let near : k + j < n = omega (arith, long k h) in sym (get_or-take n s (k + j) 0 near) ∙ h.reads j low;
    }

-- a place where a code occurs
drop-code : (s : List ℕ) (k : ℕ) → OccursAt s start_code k → drop k s ≡ start_code ++ drop (k + 3) s
drop-code s k h =
    let fits : k + 3 ≤ length s = h.fits in
    let low : k < length s = omega arith in
    let mid : suc k < length s = omega arith in
    let high : suc (suc k) < length s = omega arith in
    let one : k + 0 ≡ k = omega arith in
    let two : k + 1 ≡ suc k = omega arith in
    let three : k + 2 ≡ suc (suc k) = omega arith in
    let next : k + 3 ≡ suc (suc (suc k)) = omega arith in
    let a : get_or s k 0 ≡ 0 = ap (λ n. get_or s n 0) (sym one) ∙ h.reads 0 (omega arith) in
    let b : get_or s (suc k) 0 ≡ 0 = ap (λ n. get_or s n 0) (sym two) ∙ h.reads 1 (omega arith) in
    let c : get_or s (suc (suc k)) 0 ≡ 1 = ap (λ n. get_or s n 0) (sym three) ∙ h.reads 2 (omega arith) in
    let first = drop-cons s k 0 low in
    let second = drop-cons s (suc k) 0 mid in
    let third = drop-cons s (suc (suc k)) 0 high in
    cc

-- what a search from a place on says of the whole string
pub next-clean : (s : List ℕ) (from at : ℕ) → Nowhere (OccursAt (take (length s - from) (drop from s)) start_code) 0 at → has_code (slice_range s from (from + at)) ≡ false
next-clean s from at never =
    let less : from + at - from ≡ at = omega arith in
    ap (λ n. has_code (take n (drop from s))) less ∙ clean-before (drop from s) at (subst (λ hay. Nowhere (OccursAt hay start_code) 0 at) (take_rest s from) never)

pub next-stands : (s : List ℕ) (from at : ℕ) → from ≤ length s → OccursAt (take (length s - from) (drop from s)) start_code at → CodeOrEnd s (from + at)
next-stands s from at low h =
    let is : OccursAt (drop from s) start_code at = subst (λ hay. OccursAt hay start_code at) (take_rest s from) h in
    let fits : at + 3 ≤ length (drop from s) = is.fits in
    let same : from + (at + 3) ≡ from + at + 3 = omega arith in
    record {
      inside = omega (arith, length-drop from s);
      code = λ _. sym (drop-drop at from s) ∙ drop-code (drop from s) at is ∙ ap (λ r. start_code ++ r) (drop-drop (at + 3) from s ∙ ap (λ n. drop n s) same);
    }

pub none-clean : (s : List ℕ) (from : ℕ) → from ≤ length s → Nowhere (OccursAt (take (length s - from) (drop from s)) start_code) 0 (length (take (length s - from) (drop from s)) + 1) → has_code (slice_range s from (length s)) ≡ false
none-clean s from low never =
    let same : from + (length s - from) ≡ length s = omega arith in
    let bound : length s - from ≤ length (take (length s - from) (drop from s)) + 1 = omega (arith, length-take (length s - from) (drop from s), length-drop from s) in
    ap (λ n. has_code (slice_range s from n)) (sym same) ∙ next-clean s from (length s - from) (λ k least below. never k least (omega arith))
