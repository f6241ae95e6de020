-- The search for the least power of two that is not below a number.
use Rattle.std.proofs.Common.{◌≡◌, ◌≢◌, ℕ, zero, suc, ◌+◌, ◌-◌, ◌*◌, ◌%◌, ◌^◌, ◌<◌, ◌≤◌, Bool, true, false, refl, ap, subst, arith, add-one, add-zero, pow_mono}
use Rattle.std.proofs.lemmas.Bool.{lt-leb, le-leb, leb-true, leb-false, eqb-true, eqb-false}
use Rattle.std.specs.Prelude.{nat_le, nat_eq, if◌then◌else◌}
use Rattle.mv_fields.specs.Widths.{clog2, IsClog2}
use Rattle.mv_fields.specs.inner.Search.{first_from}

pub clog2_begin : (x : ℕ) → clog2 x ≡ first_from (32 - 0) 0 (λ j. nat_le x (2 ^ j))
unfolding clog2
clog2_begin x = refl

one_less : (k : ℕ) → k < 32 → 32 - k ≡ suc (32 - (k + 1))
one_less k h = omega arith

-- 2 ^ k is below: the search goes on
pub clog2_next : (k x : ℕ) → k < 32 → 2 ^ k < x → first_from (32 - k) k (λ j. nat_le x (2 ^ j)) ≡ first_from (32 - (k + 1)) (k + 1) (λ j. nat_le x (2 ^ j))
clog2_next k x h far = rw (one_less k h, lt-leb x (2 ^ k) far, add-one k) refl

-- 2 ^ k is not below: the search ends
pub clog2_end : (k x : ℕ) → k < 32 → x ≤ 2 ^ k → first_from (32 - k) k (λ j. nat_le x (2 ^ j)) ≡ k
clog2_end k x h near = rw (one_less k h, le-leb x (2 ^ k) near) refl

-- 2 ^ k is one shifted to the left in 32 bits
pub one_shifted : (k : ℕ) → k ≤ 31 → 1 * 2 ^ k % 4294967296 ≡ 2 ^ k
one_shifted k h = let most : 2 ^ k ≤ 2 ^ 31 = pow_mono h in omega arith

-- ---- the least one
shifted : (a b : ℕ) → a + suc b ≡ suc a + b
shifted a b = omega arith

-- a power of two that is below a number has a lower exponent than one that is not
later : (a j n : ℕ) → 2 ^ a < n → n ≤ 2 ^ j → a ≤ j → suc a ≤ j
later a j n below h le = go (nat_eq a j) refl
  where
    go : (b : Bool) → nat_eq a j ≡ b → suc a ≤ j
    go true e = absurd (let same : 2 ^ a ≡ 2 ^ j = ap (λ m. 2 ^ m) (eqb-true a j e) in omega arith)
    go false e = let differ : a ≢ j = eqb-false a j e in omega arith

-- the search finds a number for which the test holds, where it holds for one that is tried, and none before it
found : (more k x : ℕ) → x ≤ 2 ^ (k + more) → ((j : ℕ) → x ≤ 2 ^ j → k ≤ j) → IsClog2 x (first_from more k (λ j. nat_le x (2 ^ j)))
found zero k x last none = record { enough = subst (λ n. x ≤ 2 ^ n) (add-zero k) last; least = none }
found (suc more) k x last none =
    go (nat_le x (2 ^ k)) refl (λ below. found more (suc k) x (subst (λ n. x ≤ 2 ^ n) (shifted k more) last) (λ j h. later k j x below h (none j h)))
  where
    go : (b : Bool) → nat_le x (2 ^ k) ≡ b → (2 ^ k < x → IsClog2 x (first_from more (suc k) (λ j. nat_le x (2 ^ j))))
        → IsClog2 x (if b then k else first_from more (suc k) (λ j. nat_le x (2 ^ j)))
    go true e next = record { enough = leb-true x (2 ^ k) e; least = none }
    go false e next = next (leb-false x (2 ^ k) e)

pub clog2_least : (x : ℕ) → x ≤ 2 ^ 32 → IsClog2 x (clog2 x)
unfolding clog2
clog2_least x h = found 32 0 x h (λ j _. omega arith)
