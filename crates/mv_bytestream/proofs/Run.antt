-- A search for two zero bytes in a row, in the words of what may stand in a unit.
use Rattle.std.proofs.Common.{◌≡◌, ◌≢◌, ℕ, zero, suc, ◌+◌, ◌-◌, ◌<◌, ◌≤◌, Bool, true, false, ◌==◌, ◌&&◌, ◌||◌, List, [], ◌∷◌, length, take, get_or, refl, ap, sym, ◌∙◌, arith}
use Rattle.std.proofs.lemmas.Bool.{or_from, eqb-true}
use Rattle.std.proofs.lemmas.List.{get_or-take, length-take-le}
use Rattle.memchr.specs.Find.{OccursAt, Nowhere}
use Rattle.mv_units.specs.Units.{has_code, trimmed}
use Rattle.mv_units.specs.Rules.{begins_emulation, above_three, has_emulation}
use Rattle.mv_units.proofs.Trimmed.{trimmed-whole}

abbrev two_zeros : List ℕ
two_zeros = 0 ∷ 0 ∷ []

-- no two zero bytes stand in a row below a place
abbrev Apart : List ℕ → ℕ → Type 0
Apart s n = (k : ℕ) → k + 1 < n → get_or s k 0 ≡ 0 → get_or s (k + 1) 0 ≡ 0 → ⊥

occurs : (s : List ℕ) (k : ℕ) → k + 2 ≤ length s → get_or s k 0 ≡ 0 → get_or s (k + 1) 0 ≡ 0 → OccursAt s two_zeros k
occurs s k fits a b = record { fits = omega arith; reads = λ j low. reads j low }
  where
    none : k + 0 ≡ k
    none = omega arith

    reads : (j : ℕ) → j < 2 → get_or s (k + j) 0 ≡ get_or two_zeros j 0
    reads zero low = ap (λ n. get_or s n 0) none ∙ a
    reads (suc zero) low = b
    reads (suc (suc j)) low = absurd (omega arith)

apart : (s : List ℕ) (m n : ℕ) → Nowhere (OccursAt s two_zeros) 0 m → n ≤ length s → n ≤ m → Apart s n
apart s m n never inside low k below a b = never k (omega arith) (omega arith) (occurs s k (omega arith) a b)

-- so they hold no code and nothing that may not stand in a unit
clean : (s : List ℕ) (n : ℕ) → Apart s n → has_code (take n s) ≡ false
unfolding has_code
clean [] zero h = refl
clean [] (suc n) h = refl
clean (a ∷ s) zero h = refl
clean (a ∷ []) (suc zero) h = refl
clean (a ∷ []) (suc (suc n)) h = refl
clean (a ∷ b ∷ s) (suc zero) h = refl
clean (a ∷ b ∷ s) (suc (suc zero)) h = refl
clean (a ∷ b ∷ []) (suc (suc (suc n))) h = refl
clean (a ∷ b ∷ c ∷ s) (suc (suc (suc n))) h = or_from _ _ (first (a == 0) (b == 0) refl refl) (clean (b ∷ c ∷ s) (suc (suc n)) (λ k low x y. h (suc k) (omega arith) x (shift k y)))
  where
    shift : (k : ℕ) → get_or (b ∷ c ∷ s) (k + 1) 0 ≡ 0 → get_or (a ∷ b ∷ c ∷ s) (suc k + 1) 0 ≡ 0
    shift k y = let same : suc k + 1 ≡ suc (k + 1) = omega arith in ap (λ n. get_or (a ∷ b ∷ c ∷ s) n 0) same ∙ y

    first : (x y : Bool) → (a == 0) ≡ x → (b == 0) ≡ y → (x && y && (c == 1)) ≡ false
    first true true p q = absurd (h 0 (omega arith) (eqb-true a 0 p) (eqb-true b 0 q))
    first true false p q = refl
    first false y p q = refl

quiet : (s : List ℕ) (n : ℕ) → Apart s n → has_emulation (take n s) ≡ false
unfolding has_emulation
quiet [] zero h = refl
quiet [] (suc n) h = refl
quiet (a ∷ s) zero h = refl
quiet (a ∷ []) (suc zero) h = refl
quiet (a ∷ []) (suc (suc n)) h = refl
quiet (a ∷ b ∷ s) (suc zero) h = refl
quiet (a ∷ b ∷ s) (suc (suc n)) h = or_from _ _ (first (take n s) (a == 0) (b == 0) refl refl) (quiet (b ∷ s) (suc n) (λ k low x y. h (suc k) (omega arith) x (shift k y)))
  where
    shift : (k : ℕ) → get_or (b ∷ s) (k + 1) 0 ≡ 0 → get_or (a ∷ b ∷ s) (suc k + 1) 0 ≡ 0
    shift k y = let same : suc k + 1 ≡ suc (k + 1) = omega arith in ap (λ n. get_or (a ∷ b ∷ s) n 0) same ∙ y

    first : (r : List ℕ) (x y : Bool) → (a == 0) ≡ x → (b == 0) ≡ y → begins_emulation (a ∷ b ∷ r) ≡ false
    first [] x y p q = refl
    first (c ∷ r) true true p q = absurd (h 0 (omega arith) (eqb-true a 0 p) (eqb-true b 0 q))
    first (c ∷ r) true false p q = ap (λ t. (a == 0) && t && ((c == 0) || (c == 2) || ((c == 3) && above_three r))) q ∙ off (a == 0) _
      where
        off : (t u : Bool) → (t && false && u) ≡ false
        off true u = refl
        off false u = refl
    first (c ∷ r) false y p q = ap (λ t. t && (b == 0) && ((c == 0) || (c == 2) || ((c == 3) && above_three r))) p

-- and where the last of them isn't zero they end in it
ends : (s : List ℕ) (n : ℕ) → n ≤ length s → (0 < n → get_or s (n - 1) 0 ≢ 0) → trimmed (take n s) ≡ take n s
unfolding trimmed
ends s zero inside last = ap trimmed (none s) ∙ sym (none s)
  where
    none : (s : List ℕ) → take 0 s ≡ []
    none [] = refl
    none (a ∷ s) = refl
ends s (suc n) inside last =
    trimmed-whole (take (suc n) s) (λ e. last (omega arith)
    (let long : length (take (suc n) s) ≡ suc n = length-take-le (suc n) s inside in
    let place : length (take (suc n) s) - 1 ≡ suc n - 1 = omega arith in
    sym (get_or-take (suc n) s (suc n - 1) 0 (omega arith)) ∙ ap (λ k. get_or (take (suc n) s) k 0) (sym place) ∙ e))

-- a byte before a zero byte isn't zero
before-zero : (s : List ℕ) (n m : ℕ) → Nowhere (OccursAt s two_zeros) 0 m → n < length s → n ≤ m → get_or s n 0 ≡ 0 → 0 < n → get_or s (n - 1) 0 ≢ 0
before-zero s n m never inside low is some e =
    let same : n - 1 + 1 ≡ n = omega arith in
    never (n - 1) (omega arith) (omega arith) (occurs s (n - 1) (omega arith) e (ap (λ k. get_or s k 0) same ∙ is))

-- what stands before the first two zero bytes
pub found-clean : (s : List ℕ) (at : ℕ) → Nowhere (OccursAt s two_zeros) 0 at → OccursAt s two_zeros at → has_code (take at s) ≡ false
found-clean s at never h = let fits : at + 2 ≤ length s = h.fits in clean s at (apart s at at never (omega arith) (omega arith))

pub found-quiet : (s : List ℕ) (at : ℕ) → Nowhere (OccursAt s two_zeros) 0 at → OccursAt s two_zeros at → has_emulation (take at s) ≡ false
found-quiet s at never h = let fits : at + 2 ≤ length s = h.fits in quiet s at (apart s at at never (omega arith) (omega arith))

pub found-ends : (s : List ℕ) (at : ℕ) → Nowhere (OccursAt s two_zeros) 0 at → OccursAt s two_zeros at → trimmed (take at s) ≡ take at s
found-ends s at never h =
    let fits : at + 2 ≤ length s = h.fits in
    let none : at ≡ at + 0 = omega arith in
    ends s at (omega arith) (before-zero s at at never (omega arith) (omega arith) (ap (λ k. get_or s k 0) none ∙ h.reads 0 (omega arith)))

-- where they stand nowhere, all, or all but a zero byte at the end
pub none-clean : (s : List ℕ) (n : ℕ) → Nowhere (OccursAt s two_zeros) 0 (length s + 1) → n ≤ length s → has_code (take n s) ≡ false
none-clean s n never low = clean s n (apart s (length s + 1) n never low (omega arith))

pub none-quiet : (s : List ℕ) (n : ℕ) → Nowhere (OccursAt s two_zeros) 0 (length s + 1) → n ≤ length s → has_emulation (take n s) ≡ false
none-quiet s n never low = quiet s n (apart s (length s + 1) n never low (omega arith))

pub less-ends : (s : List ℕ) (n : ℕ) → Nowhere (OccursAt s two_zeros) 0 (length s + 1) → 0 < length s → n ≡ length s - 1 → get_or s (length s - 1) 0 ≡ 0 → trimmed (take n s) ≡ take n s
less-ends s n never some is last = ends s n (omega arith) (before-zero s n (length s + 1) never (omega arith) (omega arith) (ap (λ k. get_or s k 0) is ∙ last))

pub all-ends : (s : List ℕ) (n : ℕ) → n ≡ length s → (0 < length s → get_or s (length s - 1) 0 ≢ 0) → trimmed (take n s) ≡ take n s
all-ends s n is last = ends s n (omega arith) (λ some e. last (omega arith) (ap (λ k. get_or s (k - 1) 0) (sym is) ∙ e))
