-- Bytes that may not stand in a unit begin with a zero byte: those before the first one can be left out.
use Rattle.std.proofs.Common.{◌≡◌, ℕ, zero, suc, ◌+◌, ◌<◌, Bool, true, false, ◌==◌, ◌||◌, List, [], ◌∷◌, length, drop, slice_index, refl, ap, sym, ◌∙◌, arith}
use Rattle.std.proofs.lemmas.List.{drop-drop}
use Rattle.std.proofs.Math.ListN.{drop_of_length-le}
use Rattle.mv_units.specs.Rules.{begins_emulation, has_emulation}
use Rattle.mv_units.specs.Units.{has_code}
use Rattle.mv_lenform.specs.Tests.{begins_code}

-- no zero byte stands before a place
abbrev pub NoZero : List ℕ → ℕ → Type 0
NoZero s i = (k : ℕ) → k < i → (slice_index s k == 0) ≡ true → ⊥

emulation-begins : (t : List ℕ) → has_emulation t ≡ (begins_emulation t || has_emulation (drop 1 t))
unfolding has_emulation
emulation-begins [] = refl
emulation-begins (a ∷ t) = refl

code-begins : (t : List ℕ) → has_code t ≡ (begins_code t || has_code (drop 1 t))
unfolding has_code
code-begins [] = refl
code-begins (a ∷ []) = refl
code-begins (a ∷ b ∷ []) = refl
code-begins (a ∷ b ∷ c ∷ t) = refl

not-zero : (a : ℕ) → ((a == 0) ≡ true → ⊥) → (a == 0) ≡ false
not-zero a h = go (a == 0) refl
  where
    go : (b : Bool) → (a == 0) ≡ b → (a == 0) ≡ false
    go true is = absurd (h is)
    go false is = is

no-emulation : (a : ℕ) (t : List ℕ) → (a == 0) ≡ false → begins_emulation (a ∷ t) ≡ false
no-emulation a [] is = refl
no-emulation a (b ∷ []) is = refl
no-emulation a (b ∷ c ∷ t) is = grind arith

no-code : (a : ℕ) (t : List ℕ) → (a == 0) ≡ false → begins_code (a ∷ t) ≡ false
no-code a [] is = refl
no-code a (b ∷ []) is = refl
no-code a (b ∷ c ∷ t) is = grind arith

pub emulation-skip : (s : List ℕ) (i : ℕ) → NoZero s i → has_emulation s ≡ has_emulation (drop i s)
emulation-skip s zero none = refl
emulation-skip [] (suc i) none = refl
emulation-skip (a ∷ s) (suc i) none =
    emulation-begins (a ∷ s)
    ∙ ap (λ b. b || has_emulation s) (no-emulation a s (not-zero a (none 0 (omega arith))))
    ∙ emulation-skip s i (λ k less. none (suc k) (omega arith))

pub code-skip : (s : List ℕ) (i : ℕ) → NoZero s i → has_code s ≡ has_code (drop i s)
code-skip s zero none = refl
code-skip [] (suc i) none = refl
code-skip (a ∷ s) (suc i) none =
    code-begins (a ∷ s)
    ∙ ap (λ b. b || has_code s) (no-code a s (not-zero a (none 0 (omega arith))))
    ∙ code-skip s i (λ k less. none (suc k) (omega arith))

-- without a zero byte there are none
pub emulation-none : (s : List ℕ) → NoZero s (length s) → has_emulation s ≡ false
unfolding has_emulation
emulation-none s none = emulation-skip s (length s) none ∙ ap has_emulation (drop_of_length-le s (omega arith))

pub code-none : (s : List ℕ) → NoZero s (length s) → has_code s ≡ false
unfolding has_code
code-none s none = code-skip s (length s) none ∙ ap has_code (drop_of_length-le s (omega arith))

-- from one place to the one behind the next zero byte
pub emulation-next : (u : List ℕ) (at i : ℕ) (b : Bool) → NoZero (drop at u) i → b ≡ begins_emulation (drop (at + i) u) → has_emulation (drop at u) ≡ (b || has_emulation (drop (at + i + 1) u))
emulation-next u at i b none is =
    emulation-skip (drop at u) i none
    ∙ ap has_emulation (drop-drop i at u)
    ∙ emulation-begins (drop (at + i) u)
    ∙ ap (λ t. t || has_emulation (drop 1 (drop (at + i) u))) (sym is)
    ∙ ap (λ v. b || has_emulation v) (drop-drop 1 (at + i) u)

pub code-next : (u : List ℕ) (at i : ℕ) (b : Bool) → NoZero (drop at u) i → b ≡ begins_code (drop (at + i) u) → has_code (drop at u) ≡ (b || has_code (drop (at + i + 1) u))
code-next u at i b none is =
    code-skip (drop at u) i none
    ∙ ap has_code (drop-drop i at u)
    ∙ code-begins (drop (at + i) u)
    ∙ ap (λ t. t || has_code (drop 1 (drop (at + i) u))) (sym is)
    ∙ ap (λ v. b || has_code v) (drop-drop 1 (at + i) u)
