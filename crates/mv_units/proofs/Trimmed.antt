-- A string less all zero bytes at its end.
use Rattle.std.proofs.Common.{◌≡◌, ◌≢◌, ℕ, ◌-◌, Bool, true, false, cond, ◌&&◌, List, [], ◌∷◌, ◌++◌, length, refl, ap, ◌∙◌, arith, slice_index, get_or}
use Rattle.std.proofs.lemmas.Bool.{eqb-true}
use Rattle.mv_units.specs.Units.{is_zero, all_zero, trimmed}

-- a zero byte more at the end
all_zero-zero : (s : List ℕ) → all_zero (s ++ 0 ∷ []) ≡ all_zero s
all_zero-zero [] = refl
all_zero-zero (b ∷ s) = ap (λ t. is_zero b && t) (all_zero-zero s)

pub trimmed-zero : (s : List ℕ) → trimmed (s ++ 0 ∷ []) ≡ trimmed s
unfolding trimmed
trimmed-zero [] = refl
trimmed-zero (b ∷ s) =
    ap (λ t. cond t [] (b ∷ trimmed (s ++ 0 ∷ []))) (all_zero-zero (b ∷ s))
    ∙ ap (λ rest. cond (all_zero (b ∷ s)) [] (b ∷ rest)) (trimmed-zero s)

-- the last byte of a string, behind its first
abbrev pub last_byte : ℕ → List ℕ → ℕ
last_byte b [] = b
last_byte b (c ∷ s) = last_byte c s

pub last-is : (b : ℕ) (s : List ℕ) → get_or (b ∷ s) (length s) 0 ≡ last_byte b s
last-is b [] = refl
last-is b (c ∷ s) = last-is c s

not-all_zero : (b : ℕ) (s : List ℕ) → last_byte b s ≢ 0 → all_zero (b ∷ s) ≡ false
not-all_zero b [] h = go (is_zero b) refl
  where
    go : (t : Bool) → is_zero b ≡ t → (t && true) ≡ false
    go true is = absurd (h (eqb-true b 0 is))
    go false is = refl
not-all_zero b (c ∷ s) h = go (is_zero b) (not-all_zero c s h)
  where
    go : (t : Bool) → all_zero (c ∷ s) ≡ false → (t && all_zero (c ∷ s)) ≡ false
    go true is = is
    go false is = refl

whole : (b : ℕ) (s : List ℕ) → last_byte b s ≢ 0 → trimmed (b ∷ s) ≡ b ∷ s
unfolding trimmed
whole b [] h = ap (λ t. cond t [] (b ∷ [])) (not-all_zero b [] h)
whole b (c ∷ s) h =
    ap (λ t. cond t [] (b ∷ trimmed (c ∷ s))) (not-all_zero b (c ∷ s) h)
    ∙ ap (λ rest. b ∷ rest) (whole c s h)

-- a string whose last byte isn't zero stays whole
pub trimmed-whole : (u : List ℕ) → slice_index u (length u - 1) ≢ 0 → trimmed u ≡ u
unfolding trimmed
trimmed-whole [] h = refl
trimmed-whole (b ∷ s) h = whole b s (λ is. h (ap (λ i. get_or (b ∷ s) i 0) (less_one s) ∙ last-is b s ∙ is))
  where
    less_one : (s : List ℕ) → length (b ∷ s) - 1 ≡ length s
    less_one s = omega arith
