-- Lists that begin with others, and the units that were taken whole among all.
use Rattle.std.proofs.Common.{◌≡◌, ℕ, ◌+◌, ◌-◌, ◌≤◌, Bool, true, false, List, [], ◌∷◌, ◌++◌, take, drop, length, refl, ap, sym, ◌∙◌, arith, length-append}
use Rattle.std.proofs.lemmas.List.{take-append-drop, length-take-le, length-drop, take-append-le}
use Rattle.std.proofs.Math.Seq.{take-length}
use Rattle.mv_units.specs.Shown.{StartsWith, whole_units}
use Rattle.mv_units.specs.Units.{is_code, lead, pieces, placed, units}
use Rattle.mv_units.proofs.Pieces.{pieces-at, pieces-byte}

-- a list that begins with another
pub starts : {A : Type 0} (xs ys : List A) → StartsWith xs ys → (more : List A) × (xs ≡ ys ++ more)
starts xs ys h = (drop (length ys) xs, sym (take-append-drop (length ys) xs) ∙ ap (λ front. front ++ drop (length ys) xs) h)

pub starts-take : {A : Type 0} (xs ys : List A) (n : ℕ) → StartsWith xs ys → n ≤ length ys → take n xs ≡ take n ys
starts-take xs ys n h within =
    let found = starts xs ys h in
    ap (take n) found.1 ∙ take-append-le n ys found.0 within

pub starts-length : {A : Type 0} (xs ys : List A) → StartsWith xs ys → length ys ≤ length xs
starts-length xs ys h =
    let found = starts xs ys h in
    omega (arith, ap length found.1, length-append ys found.0)

-- the units taken whole are the first units
pub whole-starts : (ended : Bool) (s : List ℕ) → StartsWith (units s) (whole_units ended s)
whole-starts true s = take-length (units s)
whole-starts false s =
    let n = length (units s) - 1 in
    ap (λ k. take k (units s)) (length-take-le n (units s) (omega arith))

-- a string has no more units than bytes
lead-length : (a : ℕ) (ps : List (List ℕ)) → length (lead a ps) ≡ length ps
lead-length a [] = refl
lead-length a (p ∷ ps) = refl

pieces-count : (s : List ℕ) → length (pieces s) ≤ length s + 1
unfolding pieces
pieces-count [] = omega arith
pieces-count (a ∷ []) = omega arith
pieces-count (a ∷ b ∷ []) = omega arith
pieces-count (a ∷ b ∷ c ∷ s) = go (is_code a b c) refl (pieces-count s) (pieces-count (b ∷ c ∷ s))
  where
    go : (k : Bool) → is_code a b c ≡ k → length (pieces s) ≤ length s + 1 → length (pieces (b ∷ c ∷ s)) ≤ length (b ∷ c ∷ s) + 1 → length (pieces (a ∷ b ∷ c ∷ s)) ≤ length (a ∷ b ∷ c ∷ s) + 1
    go true is rest next = let e = ap length (pieces-at a b c s is) in omega arith
    go false is rest next = let e = ap length (pieces-byte a b c s is) ∙ lead-length a (pieces (b ∷ c ∷ s)) in omega arith

placed-length : (at : ℕ) (ps : List (List ℕ)) → length (placed at ps) ≡ length ps
unfolding placed
placed-length at [] = refl
placed-length at (p ∷ ps) = let rest = placed-length (at + length p + 3) ps in omega arith

pub units-count : (s : List ℕ) → length (units s) ≤ length s
units-count s = omega (arith, length-drop 1 (placed 0 (pieces s)), placed-length 0 (pieces s), pieces-count s)

pub whole-count : (ended : Bool) (s : List ℕ) → length (whole_units ended s) ≤ length s
whole-count ended s =
    let units = starts-length (units s) (whole_units ended s) (whole-starts ended s) in
    omega (arith, units-count s)
