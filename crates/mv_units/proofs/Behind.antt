-- What stands behind bytes that end in one other than zero: no code reaches over their end.
use Rattle.std.proofs.Common.{◌≡◌, ℕ, zero, suc, Bool, true, false, cond, ◌&&◌, List, [], ◌∷◌, ◌++◌, length, replicate, refl, ap, sym, ◌∙◌, append_assoc, append-nil}
use Rattle.std.proofs.lemmas.Bool.{or_parts, or_from, and_parts, eqb-true}
use Rattle.std.proofs.lemmas.List.Folds.{list_all-append}
use Rattle.mv_units.specs.Units.{is_code, is_zero, all_zero, has_code, lead, pieces, trimmed}
use Rattle.mv_units.proofs.Pieces.{pieces-byte}
use Rattle.mv_units.proofs.Longer.{isnt_code, isnt_second}
use Rattle.mv_units.proofs.Trimmed.{trimmed-zero}

-- bytes that end in one other than zero, or are none
abbrev pub IsTrimmed : List ℕ → Type 0
IsTrimmed u = trimmed u ≡ u

-- the same of what follows the first byte
pub trimmed-tail : (a : ℕ) (u : List ℕ) → IsTrimmed (a ∷ u) → (all_zero (a ∷ u) ≡ false) × IsTrimmed u
unfolding trimmed
trimmed-tail a u h = go (all_zero (a ∷ u)) refl
  where
    go : (t : Bool) → all_zero (a ∷ u) ≡ t → (all_zero (a ∷ u) ≡ false) × IsTrimmed u
    go true is = absurd (let none : [] ≡ a ∷ u = ap (λ t. cond t [] (a ∷ trimmed u)) (sym is) ∙ h in cc)
    go false is =
        let same : a ∷ trimmed u ≡ a ∷ u = ap (λ t. cond t [] (a ∷ trimmed u)) (sym is) ∙ h in
        let rest : trimmed u ≡ u = cc in
        (is, rest)

-- the pieces with bytes more at the front of the first
abbrev pub lead_all : List ℕ → List (List ℕ) → List (List ℕ)
lead_all u [] = []
lead_all u (q ∷ qs) = (u ++ q) ∷ qs

lead_all-none : (qs : List (List ℕ)) → qs ≡ lead_all [] qs
lead_all-none [] = refl
lead_all-none (q ∷ qs) = refl

lead-lead_all : (a : ℕ) (u : List ℕ) (qs : List (List ℕ)) → lead a (lead_all u qs) ≡ lead_all (a ∷ u) qs
lead-lead_all a u [] = refl
lead-lead_all a u (q ∷ qs) = refl

pub one_nonzero : (a : ℕ) → IsTrimmed (a ∷ []) → is_zero a ≡ false
one_nonzero a h = go (is_zero a) (trimmed-tail a [] h).0
  where
    go : (t : Bool) → (t && true) ≡ false → t ≡ false
    go true e = e
    go false e = refl

pub pieces-behind : (u w : List ℕ) → IsTrimmed u → has_code u ≡ false → pieces (u ++ w) ≡ lead_all u (pieces w)
unfolding pieces has_code
pieces-behind [] w is clean = lead_all-none (pieces w)
pieces-behind (a ∷ []) [] is clean = refl
pieces-behind (a ∷ []) (b ∷ []) is clean = refl
pieces-behind (a ∷ []) (b ∷ c ∷ w) is clean =
    pieces-byte a b c w (isnt_code a b c (one_nonzero a is))
    ∙ ap (lead a) (lead_all-none (pieces (b ∷ c ∷ w)))
    ∙ lead-lead_all a [] (pieces (b ∷ c ∷ w))
pieces-behind (a ∷ b ∷ []) [] is clean = refl
pieces-behind (a ∷ b ∷ []) (c ∷ w) is clean =
    let rest : IsTrimmed (b ∷ []) = (trimmed-tail a (b ∷ []) is).1 in
    pieces-byte a b c w (isnt_second a b c (one_nonzero b rest))
    ∙ ap (lead a) (pieces-behind (b ∷ []) (c ∷ w) rest refl)
    ∙ lead-lead_all a (b ∷ []) (pieces (c ∷ w))
pieces-behind (a ∷ b ∷ c ∷ u) w is clean =
    let rest : IsTrimmed (b ∷ c ∷ u) = (trimmed-tail a (b ∷ c ∷ u) is).1 in
    let parts = or_parts (is_code a b c) (has_code (b ∷ c ∷ u)) clean in
    pieces-byte a b c (u ++ w) parts.0
    ∙ ap (lead a) (pieces-behind (b ∷ c ∷ u) w rest parts.1)
    ∙ lead-lead_all a (b ∷ c ∷ u) (pieces w)

-- bytes before others hold no code where the whole holds none
pub has_code-front : (u w : List ℕ) → has_code (u ++ w) ≡ false → has_code u ≡ false
unfolding has_code
has_code-front [] w h = refl
has_code-front (a ∷ []) w h = refl
has_code-front (a ∷ b ∷ []) w h = refl
has_code-front (a ∷ b ∷ c ∷ u) w h =
    let parts = or_parts (is_code a b c) (has_code (b ∷ c ∷ (u ++ w))) h in
    or_from _ _ parts.0 (has_code-front (b ∷ c ∷ u) w parts.1)

-- zero bytes at the end go, and other bytes before them stay
pub trimmed-zeros : (u : List ℕ) (n : ℕ) → trimmed (u ++ replicate n 0) ≡ trimmed u
trimmed-zeros u zero = ap trimmed (append-nil u)
trimmed-zeros u (suc n) =
    ap trimmed (sym (append_assoc u (0 ∷ []) (replicate n 0))) ∙ trimmed-zeros (u ++ 0 ∷ []) n ∙ trimmed-zero u

pub trimmed-append : (u w : List ℕ) → IsTrimmed u → trimmed (u ++ w) ≡ u ++ trimmed w
unfolding trimmed
trimmed-append [] w is = refl
trimmed-append (a ∷ u) w is =
    let parts = trimmed-tail a u is in
    ap (λ t. cond t [] (a ∷ trimmed (u ++ w))) (list_all-append is_zero (a ∷ u) w ∙ ap (λ t. t && all_zero w) parts.0)
    ∙ ap (λ rest. a ∷ rest) (trimmed-append u w parts.1)

-- a string is what is left of it, and zero bytes
all_zeros : (s : List ℕ) → all_zero s ≡ true → s ≡ replicate (length s) 0
all_zeros [] h = refl
all_zeros (a ∷ s) h =
    let parts = and_parts (is_zero a) (all_zero s) h in
    let first : a ≡ 0 = eqb-true a 0 parts.0 in
    let rest = all_zeros s parts.1 in
    cc

pub zeros_behind : (s : List ℕ) → (n : ℕ) × (s ≡ trimmed s ++ replicate n 0)
unfolding trimmed
zeros_behind [] = (0, refl)
zeros_behind (a ∷ s) = go (all_zero (a ∷ s)) refl (zeros_behind s)
  where
    go : (t : Bool) → all_zero (a ∷ s) ≡ t → (n : ℕ) × (s ≡ trimmed s ++ replicate n 0) → (n : ℕ) × (a ∷ s ≡ cond t [] (a ∷ trimmed s) ++ replicate n 0)
    go true is rest = (length (a ∷ s), all_zeros (a ∷ s) is)
    go false is (n, rest) = (n, ap (λ r. a ∷ r) rest)

pub trimmed-twice : (s : List ℕ) → IsTrimmed (trimmed s)
trimmed-twice s = go (zeros_behind s)
  where
    go : (n : ℕ) × (s ≡ trimmed s ++ replicate n 0) → IsTrimmed (trimmed s)
    go (n, is) = sym (ap trimmed is ∙ trimmed-zeros (trimmed s) n)
