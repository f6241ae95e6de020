-- The units of a string that is cut before its next start code.
use Rattle.std.proofs.Common.{◌≡◌, ℕ, ◌+◌, false, List, [], ◌∷◌, ◌++◌, length, drop, ◌⊎◌, inl, inr, ap, sym, ◌∙◌, append-nil, arith}
use Rattle.mv_units.specs.Units.{start_code, has_code, pieces, front_of, front, trimmed, placed, units_at}
use Rattle.mv_units.proofs.Pieces.{pieces-code, pieces-clean}

-- a string that is empty or begins with a start code
abbrev pub BeginsWithCode : List ℕ → Type 0
BeginsWithCode t = (t ≡ []) ⊎ ((r : List ℕ) × (t ≡ start_code ++ r))

-- the first piece ends there
pub pieces-front : (p t : List ℕ) → has_code p ≡ false → BeginsWithCode t → pieces (p ++ t) ≡ p ∷ drop 1 (pieces t)
unfolding pieces
pieces-front p t clean (inl none) =
    ap (λ r. pieces (p ++ r)) none ∙ ap pieces (append-nil p) ∙ pieces-clean p clean ∙ ap (λ r. p ∷ drop 1 (pieces r)) (sym none)
pieces-front p t clean (inr (r, is)) =
    ap (λ w. pieces (p ++ w)) is ∙ pieces-code p r clean ∙ ap (λ w. p ∷ drop 1 (pieces w)) (sym is)

pub front-is : (p t : List ℕ) → has_code p ≡ false → BeginsWithCode t → front (p ++ t) ≡ p
front-is p t clean begins = ap front_of (pieces-front p t clean begins)

-- the units behind a start code that stands at the front
pub units_at-code : (at : ℕ) (r : List ℕ) → units_at at (start_code ++ r) ≡ placed (at + 3) (pieces r)
unfolding pieces placed
units_at-code at r = let same : at + 0 + 3 ≡ at + 3 = omega arith in ap (λ n. placed n (pieces r)) same

-- the pieces behind the first, which is empty, are the units
units_behind : (at : ℕ) (t : List ℕ) → BeginsWithCode t → placed (at + 3) (drop 1 (pieces t)) ≡ units_at at t
unfolding pieces placed
units_behind at t (inl none) = ap (λ r. placed (at + 3) (drop 1 (pieces r))) none ∙ ap (units_at at) (sym none)
units_behind at t (inr (r, is)) =
    ap (λ w. placed (at + 3) (drop 1 (pieces w))) is ∙ sym (units_at-code at r) ∙ ap (units_at at) (sym is)

-- a string without a start code at the front adds no unit
pub units_at-front : (at : ℕ) (p t : List ℕ) → has_code p ≡ false → BeginsWithCode t → units_at at (p ++ t) ≡ units_at (at + length p) t
unfolding placed
units_at-front at p t clean begins =
    ap (λ ps. drop 1 (placed at ps)) (pieces-front p t clean begins) ∙ units_behind (at + length p) t begins

-- a start code, a piece, and what follows: the first unit is the piece, trimmed
pub units_at-piece : (at : ℕ) (p t : List ℕ) → has_code p ≡ false → BeginsWithCode t →
    units_at at (start_code ++ (p ++ t)) ≡ record { place = at + 3; bytes = trimmed p } ∷ units_at (at + 3 + length p) t
unfolding placed
units_at-piece at p t clean begins =
    units_at-code at (p ++ t)
    ∙ ap (placed (at + 3)) (pieces-front p t clean begins)
    ∙ ap (λ us. record { place = at + 3; bytes = trimmed p } ∷ us) (units_behind (at + 3 + length p) t begins)
