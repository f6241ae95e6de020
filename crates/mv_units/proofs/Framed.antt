-- Units that were framed are split again into the same units.
use Rattle.std.proofs.Common.{◌≡◌, ℕ, ◌+◌, false, None, ◌||◌, List, [], ◌∷◌, ◌++◌, length, map, drop, refl, ap, sym, ◌∙◌, append_assoc, append-nil}
use Rattle.std.specs.List.{All, AllByRecursion}
use Rattle.std.proofs.lemmas.List.Elements.{All-head, All-tail}
use Rattle.mv_units.specs.Units.{start_code, is_code, has_code, pieces, leading, trimmed, NalUnit, placed, units}
use Rattle.mv_units.specs.Framing.{frame, long_code, IsFramable}
use Rattle.mv_units.proofs.Pieces.{is_code-zero, pieces-code, pieces-clean}
use Rattle.mv_units.proofs.Trimmed.{trimmed-zero, trimmed-whole}

-- a zero byte at the end closes no code
pub has_code-zero : (p : List ℕ) → has_code (p ++ 0 ∷ []) ≡ has_code p
unfolding has_code
has_code-zero [] = refl
has_code-zero (a ∷ []) = refl
has_code-zero (a ∷ b ∷ []) = ap (λ t. t || false) (is_code-zero a b)
has_code-zero (a ∷ b ∷ c ∷ p) = ap (λ t. is_code a b c || t) (has_code-zero (b ∷ c ∷ p))

-- the bytes of units
abbrev pub bytes_of : List NalUnit → List (List ℕ)
bytes_of us = map (λ (u : NalUnit). u.bytes) us

framed : (at : ℕ) (u : List ℕ) (us : List (List ℕ)) → IsFramable u → AllByRecursion IsFramable us → bytes_of (placed at (pieces (u ++ frame us))) ≡ u ∷ us
unfolding frame placed
framed at u [] is all =
    ap (λ s. bytes_of (placed at (pieces s))) (append-nil u)
    ∙ ap (λ ps. bytes_of (placed at ps)) (pieces-clean u is.clean)
    ∙ ap (λ s. s ∷ []) (trimmed-whole u is.ends)
framed at u (v ∷ us) is all =
    ap (λ s. bytes_of (placed at (pieces s))) (sym (append_assoc u (0 ∷ []) (start_code ++ (v ++ frame us))))
    ∙ ap (λ ps. bytes_of (placed at ps)) (pieces-code (u ++ 0 ∷ []) (v ++ frame us) (has_code-zero u ∙ is.clean))
    ∙ ap (λ rest. trimmed (u ++ 0 ∷ []) ∷ rest) (framed (at + length (u ++ 0 ∷ []) + 3) v us all.0 all.1)
    ∙ ap (λ s. s ∷ v ∷ us) (trimmed-zero u ∙ trimmed-whole u is.ends)

pieces-frame : (u : List ℕ) (us : List (List ℕ)) → pieces (frame (u ∷ us)) ≡ (0 ∷ []) ∷ pieces (u ++ frame us)
unfolding frame has_code
pieces-frame u us = pieces-code (0 ∷ []) (u ++ frame us) refl

each : (us : List (List ℕ)) → All IsFramable us → AllByRecursion IsFramable us
each [] all = tt
each (u ∷ us) all = (All-head IsFramable u us all, each us (All-tail IsFramable u us all))

pub units-frame : (us : List (List ℕ)) → All IsFramable us → bytes_of (units (frame us)) ≡ us
unfolding placed pieces frame
units-frame [] all = refl
units-frame (u ∷ us) all =
    ap (λ ps. bytes_of (drop 1 (placed 0 ps))) (pieces-frame u us) ∙ framed _ u us (All-head IsFramable u us all) (each us (All-tail IsFramable u us all))

pub leading-frame : (us : List (List ℕ)) → leading (frame us) ≡ None
unfolding pieces frame
leading-frame [] = refl
leading-frame (u ∷ us) = refl

-- the byte stream of two lists of units in a row
pub frame-append : (us vs : List (List ℕ)) → frame (us ++ vs) ≡ frame us ++ frame vs
unfolding frame
frame-append [] vs = refl
frame-append (u ∷ us) vs =
    ap (λ rest. long_code ++ (u ++ rest)) (frame-append us vs)
    ∙ ap (λ rest. long_code ++ rest) (sym (append_assoc u (frame us) (frame vs)))
