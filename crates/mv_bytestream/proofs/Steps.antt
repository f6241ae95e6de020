-- One step from a start code to the next.
use Rattle.std.proofs.Common.{◌≡◌, ℕ, ◌+◌, ◌-◌, ◌<◌, ◌≤◌, false, not, List, [], ◌∷◌, ◌++◌, length, take, drop, map, All, ◌⊎◌, inl, inr, refl, ap, sym, ◌∙◌, subst, arith, slice_range, append_assoc, Option, Some, IsSomeAnd, Result, Ok, Err, OnOk}
use Rattle.mv_units.specs.Shown.{refused_leading}
use Rattle.std.specs.List.{position_from}
use Rattle.std.proofs.lemmas.List.{length-take, length-drop, map-append}
use Rattle.std.proofs.lemmas.List.Elements.{All-append, All-cons, All-nil}
use Rattle.std.proofs.lemmas.List.Folds.{drop_split}
use Rattle.std.proofs.Math.Seq.{drop-length}
use Rattle.std.proofs.Math.Nat.{eq-or-lt_of_le}
use Rattle.mv_units.specs.Units.{start_code, has_code, is_zero, front as front_piece, leading, trimmed, NalUnit, units, units_at, pieces, placed}
use Rattle.mv_units.proofs.Parts.{BeginsWithCode, front-is, units_at-front, units_at-piece}
use Rattle.mv_bytestream.specs.declared.splitting.Span.{Span}
use Rattle.mv_bytestream.specs.Spans.{CodeOrEnd, LiesIn, unit_at}

-- what follows a code or the end
begins : (s : List ℕ) (at : ℕ) → CodeOrEnd s at → BeginsWithCode (drop at s)
begins s at h = go (eq-or-lt_of_le h.inside)
  where
    go : (at ≡ length s) ⊎ (at < length s) → BeginsWithCode (drop at s)
    go (inl is) = inl (ap (λ n. drop n s) is ∙ drop-length s)
    go (inr below) = inr (drop (at + 3) s, h.code below)

-- a code has three bytes
pub code-fits : (s : List ℕ) (at : ℕ) → CodeOrEnd s at → at < length s → at + 3 ≤ length s
code-fits s at h below =
    let is : length (drop at s) ≡ length (start_code ++ drop (at + 3) s) = ap length (h.code below) in
    omega (arith, length-drop at s)

-- the first piece from the front on
pub units-front : (s : List ℕ) (front : ℕ) → has_code (slice_range s 0 front) ≡ false → CodeOrEnd s front → units s ≡ units_at front (drop front s)
units-front s front clean h =
    let long : 0 + length (slice_range s 0 front) ≡ front = let inside : front ≤ length s = h.inside in omega (arith, length-take (front - 0) s) in
    ap units (drop_split s 0 front (omega arith))
    ∙ units_at-front 0 (slice_range s 0 front) (drop front s) clean (begins s front h)
    ∙ ap (λ n. units_at n (drop front s)) long

pub leading-front : (s : List ℕ) (front : ℕ) → has_code (slice_range s 0 front) ≡ false → CodeOrEnd s front →
    leading s ≡ position_from (λ b. not (is_zero b)) 0 (take front s)
leading-front s front clean h =
    let same : front - 0 ≡ front = omega arith in
    ap (position_from (λ b. not (is_zero b)) 0)
    (ap front_piece (drop_split s 0 front (omega arith))
    ∙ front-is (slice_range s 0 front) (drop front s) clean (begins s front h)
    ∙ ap (λ n. take n s) same)

-- the unit at a code and those from the next code on
step : (s : List ℕ) (at next to : ℕ) → CodeOrEnd s at → at < length s → CodeOrEnd s next → at + 3 ≤ next →
    has_code (slice_range s (at + 3) next) ≡ false → slice_range s (at + 3) to ≡ trimmed (slice_range s (at + 3) next) →
    units_at at (drop at s) ≡ unit_at s (record { from = at + 3; to = to }) ∷ units_at next (drop next s)
step s at next to here below there low clean same =
    let inside : next ≤ length s = there.inside in
    let long : length (slice_range s (at + 3) next) ≡ next - (at + 3) = omega (arith, length-take (next - (at + 3)) (drop (at + 3) s), length-drop (at + 3) s) in
    let place : at + 3 + length (slice_range s (at + 3) next) ≡ next = omega arith in
    ap (units_at at) (here.code below ∙ ap (λ r. start_code ++ r) (drop_split s (at + 3) next low))
    ∙ units_at-piece at (slice_range s (at + 3) next) (drop next s) clean (begins s next there)
    ∙ ap (λ bytes. record { place = at + 3; bytes = bytes } ∷ units_at (at + 3 + length (slice_range s (at + 3) next)) (drop next s)) (sym same)
    ∙ ap (λ n. unit_at s (record { from = at + 3; to = to }) ∷ units_at n (drop next s)) place

-- a span more
pub units-push : (s : List ℕ) (all : List NalUnit) (spans : List Span) (at next to : ℕ) → CodeOrEnd s at → at < length s → CodeOrEnd s next → at + 3 ≤ next →
    has_code (slice_range s (at + 3) next) ≡ false → slice_range s (at + 3) to ≡ trimmed (slice_range s (at + 3) next) →
    all ≡ map (unit_at s) spans ++ units_at at (drop at s) →
    all ≡ map (unit_at s) (spans ++ record { from = at + 3; to = to } ∷ []) ++ units_at next (drop next s)
units-push s all spans at next to here below there low clean same is =
    is
    ∙ ap (λ us. map (unit_at s) spans ++ us) (step s at next to here below there low clean same)
    ∙ sym (append_assoc (map (unit_at s) spans) (unit_at s (record { from = at + 3; to = to }) ∷ []) (units_at next (drop next s)))
    ∙ ap (λ us. us ++ units_at next (drop next s)) (sym (map-append (unit_at s) spans (record { from = at + 3; to = to } ∷ [])))

pub inside-push : (s : List ℕ) (spans : List Span) (from to : ℕ) → from ≤ to → to ≤ length s → All (LiesIn s) spans → All (LiesIn s) (spans ++ record { from = from; to = to } ∷ [])
inside-push s spans from to low high all = All-append (LiesIn s) spans _ all (All-cons (LiesIn s) _ [] (low, high) (All-nil (LiesIn s)))

-- at the end no units are left
pub units-end : (s : List ℕ) (at : ℕ) → length s ≤ at → at ≤ length s → units_at at (drop at s) ≡ []
unfolding pieces placed
units-end s at high low = let is : at ≡ length s = omega arith in ap (λ r. units_at at r) (ap (λ n. drop n s) is ∙ drop-length s)

-- a string is refused at its leading byte
pub refused-at : (s : List ℕ) (at : ℕ) → leading s ≡ Some at → IsSomeAnd (leading s) (λ n. refused_leading at ≡ refused_leading n)
refused-at s at is = subst (λ (o : Option ℕ). IsSomeAnd o (λ n. refused_leading at ≡ refused_leading n)) (sym is) refl

-- what holds whatever a call answers
pub anyway : {T E : Type 0} (P : Type 0) (r : Result T E) → P → OnOk r P
anyway P (Ok x) h = h
anyway P (Err e) h = tt
