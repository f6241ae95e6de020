-- The steps of the loops that list the deltas of a set.
use Rattle.std.proofs.Common.{◌≡◌, ℕ, zero, suc, ◌+◌, ◌<◌, ◌≤◌, List, [], ◌∷◌, ◌++◌, length, get_or, take, drop, reverse, map, ℤ, ◌+ℤ◌, refl, sym, ap, ap₂, ◌∙◌, append_assoc, arith, add-one}
use Rattle.std.specs.Prelude.{nat_eq}
use Rattle.std.specs.List.{filter}
use Rattle.std.proofs.lemmas.List.{reverse-append, map-append, take_more, take_at, drop_at}
use Rattle.std.proofs.lemmas.List.Elements.{filter-append}
use Rattle.std.proofs.Math.Seq.{drop-cons}
use Rattle.mv_short_sets.specs.ShortSetValue.{ShortSetValue}
use Rattle.mv_short_sets.specs.declared.delta.Delta.{Delta}
use Rattle.mv_short_sets.specs.declared.delta.Side.{Side}
use Rattle.mv_short_sets.specs.declared.delta.Side.TheVariants.{Before, After}
use Rattle.mv_short_sets.specs.Deltas.{at_distance, steps, delta_rps, Candidate, moved, is_taken, with_flag, taken, on_side, predicted, IsSided}

-- ---- one picture more of a set that is coded directly
pub steps_turn : (side : Side) (far next j : ℕ) (minus1 flags : List ℕ) (out more total : List Delta) → j < length minus1 → length flags ≡ length minus1
    → next ≡ far + get_or minus1 j 0 + 1
    → more ≡ out ++ record { delta = at_distance side next; used = nat_eq (get_or flags j 0) 1 } ∷ []
    → out ++ steps side far (drop j minus1) (drop j flags) ≡ total
    → more ++ steps side next (drop (j + 1) minus1) (drop (j + 1) flags) ≡ total
steps_turn side far next j minus1 flags out more total h k e is rest =
    let flag : j < length flags = omega arith in
    let here : steps side far (drop j minus1) (drop j flags) ≡ steps side far (get_or minus1 j 0 ∷ drop (j + 1) minus1) (get_or flags j 0 ∷ drop (j + 1) flags) =
    rw (add-one j) (ap₂ (steps side far) (drop-cons minus1 j 0 h) (drop-cons flags j 0 flag)) in
    rw is
    (append_assoc out (record { delta = at_distance side next; used = nat_eq (get_or flags j 0) 1 } ∷ []) (steps side next (drop (j + 1) minus1) (drop (j + 1) flags))
    ∙ ap (λ n. out ++ (record { delta = at_distance side n; used = nat_eq (get_or flags j 0) 1 } ∷ steps side n (drop (j + 1) minus1) (drop (j + 1) flags))) e
    ∙ ap (λ l. out ++ l) (sym here)
    ∙ rest)

pub steps_done : (side : Side) (far j : ℕ) (minus1 flags : List ℕ) → length minus1 ≤ j → steps side far (drop j minus1) (drop j flags) ≡ []
steps_done side far j minus1 flags h = ap (λ l. steps side far l (drop j flags)) (none_left j minus1 h)
  where
    none_left : (n : ℕ) (xs : List ℕ) → length xs ≤ n → drop n xs ≡ []
    none_left zero [] h = refl
    none_left (suc n) [] h = refl
    none_left zero (x ∷ xs) h = absurd (omega arith)
    none_left (suc n) (x ∷ xs) h = none_left n xs (omega arith)

-- ---- one candidate more of a predicted set
pub taken-append : (side : Side) (s : ShortSetValue) (cs ds : List Candidate) → taken side s (cs ++ ds) ≡ taken side s cs ++ taken side s ds
taken-append side s cs ds =
    ap (map (with_flag s)) (filter-append (is_taken side s) cs ds) ∙ map-append (with_flag s) (filter (is_taken side s) cs) (filter (is_taken side s) ds)

moved-append : (d : ℤ) (first : ℕ) (some more : List Delta) → moved d first (some ++ more) ≡ moved d first some ++ moved d (first + length some) more
moved-append d first [] more = ap (λ j. moved d j more) (omega arith)
moved-append d first (one ∷ some) more =
    ap (λ l. record { delta = one.delta +ℤ d; flags = first } ∷ l)
    (moved-append d (suc first) some more ∙ ap (λ j. moved d (suc first) some ++ moved d j more) (omega arith))

length-first : {A : Type 0} (j : ℕ) (xs : List A) → j ≤ length xs → length (take j xs) ≡ j
length-first zero xs h = refl
length-first (suc j) [] h = absurd (omega arith)
length-first (suc j) (x ∷ xs) h = ap suc (length-first j xs (omega arith))

-- from the last to the first: j are left, and then the last of them is taken
pub backward_turn : (side : Side) (s : ShortSetValue) (d : ℤ) (first j before : ℕ) (some : List Delta) (x : Delta) (out more total : List Delta) → j < length some → before ≡ j + 1
    → more ≡ out ++ taken side s (record { delta = (get_or some j x).delta +ℤ d; flags = first + j } ∷ [])
    → out ++ taken side s (reverse (moved d first (take before some))) ≡ total
    → more ++ taken side s (reverse (moved d first (take j some))) ≡ total
backward_turn side s d first j before some x out more total h e is rest =
    let c : List Candidate = record { delta = (get_or some j x).delta +ℤ d; flags = first + j } ∷ [] in
    let end : moved d first (take before some) ≡ moved d first (take j some) ++ c =
    ap (λ l. moved d first l) (ap (λ n. take n some) e ∙ take_more some j x h)
    ∙ moved-append d first (take j some) (get_or some j x ∷ [])
    ∙ ap (λ n. moved d first (take j some) ++ (record { delta = (get_or some j x).delta +ℤ d; flags = first + n } ∷ [])) (length-first j some (omega arith)) in
    let split : taken side s (reverse (moved d first (take before some))) ≡ taken side s c ++ taken side s (reverse (moved d first (take j some))) =
    ap (λ l. taken side s (reverse l)) end
    ∙ ap (taken side s) (reverse-append (moved d first (take j some)) c)
    ∙ taken-append side s c (reverse (moved d first (take j some))) in
    rw is
    (append_assoc out (taken side s c) (taken side s (reverse (moved d first (take j some))))
    ∙ ap (λ l. out ++ l) (sym split) ∙ rest)

-- from the first to the last: the next one is taken
pub forward_turn : (side : Side) (s : ShortSetValue) (d : ℤ) (first j : ℕ) (some : List Delta) (x : Delta) (out more total : List Delta) → j < length some
    → more ≡ out ++ taken side s (record { delta = (get_or some j x).delta +ℤ d; flags = first + j } ∷ [])
    → out ++ taken side s (moved d (first + j) (drop j some)) ≡ total
    → more ++ taken side s (moved d (first + (j + 1)) (drop (j + 1) some)) ≡ total
forward_turn side s d first j some x out more total h is rest =
    let c : List Candidate = record { delta = (get_or some j x).delta +ℤ d; flags = first + j } ∷ [] in
    let begin : moved d (first + j) (drop j some) ≡ c ++ moved d (first + (j + 1)) (drop (j + 1) some) =
    rw (add-one j) (ap (λ l. moved d (first + j) l) (drop-cons some j x h)
    ∙ ap (λ n. c ++ moved d n (drop (suc j) some)) (omega arith)) in
    let split : taken side s (moved d (first + j) (drop j some)) ≡ taken side s c ++ taken side s (moved d (first + (j + 1)) (drop (j + 1) some)) =
    ap (taken side s) begin ∙ taken-append side s c (moved d (first + (j + 1)) (drop (j + 1) some)) in
    rw is
    (append_assoc out (taken side s c) (taken side s (moved d (first + (j + 1)) (drop (j + 1) some)))
    ∙ ap (λ l. out ++ l) (sym split) ∙ rest)

pub forward_done : (side : Side) (s : ShortSetValue) (d : ℤ) (n j : ℕ) (some : List Delta) → length some ≤ j → taken side s (moved d n (drop j some)) ≡ []
forward_done side s d n j some h = ap (λ l. taken side s (moved d n l)) (none_left j some h)
  where
    none_left : (k : ℕ) (xs : List Delta) → length xs ≤ k → drop k xs ≡ []
    none_left zero [] h = refl
    none_left (suc k) [] h = refl
    none_left zero (x ∷ xs) h = absurd (omega arith)
    none_left (suc k) (x ∷ xs) h = none_left k xs (omega arith)

-- ---- the two sides of a reference set
pub before_half : (some : List Delta) → IsSided some → take (length (on_side Before some)) some ≡ on_side Before some
before_half some h = ap (take (length (on_side Before some))) (sym h.sided) ∙ take_at (on_side Before some) (on_side After some) (length (on_side Before some)) refl

pub after_half : (some : List Delta) → IsSided some → drop (length (on_side Before some)) some ≡ on_side After some
after_half some h = ap (drop (length (on_side Before some))) (sym h.sided) ∙ drop_at (on_side Before some) (on_side After some) (length (on_side Before some)) refl

-- the two sides together
pub both_sides : (ref : List Delta) (s : ShortSetValue) (n : ℕ) (d : ℤ) (before after none one both : List Delta) → IsSided ref → n ≡ length (on_side Before ref)
    → before ≡ take n ref → after ≡ drop n ref → d ≡ delta_rps s → none ≡ []
    → one ≡ none ++ taken Before s (reverse (moved d (length before) after) ++ record { delta = d; flags = length before + length after } ∷ moved d 0 before)
    → both ≡ one ++ taken After s (reverse (moved d 0 before) ++ record { delta = d; flags = length before + length after } ∷ moved d (length before) after)
    → both ≡ predicted ref s
unfolding predicted
both_sides ref s n d before after none one both h count front back diff empty first second =
    let s0 : before ≡ on_side Before ref = front ∙ ap (λ k. take k ref) count ∙ before_half ref h in
    let s1 : after ≡ on_side After ref = back ∙ ap (λ k. drop k ref) count ∙ after_half ref h in
    second
    ∙ rw (first, empty)
    (rw (s0, s1, diff) refl)
