-- The deltas of sets among others: which sides they stand on, how far, and how many they are.
use Rattle.std.proofs.Common.{◌≡◌, ℕ, zero, suc, ◌+◌, ◌*◌, ◌<◌, ◌≤◌, Bool, true, false, ◌&&◌, cond, List, [], ◌∷◌, ◌++◌, length, get_or, take, reverse, ℤ, pos, negsuc, neg_ℤ, ◌+ℤ◌, ◌≤ℤ◌, refl, ap, ap₂, ◌∙◌, append_assoc, append-nil, arith, add-one}
use Rattle.std.specs.List.{filter, All}
use Rattle.std.proofs.lemmas.List.Elements.{filter-append, All-nil, All-cons, All-head, All-tail, All-append, All-filter, All-map, All-weaker}
use Rattle.std.proofs.lemmas.List.{reverse-append}
use Rattle.std.proofs.lemmas.Int.{ints}
use Rattle.std.proofs.lemmas.Bool.{le-ltb, lt-ltb, ltb-true}
use Rattle.std.specs.Prelude.{if◌then◌else◌}
use Rattle.mv_syntax.specs.Table.{EachValid}
use Rattle.mv_syntax.specs.Words.{is_set, or_zero, coded_set}
use Rattle.mv_short_sets.specs.ShortSetValue.{ShortSetValue}
use Rattle.mv_short_sets.specs.declared.delta.Delta.{Delta}
use Rattle.mv_short_sets.specs.declared.delta.Side.{Side}
use Rattle.mv_short_sets.specs.declared.delta.Side.TheVariants.{Before, After}
use Rattle.mv_short_sets.specs.Deltas.{is_on, at_distance, steps, direct, delta_rps, Candidate, moved, is_taken, with_flag, taken, on_side, IsSided, IsNear, predicted, reference, deltas, deltas_behind, deltas_of_each}

-- ---- the deltas of each of some sets
pub each-take : {A : Type 0} (P : List A → A → Type 0) (before vs : List A) (k : ℕ) → EachValid P before vs → EachValid P before (take k vs)
each-take P before vs zero h = tt
each-take P before [] (suc k) h = tt
each-take P before (v ∷ vs) (suc k) h = (h.0, each-take P (before ++ v ∷ []) vs k h.1)

pub deltas_behind-take : (k : ℕ) (earlier : List (List Delta)) (sets : List ShortSetValue) → take k (deltas_behind earlier sets) ≡ deltas_behind earlier (take k sets)
deltas_behind-take zero earlier sets = refl
deltas_behind-take (suc k) earlier [] = refl
deltas_behind-take (suc k) earlier (s ∷ sets) =
    ap (λ l. deltas (length earlier) earlier s ∷ l) (deltas_behind-take k (earlier ++ deltas (length earlier) earlier s ∷ []) sets)

pub length-deltas_behind : (earlier : List (List Delta)) (sets : List ShortSetValue) → length (deltas_behind earlier sets) ≡ length sets
length-deltas_behind earlier [] = refl
length-deltas_behind earlier (s ∷ sets) = ap suc (length-deltas_behind (earlier ++ deltas (length earlier) earlier s ∷ []) sets)

length-one_more : {A : Type 0} (xs : List A) (x : A) (k : ℕ) → length (xs ++ x ∷ []) + k ≡ length xs + suc k
length-one_more [] x k = omega arith
length-one_more (y ∷ xs) x k = omega (arith, length-one_more xs x k)

pub deltas_behind-at : (earlier : List (List Delta)) (sets : List ShortSetValue) (k : ℕ) (x : ShortSetValue) → k < length sets
    → get_or (deltas_behind earlier sets) k [] ≡ deltas (length earlier + k) (earlier ++ deltas_behind earlier (take k sets)) (get_or sets k x)
deltas_behind-at earlier [] k x h = absurd (omega arith)
deltas_behind-at earlier (s ∷ sets) zero x h = rw (append-nil earlier) (ap (λ i. deltas i earlier s) (omega arith))
deltas_behind-at earlier (s ∷ sets) (suc k) x h =
    let own : List Delta = deltas (length earlier) earlier s in
    let more : List (List Delta) = earlier ++ own ∷ [] in
    deltas_behind-at more sets k x (omega arith)
    ∙ ap₂ (λ i e. deltas i e (get_or sets k x)) (length-one_more earlier own k) (append_assoc earlier (own ∷ []) (deltas_behind more (take k sets)))

pub length-deltas_of_each : (sets : List ShortSetValue) → length (deltas_of_each sets) ≡ length sets
unfolding deltas_of_each
length-deltas_of_each sets = length-deltas_behind [] sets

-- the deltas of set k, from those of the sets before it
pub deltas-at : (sets : List ShortSetValue) (k : ℕ) (x : ShortSetValue) → k < length sets
    → get_or (deltas_of_each sets) k [] ≡ deltas k (deltas_of_each (take k sets)) (get_or sets k x)
unfolding deltas_of_each
deltas-at sets k x h = deltas_behind-at [] sets k x h ∙ ap (λ i. deltas i (deltas_behind [] (take k sets)) (get_or sets k x)) (omega arith)

-- the deltas of the first k sets
pub deltas_of_each-take : (k : ℕ) (sets : List ShortSetValue) → take k (deltas_of_each sets) ≡ deltas_of_each (take k sets)
unfolding deltas_of_each
deltas_of_each-take k sets = deltas_behind-take k [] sets

-- ---- sides
abbrev pub IsOn : Side → Delta → Type 0
IsOn side one = is_on side one.delta ≡ true

before_not_after : (d : ℤ) → is_on Before d ≡ true → is_on After d ≡ false
before_not_after (pos n) h = absurd (omega (arith, ltb-true n 0 h))
before_not_after (negsuc n) h = refl

after_not_before : (d : ℤ) → is_on After d ≡ true → is_on Before d ≡ false
after_not_before (pos n) h = le-ltb n 0 (omega arith)
after_not_before (negsuc n) h = cc

-- a filter that all pass, and one that none pass
filter-all : {A : Type 0} (p : A → Bool) (xs : List A) → All (λ x. p x ≡ true) xs → filter p xs ≡ xs
filter-all p [] h = refl
filter-all p (x ∷ xs) h = rw (All-head (λ y. p y ≡ true) x xs h) (ap (λ l. x ∷ l) (filter-all p xs (All-tail (λ y. p y ≡ true) x xs h)))

filter-none : {A : Type 0} (p : A → Bool) (xs : List A) → All (λ x. p x ≡ false) xs → filter p xs ≡ []
filter-none p [] h = refl
filter-none p (x ∷ xs) h = rw (All-head (λ y. p y ≡ false) x xs h) (filter-none p xs (All-tail (λ y. p y ≡ false) x xs h))

-- what a filter keeps passes it
filtered : {A : Type 0} (p : A → Bool) (xs : List A) → All (λ x. p x ≡ true) (filter p xs)
filtered p [] = All-nil (λ x. p x ≡ true)
filtered {A} p (x ∷ xs) = go (p x) refl (filtered p xs)
  where
    go : (b : Bool) → p x ≡ b → All (λ y. p y ≡ true) (filter p xs) → All (λ y. p y ≡ true) (cond b (x ∷ filter p xs) (filter p xs))
    go true e rest = All-cons (λ y. p y ≡ true) x (filter p xs) e rest
    go false e rest = rest

both_true : (a b : Bool) → (a && b) ≡ true → a ≡ true
both_true true b h = refl
both_true false b h = h

at_distance-is_on : (side : Side) (n : ℕ) → is_on side (at_distance side (suc n)) ≡ true
at_distance-is_on Before n = refl
at_distance-is_on After n = lt-ltb 0 (suc n) (omega arith)

steps-on : (side : Side) (far : ℕ) (minus1 flags : List ℕ) → All (IsOn side) (steps side far minus1 flags)
steps-on side far [] flags = All-nil (IsOn side)
steps-on side far (m ∷ more) [] = All-nil (IsOn side)
steps-on side far (m ∷ more) (flag ∷ flags) =
    let here : is_on side (at_distance side (far + m + 1)) ≡ true = rw (add-one (far + m)) (at_distance-is_on side (far + m)) in
    All-cons (IsOn side) (record { delta = at_distance side (far + m + 1); used = is_set flag }) (steps side (far + m + 1) more flags)
    here (steps-on side (far + m + 1) more flags)

taken-on : (side : Side) (s : ShortSetValue) (cs : List Candidate) → All (IsOn side) (taken side s cs)
taken-on side s cs =
    All-map (IsOn side) (with_flag s) (filter (is_taken side s) cs)
    (All-weaker (λ c. is_taken side s c ≡ true) (λ c. is_on side c.delta ≡ true) (λ c h. both_true (is_on side c.delta) _ h) (filter (is_taken side s) cs)
    (filtered (is_taken side s) cs))

pub two_sides : (before after : List Delta) → All (IsOn Before) before → All (IsOn After) after → IsSided (before ++ after)
two_sides before after h k = record { sided = ap₂ (λ a b. a ++ b) first second }
  where
    first : on_side Before (before ++ after) ≡ before
    first = filter-append (λ one. is_on Before one.delta) before after
        ∙ ap₂ (λ a b. a ++ b) (filter-all (λ one. is_on Before one.delta) before h)
        (filter-none (λ one. is_on Before one.delta) after (All-weaker (IsOn After) (λ one. is_on Before one.delta ≡ false) (λ one e. after_not_before one.delta e) after k))
        ∙ append-nil before

    second : on_side After (before ++ after) ≡ after
    second = filter-append (λ one. is_on After one.delta) before after
        ∙ ap₂ (λ a b. a ++ b)
        (filter-none (λ one. is_on After one.delta) before (All-weaker (IsOn Before) (λ one. is_on After one.delta ≡ false) (λ one e. before_not_after one.delta e) before h))
        (filter-all (λ one. is_on After one.delta) after k)

pub direct-sided : (s : ShortSetValue) → IsSided (direct s)
unfolding direct
direct-sided s =
    two_sides (steps Before 0 s.delta_poc_s0_minus1 s.used_by_curr_pic_s0_flag) (steps After 0 s.delta_poc_s1_minus1 s.used_by_curr_pic_s1_flag)
    (steps-on Before 0 s.delta_poc_s0_minus1 s.used_by_curr_pic_s0_flag) (steps-on After 0 s.delta_poc_s1_minus1 s.used_by_curr_pic_s1_flag)

pub predicted-sided : (ref : List Delta) (s : ShortSetValue) → IsSided (predicted ref s)
unfolding predicted
predicted-sided ref s = two_sides (taken Before s befores) (taken After s afters) (taken-on Before s befores) (taken-on After s afters)
  where
    s0 : List Delta
    s0 = on_side Before ref

    s1 : List Delta
    s1 = on_side After ref

    own : Candidate
    own = record { delta = delta_rps s; flags = length s0 + length s1 }

    befores : List Candidate
    befores = reverse (moved (delta_rps s) (length s0) s1) ++ own ∷ moved (delta_rps s) 0 s0

    afters : List Candidate
    afters = reverse (moved (delta_rps s) 0 s0) ++ own ∷ moved (delta_rps s) (length s0) s1

pub deltas-sided : (idx : ℕ) (earlier : List (List Delta)) (s : ShortSetValue) → IsSided (deltas idx earlier s)
unfolding deltas
deltas-sided idx earlier s = go (coded_set s.inter_ref_pic_set_prediction_flag)
  where
    go : (c : Bool) → IsSided (if c then predicted (reference idx earlier s.delta_idx_minus1) s else direct s)
    go true = predicted-sided (reference idx earlier s.delta_idx_minus1) s
    go false = direct-sided s

-- ---- distances
abbrev IsNearCandidate : ℕ → Candidate → Type 0
IsNearCandidate n c = (neg_ℤ (pos n) ≤ℤ c.delta) × (c.delta ≤ℤ pos n)

at_distance-near : (side : Side) (n far : ℕ) → far ≤ n → (neg_ℤ (pos n) ≤ℤ at_distance side far) × (at_distance side far ≤ℤ pos n)
at_distance-near Before n far h = (omega (arith, ints), omega (arith, ints))
at_distance-near After n far h = (omega (arith, ints), omega (arith, ints))

pub steps-near : (side : Side) (n far : ℕ) (minus1 flags : List ℕ) → All (λ m. m ≤ 32767) minus1 → far + 32768 * length minus1 ≤ n → All (IsNear n) (steps side far minus1 flags)
steps-near side n far [] flags h k = All-nil (IsNear n)
steps-near side n far (m ∷ more) [] h k = All-nil (IsNear n)
steps-near side n far (m ∷ more) (flag ∷ flags) h k =
    let here : m ≤ 32767 = All-head (λ j. j ≤ 32767) m more h in
    let near : (neg_ℤ (pos n) ≤ℤ at_distance side (far + m + 1)) × (at_distance side (far + m + 1) ≤ℤ pos n) = at_distance-near side n (far + m + 1) (omega arith) in
    All-cons (IsNear n) (record { delta = at_distance side (far + m + 1); used = is_set flag }) (steps side (far + m + 1) more flags)
    (record { not_below = near.0; not_above = near.1 })
    (steps-near side n (far + m + 1) more flags (All-tail (λ j. j ≤ 32767) m more h) (omega arith))

pub near_more : (m n : ℕ) (one : Delta) → m ≤ n → IsNear m one → IsNear n one
near_more m n one h near = record { not_below = omega (arith, ints, near.not_below); not_above = omega (arith, ints, near.not_above) }

pub direct-near : (n : ℕ) (s : ShortSetValue) → All (λ m. m ≤ 32767) s.delta_poc_s0_minus1 → All (λ m. m ≤ 32767) s.delta_poc_s1_minus1
    → length s.delta_poc_s0_minus1 ≤ 16 → length s.delta_poc_s1_minus1 ≤ 16 → 524288 ≤ n → All (IsNear n) (direct s)
unfolding direct
direct-near n s h k few fewer enough =
    All-append (IsNear n) _ _
    (steps-near Before n 0 s.delta_poc_s0_minus1 s.used_by_curr_pic_s0_flag h (omega arith))
    (steps-near After n 0 s.delta_poc_s1_minus1 s.used_by_curr_pic_s1_flag k (omega arith))

delta_rps-near : (s : ShortSetValue) → or_zero s.abs_delta_rps_minus1 ≤ 32767 → (neg_ℤ (pos 32768) ≤ℤ delta_rps s) × (delta_rps s ≤ℤ pos 32768)
delta_rps-near s h = go (coded_set s.delta_rps_sign)
  where
    go : (b : Bool) → (neg_ℤ (pos 32768) ≤ℤ (if b then neg_ℤ (pos (or_zero s.abs_delta_rps_minus1 + 1)) else pos (or_zero s.abs_delta_rps_minus1 + 1)))
        × ((if b then neg_ℤ (pos (or_zero s.abs_delta_rps_minus1 + 1)) else pos (or_zero s.abs_delta_rps_minus1 + 1)) ≤ℤ pos 32768)
    go true = (omega (arith, ints), omega (arith, ints))
    go false = (omega (arith, ints), omega (arith, ints))

moved-near : (n j : ℕ) (d : ℤ) (some : List Delta) → (neg_ℤ (pos 32768) ≤ℤ d) → (d ≤ℤ pos 32768) → All (IsNear n) some → All (IsNearCandidate (n + 32768)) (moved d j some)
moved-near n j d [] low high h = All-nil (IsNearCandidate (n + 32768))
moved-near n j d (one ∷ more) low high h =
    let here : IsNear n one = All-head (IsNear n) one more h in
    All-cons (IsNearCandidate (n + 32768)) (record { delta = one.delta +ℤ d; flags = j }) (moved d (suc j) more)
    (omega (arith, ints, here.not_below), omega (arith, ints, here.not_above))
    (moved-near n (suc j) d more low high (All-tail (IsNear n) one more h))

reverse-all : {A : Type 0} (P : A → Type 0) (xs : List A) → All P xs → All P (reverse xs)
reverse-all P [] h = All-nil P
reverse-all P (x ∷ xs) h =
    rw (reverse-append (x ∷ []) xs)
    (All-append P (reverse xs) (x ∷ []) (reverse-all P xs (All-tail P x xs h)) (All-cons P x [] (All-head P x xs h) (All-nil P)))

taken-near : (side : Side) (n : ℕ) (s : ShortSetValue) (cs : List Candidate) → All (IsNearCandidate n) cs → All (IsNear n) (taken side s cs)
taken-near side n s cs h =
    All-map (IsNear n) (with_flag s) (filter (is_taken side s) cs)
    (All-weaker (IsNearCandidate n) (λ c. IsNear n (with_flag s c)) (λ c near. record { not_below = near.0; not_above = near.1 }) (filter (is_taken side s) cs)
    (All-filter (is_taken side s) (IsNearCandidate n) cs h))

pub predicted-near : (n : ℕ) (ref : List Delta) (s : ShortSetValue) → or_zero s.abs_delta_rps_minus1 ≤ 32767 → All (IsNear n) ref → All (IsNear (n + 32768)) (predicted ref s)
unfolding predicted
predicted-near n ref s h near =
    All-append (IsNear (n + 32768)) (taken Before s (far1 ++ own ∷ moved0)) (taken After s (far0 ++ own ∷ moved1))
    (taken-near Before (n + 32768) s (far1 ++ own ∷ moved0)
    (All-append (IsNearCandidate (n + 32768)) far1 (own ∷ moved0) (reverse-all (IsNearCandidate (n + 32768)) moved1 near1) (All-cons (IsNearCandidate (n + 32768)) own moved0 own-near near0)))
    (taken-near After (n + 32768) s (far0 ++ own ∷ moved1)
    (All-append (IsNearCandidate (n + 32768)) far0 (own ∷ moved1) (reverse-all (IsNearCandidate (n + 32768)) moved0 near0) (All-cons (IsNearCandidate (n + 32768)) own moved1 own-near near1)))
  where
    s0 : List Delta
    s0 = on_side Before ref

    s1 : List Delta
    s1 = on_side After ref

    own : Candidate
    own = record { delta = delta_rps s; flags = length s0 + length s1 }

    moved0 : List Candidate
    moved0 = moved (delta_rps s) 0 s0

    moved1 : List Candidate
    moved1 = moved (delta_rps s) (length s0) s1

    far0 : List Candidate
    far0 = reverse moved0

    far1 : List Candidate
    far1 = reverse moved1

    d-near : (neg_ℤ (pos 32768) ≤ℤ delta_rps s) × (delta_rps s ≤ℤ pos 32768)
    d-near = delta_rps-near s h

    own-near : IsNearCandidate (n + 32768) own
    own-near = (omega (arith, ints, d-near.0), omega (arith, ints, d-near.1))

    near0 : All (IsNearCandidate (n + 32768)) moved0
    near0 = moved-near n 0 (delta_rps s) s0 d-near.0 d-near.1 (All-filter (λ one. is_on Before one.delta) (IsNear n) ref near)

    near1 : All (IsNearCandidate (n + 32768)) moved1
    near1 = moved-near n (length s0) (delta_rps s) s1 d-near.0 d-near.1 (All-filter (λ one. is_on After one.delta) (IsNear n) ref near)
