-- The pictures that are kept: their places rise and are those of pictures, and there are no more than entries.
use Rattle.std.proofs.Common.{◌≡◌, ◌≢◌, ℕ, suc, ◌+◌, ◌<◌, ◌≤◌, nat_eq, nat_lt, Bool, true, false, cond, List, [], ◌∷◌, length, Option, Some, None, refl, sym, ap, ◌∙◌, arith}
use Rattle.std.specs.Prelude.{option_map, slice_get}
use Rattle.std.specs.Prelude.{◌||◌}
use Rattle.std.specs.List.{All, AllPairs, cons_option, enumerate_from, filter, filter_map}
use Rattle.std.proofs.lemmas.Bool.{eq-eqb, eqb-true, le-ltb, ltb-false, ltb-true}
use Rattle.std.proofs.lemmas.List.Elements.{All-nil, All-cons, All-head, All-tail}
use Rattle.std.proofs.lemmas.List.Kept.{AllPairs-cons}
use Rattle.mv_layers.specs.OutputLayers.{is_among}
use Rattle.mv_dpb.specs.declared.held.Held.{Held}
use Rattle.mv_dpb.specs.declared.held.Keep.{Keep}
use Rattle.mv_rps.specs.RefSet.{RefSetValue}
use Rattle.mv_rps.specs.Resolving.{index_of, kept_at, kept_of, long_places, match_place, match_places}

-- what is kept of pictures whose places begin at n
abbrev pub kept_from : List ℕ → List ℕ → ℕ → List Held → List Keep
kept_from matched longs n held = filter_map (kept_at matched longs) (enumerate_from n held)

not_before : (matched longs : List ℕ) (n : ℕ) (held : List Held) → All (λ (k : Keep). n ≤ k.place) (kept_from matched longs n held)
not_before matched longs n [] = All-nil (λ (k : Keep). n ≤ k.place)
not_before matched longs n (h ∷ held) = go (is_among matched n) (λ k d less. let rest : n + 1 ≤ _ = not_before matched longs (n + 1) held k d less in omega (arith, rest))
  where
    go : (b : Bool) → All (λ (k : Keep). n ≤ k.place) (kept_from matched longs (n + 1) held)
        → All (λ (k : Keep). n ≤ k.place) (cons_option (cond b (Some (record { place = n; long = h.long || is_among longs n })) None) (kept_from matched longs (n + 1) held))
    go false rest = rest
    go true rest = All-cons (λ (k : Keep). n ≤ k.place) (record { place = n; long = h.long || is_among longs n }) (kept_from matched longs (n + 1) held) (omega arith) rest

not_behind : (matched longs : List ℕ) (n : ℕ) (held : List Held) → All (λ (k : Keep). k.place < n + length held) (kept_from matched longs n held)
not_behind matched longs n [] = All-nil (λ (k : Keep). k.place < n + 0)
not_behind matched longs n (h ∷ held) = go (is_among matched n) (λ k d less. let rest : _ < n + 1 + length held = not_behind matched longs (n + 1) held k d less in omega (arith, rest))
  where
    go : (b : Bool) → All (λ (k : Keep). k.place < n + suc (length held)) (kept_from matched longs (n + 1) held)
        → All (λ (k : Keep). k.place < n + suc (length held)) (cons_option (cond b (Some (record { place = n; long = h.long || is_among longs n })) None) (kept_from matched longs (n + 1) held))
    go false rest = rest
    go true rest = All-cons (λ (k : Keep). k.place < n + suc (length held)) (record { place = n; long = h.long || is_among longs n }) (kept_from matched longs (n + 1) held) (omega arith) rest

rise : (matched longs : List ℕ) (n : ℕ) (held : List Held) → AllPairs (λ (k l : Keep). k.place < l.place) (kept_from matched longs n held)
rise matched longs n [] = λ i j d before less. absurd (omega (arith, less))
rise matched longs n (h ∷ held) = go (is_among matched n) (rise matched longs (n + 1) held)
  where
    go : (b : Bool) → AllPairs (λ (k l : Keep). k.place < l.place) (kept_from matched longs (n + 1) held)
        → AllPairs (λ (k l : Keep). k.place < l.place) (cons_option (cond b (Some (record { place = n; long = h.long || is_among longs n })) None) (kept_from matched longs (n + 1) held))
    go false rest = rest
    go true rest =
        AllPairs-cons (λ (k l : Keep). k.place < l.place) (record { place = n; long = h.long || is_among longs n }) (kept_from matched longs (n + 1) held)
        (λ k d less. let above : n + 1 ≤ _ = not_before matched longs (n + 1) held k d less in omega (arith, above)) rest

pub kept_rises : (set : RefSetValue) (held : List Held) → AllPairs (λ (k l : Keep). k.place < l.place) (kept_of set held)
unfolding kept_of
kept_rises set held = rise (match_places set held) (long_places set held) 0 held

pub kept_within : (set : RefSetValue) (held : List Held) → All (λ (k : Keep). k.place < length held) (kept_of set held)
unfolding kept_of
kept_within set held = λ k d less. let within : _ < 0 + length held = not_behind (match_places set held) (long_places set held) 0 held k d less in omega (arith, within)

-- ---- How many

-- how many places from n on pass a test
count_from : (ℕ → Bool) → ℕ → List Held → ℕ
count_from test n [] = 0
count_from test n (h ∷ held) = cond (test n) (suc (count_from test (n + 1) held)) (count_from test (n + 1) held)

kept_count : (matched longs : List ℕ) (n : ℕ) (held : List Held) → length (kept_from matched longs n held) ≡ count_from (is_among matched) n held
unfolding count_from
kept_count matched longs n [] = refl
kept_count matched longs n (h ∷ held) = go (is_among matched n) (kept_count matched longs (n + 1) held)
  where
    go : (b : Bool) → length (kept_from matched longs (n + 1) held) ≡ count_from (is_among matched) (n + 1) held
        → length (cons_option (cond b (Some (record { place = n; long = h.long || is_among longs n })) None) (kept_from matched longs (n + 1) held))
        ≡ cond b (suc (count_from (is_among matched) (n + 1) held)) (count_from (is_among matched) (n + 1) held)
    go false rest = rest
    go true rest = ap suc rest

-- none behind a place is that place, and so at most one is
none_is : (x n : ℕ) (held : List Held) → x < n → count_from (nat_eq x) n held ≡ 0
unfolding count_from
none_is x n [] less = refl
none_is x n (h ∷ held) less = go (nat_eq x n) refl (none_is x (n + 1) held (omega (arith, less)))
  where
    go : (b : Bool) → nat_eq x n ≡ b → count_from (nat_eq x) (n + 1) held ≡ 0 → cond b (suc (count_from (nat_eq x) (n + 1) held)) (count_from (nat_eq x) (n + 1) held) ≡ 0
    go false e rest = rest
    go true e rest = absurd (let same : x ≡ n = eqb-true x n e in omega (arith, same, less))

one_is : (x n : ℕ) (held : List Held) → count_from (nat_eq x) n held ≤ 1
unfolding count_from
one_is x n [] = omega arith
one_is x n (h ∷ held) = go (nat_eq x n) refl (one_is x (n + 1) held)
  where
    go : (b : Bool) → nat_eq x n ≡ b → count_from (nat_eq x) (n + 1) held ≤ 1 → cond b (suc (count_from (nat_eq x) (n + 1) held)) (count_from (nat_eq x) (n + 1) held) ≤ 1
    go false e rest = rest
    go true e rest =
        let same : x ≡ n = eqb-true x n e in
        let none : count_from (nat_eq x) (n + 1) held ≡ 0 = none_is x (n + 1) held (omega (arith, same)) in
        omega (arith, none)

either : (p q : ℕ → Bool) (n : ℕ) (held : List Held) → count_from (λ k. p k || q k) n held ≤ count_from p n held + count_from q n held
unfolding count_from
either p q n [] = omega arith
either p q n (h ∷ held) = go (p n) (q n) (either p q (n + 1) held)
  where
    go : (a b : Bool) → count_from (λ k. p k || q k) (n + 1) held ≤ count_from p (n + 1) held + count_from q (n + 1) held
        → cond (a || b) (suc (count_from (λ k. p k || q k) (n + 1) held)) (count_from (λ k. p k || q k) (n + 1) held)
        ≤ cond a (suc (count_from p (n + 1) held)) (count_from p (n + 1) held) + cond b (suc (count_from q (n + 1) held)) (count_from q (n + 1) held)
    go true true rest = omega (arith, rest)
    go true false rest = omega (arith, rest)
    go false true rest = omega (arith, rest)
    go false false rest = omega (arith, rest)

none_among : (n : ℕ) (held : List Held) → count_from (is_among []) n held ≡ 0
unfolding count_from
none_among n [] = refl
none_among n (h ∷ held) = none_among (n + 1) held

few_among : (matched : List ℕ) (n : ℕ) (held : List Held) → count_from (is_among matched) n held ≤ length matched
few_among [] n held = let none : count_from (is_among []) n held ≡ 0 = none_among n held in omega (arith, none)
few_among (x ∷ matched) n held =
    let both : count_from (is_among (x ∷ matched)) n held ≤ count_from (nat_eq x) n held + count_from (is_among matched) n held = either (nat_eq x) (is_among matched) n held in
    let one : count_from (nat_eq x) n held ≤ 1 = one_is x n held in
    let rest : count_from (is_among matched) n held ≤ length matched = few_among matched n held in
    omega (arith, both, one, rest)

fewer : {A B : Type 0} (f : A → Option B) (xs : List A) → length (filter_map f xs) ≤ length xs
fewer f [] = omega arith
fewer f (x ∷ xs) = go (f x) (fewer f xs)
  where
    go : (o : Option _) → length (filter_map f xs) ≤ length xs → length (cons_option o (filter_map f xs)) ≤ suc (length xs)
    go None rest = omega (arith, rest)
    go (Some y) rest = omega (arith, rest)

pub kept_few : (set : RefSetValue) (held : List Held) → length (kept_of set held) ≤ length set.entries
unfolding kept_of match_places
kept_few set held =
    let same : length (kept_of set held) ≡ count_from (is_among (match_places set held)) 0 held = kept_count (match_places set held) (long_places set held) 0 held in
    let few : count_from (is_among (match_places set held)) 0 held ≤ length (match_places set held) = few_among (match_places set held) 0 held in
    let fewer : length (match_places set held) ≤ length set.entries = fewer (match_place set held) set.entries in
    omega (arith, same, few, fewer)

-- ---- Parts

-- those that are kept from a place on are none before it
none_before : (place : ℕ) (keep : List Keep) → All (λ (k : Keep). place ≤ k.place) keep → index_of keep place ≡ 0
none_before place [] h = refl
none_before place (k ∷ keep) h =
    let not_less : nat_lt k.place place ≡ false = le-ltb k.place place (All-head (λ (k : Keep). place ≤ k.place) k keep h) in
    ap (λ b. length (cond b (k ∷ filter (λ (k : Keep). nat_lt k.place place) keep) (filter (λ (k : Keep). nat_lt k.place place) keep))) not_less
    ∙ none_before place keep (All-tail (λ (k : Keep). place ≤ k.place) k keep h)

-- where one that is kept stands
pub stands : (matched longs : List ℕ) (n : ℕ) (held : List Held) (place : ℕ) → n ≤ place → place < n + length held → is_among matched place ≡ true
    → option_map (λ (k : Keep). k.place) (slice_get (kept_from matched longs n held) (index_of (kept_from matched longs n held) place)) ≡ Some place
stands matched longs n [] place low high is = absurd (omega (arith, low, high))
stands matched longs n (h ∷ held) place low high is =
    go (is_among matched n) refl (nat_eq n place) refl (λ low. stands matched longs (n + 1) held place low (omega (arith, high)) is)
  where
    rest : List Keep
    rest = kept_from matched longs (n + 1) held

    here : Keep
    here = record { place = n; long = h.long || is_among longs n }

    above : nat_eq n place ≡ false → n + 1 ≤ place
    above other =
        let differ : n ≢ place = (λ same. let wrong : true ≡ false = sym (eq-eqb n place same) ∙ other in cc) in
        omega (arith, differ, low)

    at : (b : Bool) → nat_lt n place ≡ b → (b ≡ true → option_map (λ (k : Keep). k.place) (slice_get rest (index_of rest place)) ≡ Some place) → (b ≡ false → n ≡ place)
        → option_map (λ (k : Keep). k.place) (slice_get (here ∷ rest) (length (cond b (here ∷ filter (λ (k : Keep). nat_lt k.place place) rest) (filter (λ (k : Keep). nat_lt k.place place) rest)))) ≡ Some place
    at true e after same = after refl
    at false e after same =
        let is_here : n ≡ place = same refl in
        let first : index_of rest place ≡ 0 = none_before place rest (λ k d less. let above : n + 1 ≤ _ = not_before matched longs (n + 1) held k d less in omega (arith, above, is_here)) in
        ap (λ i. option_map (λ (k : Keep). k.place) (slice_get (here ∷ rest) i)) first ∙ ap (λ p. Some p) is_here

    go : (m : Bool) → is_among matched n ≡ m → (s : Bool) → nat_eq n place ≡ s
        → (n + 1 ≤ place → option_map (λ (k : Keep). k.place) (slice_get rest (index_of rest place)) ≡ Some place)
        → option_map (λ (k : Keep). k.place) (slice_get (cons_option (cond m (Some here) None) rest) (index_of (cons_option (cond m (Some here) None) rest) place)) ≡ Some place
    go false e true same after =
        let is_here : n ≡ place = eqb-true n place same in
        absurd (let wrong : true ≡ false = sym is ∙ ap (is_among matched) (sym is_here) ∙ e in cc)
    go false e false other after = after (above other)
    go true e s same after =
        at (nat_lt n place) refl (λ less. after (let below : n < place = ltb-true n place less in omega (arith, below))) (λ not_less. let above : place ≤ n = ltb-false n place not_less in omega (arith, above, low))
