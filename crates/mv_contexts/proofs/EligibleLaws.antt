-- The numbers of the direct reference layers that may be referred to rise, and are below the number of those layers.
use Rattle.std.proofs.Common.{ℕ, zero, suc, ◌+◌, ◌<◌, ◌≤◌, Bool, true, false, cond, List, ◌∷◌, length, arith}
use Rattle.std.specs.List.{All, filter, range_with_len}
use Rattle.std.proofs.lemmas.List.Elements.{All-cons, All-filter, All-nil}
use Rattle.std.proofs.lemmas.List.{length-map}
use Rattle.mv_layers.proofs.Collecting.{passed_more}
use Rattle.mv_slice.specs.Context.{Rises}
use Rattle.mv_slice.specs.Layers.{DirectLayer, eligible, layer_at, may_refer}

all_in_range : (P : ℕ → Type 0) (a n : ℕ) → ((i : ℕ) → a ≤ i → i < a + n → P i) → All P (range_with_len a n)
all_in_range P a zero h = All-nil P
all_in_range P a (suc n) h =
    All-cons P a (range_with_len (a + 1) n) (h a (omega arith) (omega arith)) (all_in_range P (a + 1) n (λ i low high. h i (omega (arith, low)) (omega (arith, high))))

filter_rises : (p : ℕ → Bool) (a n : ℕ) → Rises (filter p (range_with_len a n))
filter_rises p a zero = tt
filter_rises p a (suc n) =
    go (p a)
    (All-filter p (λ m. a < m) (range_with_len (a + 1) n) (all_in_range (λ m. a < m) (a + 1) n (λ i low high. omega (arith, low))))
    (filter_rises p (a + 1) n)
  where
    go : (b : Bool) → All (λ m. a < m) (filter p (range_with_len (a + 1) n)) → Rises (filter p (range_with_len (a + 1) n))
        → Rises (cond b (a ∷ filter p (range_with_len (a + 1) n)) (filter p (range_with_len (a + 1) n)))
    go true above rest = (above, rest)
    go false above rest = rest

pub eligible_rise : (tid : ℕ) (directs : List DirectLayer) → Rises (eligible tid directs)
eligible_rise tid directs = filter_rises (λ i. may_refer tid (layer_at directs i)) 0 (length directs)

pub eligible_below : (tid : ℕ) (directs : List DirectLayer) → All (λ i. i < length directs) (eligible tid directs)
eligible_below tid directs =
    All-filter (λ i. may_refer tid (layer_at directs i)) (λ i. i < length directs) (range_with_len 0 (length directs))
    (all_in_range (λ i. i < length directs) 0 (length directs) (λ i low high. omega (arith, high)))

pub ruleset eligible_steps = (passed_more, length-map)
