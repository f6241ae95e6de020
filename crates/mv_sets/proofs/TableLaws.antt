-- Tables of sets: what is found behind a set that was put, and that a table without sets has none.
use Rattle.std.proofs.Common.{◌≡◌, ◌≢◌, ℕ, ◌+◌, ◌*◌, ◌/◌, ◌<◌, ◌≤◌, Bool, true, false, cond, ◌&&◌, List, [], ◌∷◌, length, replicate, map, Option, Some, None, refl, ap, sym, ◌∙◌, arith, suc, zero}
use Rattle.std.specs.Prelude.{All, IfSome, nat_eq, nat_lt, option_and_then, slice_get, slice_set}
use Rattle.std.proofs.lemmas.Bool.{and_from, and_parts, both_ways, cond-false, eq-eqb, eqb-true, false_from_ne_true, lt-ltb, ltb-true}
use Rattle.std.proofs.lemmas.List.Elements.{All-head, All-tail}
use Rattle.std.proofs.Math.Nat.{add-mul, mul-le-mul_right}
use Rattle.std.proofs.lemmas.Nat.{div-mul-add}
use Rattle.mv_sets.specs.Numbered.{Numbered, TableValue}
use Rattle.mv_sets.specs.Tables.{emptied, entry_at, found, later, latest, latest_from, no_sets, slot_of, with_set}

-- ---- Places

slice_get-set_same : {A : Type 0} (xs : List A) (i : ℕ) (y : A) → i < length xs → slice_get (slice_set xs i y) i ≡ Some y
slice_get-set_same [] i y h = absurd (omega (arith, h))
slice_get-set_same (x ∷ xs) zero y h = refl
slice_get-set_same (x ∷ xs) (suc i) y h = slice_get-set_same xs i y (omega (arith, h))

slice_get-set_other : {A : Type 0} (xs : List A) (i j : ℕ) (y : A) → j ≢ i → slice_get (slice_set xs i y) j ≡ slice_get xs j
slice_get-set_other [] i j y h = refl
slice_get-set_other (x ∷ xs) zero zero y h = absurd (h refl)
slice_get-set_other (x ∷ xs) zero (suc j) y h = refl
slice_get-set_other (x ∷ xs) (suc i) zero y h = refl
slice_get-set_other (x ∷ xs) (suc i) (suc j) y h = slice_get-set_other xs i j y (λ e. h (ap suc e))

-- two layers and ids with one place are the same
same_layer : (ids l i layer id : ℕ) → i < ids → id < ids → layer * ids + id ≡ l * ids + i → layer ≡ l
same_layer ids l i layer id h k e = sym (div-mul-add layer ids id k) ∙ ap (λ n. n / ids) e ∙ div-mul-add l ids i h

same_id : (ids l i layer id : ℕ) → i < ids → id < ids → layer * ids + id ≡ l * ids + i → id ≡ i
same_id ids l i layer id h k e =
    let same : layer ≡ l = same_layer ids l i layer id h k e in
    let products : layer * ids ≡ l * ids = ap (λ n. n * ids) same in
    omega (arith, e, products)

slot_within : (ids layer id : ℕ) → layer < 64 → id < ids → layer * ids + id < 64 * ids
slot_within ids layer id h k =
    let most : (layer + 1) * ids ≤ 64 * ids = mul-le-mul_right ids (omega (arith, h)) in
    let parts : (layer + 1) * ids ≡ layer * ids + 1 * ids = add-mul layer 1 ids in
    omega (arith, most, parts, k)

-- ---- A set more

module _ {A : Type 0} (t : TableValue A) (l i : ℕ) (set : A) (few : l < 64) (within : i < t.ids) (room : length t.entries ≡ 64 * t.ids) where
  abbrev n : Numbered A
  n = record { number = t.count + 1; set = set }

  there : l * t.ids + i < length t.entries
  there = let h : l * t.ids + i < 64 * t.ids = slot_within t.ids l i few within in omega (arith, h, room)

  pub found-with : (id layer : ℕ) → found (with_set t l i set) id layer ≡ cond (nat_eq layer l && nat_eq i id) (Some n) (found t id layer)
  found-with id layer = go (nat_lt id t.ids) refl
    where
      same : Bool
      same = nat_eq layer l && nat_eq i id

      at : (b : Bool) → id < t.ids → same ≡ b → entry_at (slice_set t.entries (l * t.ids + i) (Some n)) (layer * t.ids + id) ≡ cond b (Some n) (entry_at t.entries (layer * t.ids + id))
      at true h e =
          let parts = and_parts (nat_eq layer l) (nat_eq i id) e in
          let slot : layer * t.ids + id ≡ l * t.ids + i =
          ap (λ m. m * t.ids + id) (eqb-true layer l parts.0) ∙ ap (λ m. l * t.ids + m) (sym (eqb-true i id parts.1)) in
          ap (λ m. entry_at (slice_set t.entries (l * t.ids + i) (Some n)) m) slot
          ∙ ap (option_and_then (λ entry. entry)) (slice_get-set_same t.entries (l * t.ids + i) (Some n) there)
      at false h e =
          ap (option_and_then (λ entry. entry)) (slice_get-set_other t.entries (l * t.ids + i) (layer * t.ids + id) (Some n)
          (λ slot. both_ways same e (and_from (nat_eq layer l) (nat_eq i id) (eq-eqb layer l (same_layer t.ids l i layer id within h slot)) (eq-eqb i id (sym (same_id t.ids l i layer id within h slot))))))

      go : (b : Bool) → nat_lt id t.ids ≡ b →
          option_and_then (entry_at (slice_set t.entries (l * t.ids + i) (Some n))) (cond b (Some (layer * t.ids + id)) None) ≡ cond same (Some n) (option_and_then (entry_at t.entries) (cond b (Some (layer * t.ids + id)) None))
      go true e = at same (ltb-true id t.ids e) refl
      go false e =
          sym (cond-false same (Some n) None (false_from_ne_true same
          (λ h. both_ways (nat_lt id t.ids) e (lt-ltb id t.ids (let at : i ≡ id = eqb-true i id (and_parts (nat_eq layer l) (nat_eq i id) h).1 in omega (arith, at, within))))))

-- ---- No sets

empty-at : {A : Type 0} (m slot : ℕ) → entry_at {A = A} (replicate m None) slot ≡ None
empty-at zero slot = refl
empty-at (suc m) zero = refl
empty-at {A = A} (suc m) (suc slot) = empty-at {A = A} m slot

cleared-at : {A : Type 0} (entries : List (Option A)) (slot : ℕ) → entry_at {A = A} (map (λ entry. None) entries) slot ≡ None
cleared-at [] slot = refl
cleared-at (entry ∷ entries) zero = refl
cleared-at (entry ∷ entries) (suc slot) = cleared-at entries slot

pub found-none : {A : Type 0} (ids id layer : ℕ) → found {A = A} (no_sets ids) id layer ≡ None
found-none {A = A} ids id layer = go (nat_lt id ids)
  where
    go : (b : Bool) → option_and_then (entry_at {A = Numbered A} (replicate (64 * ids) None)) (cond b (Some (layer * ids + id)) None) ≡ None
    go true = empty-at {A = Numbered A} (64 * ids) (layer * ids + id)
    go false = refl

pub found-emptied : {A : Type 0} (t : TableValue A) (id layer : ℕ) → found (emptied t) id layer ≡ None
found-emptied {A = A} t id layer = go (nat_lt id t.ids)
  where
    go : (b : Bool) → option_and_then {U = Numbered A} (entry_at (map (λ entry. None) t.entries)) (cond b (Some (layer * t.ids + id)) None) ≡ None
    go true = cleared-at t.entries (layer * t.ids + id)
    go false = refl

-- ---- What holds of each set

module _ {A : Type 0} (P : Numbered A → Type 0) where
  abbrev Holds : Option (Numbered A) → Type 0
  Holds entry = IfSome entry P

  entry-holds : (entries : List (Option (Numbered A))) → All Holds entries → (slot : ℕ) → Holds (entry_at entries slot)
  entry-holds [] h slot = tt
  entry-holds (entry ∷ entries) h zero = All-head Holds entry entries h
  entry-holds (entry ∷ entries) h (suc slot) = entry-holds entries (All-tail Holds entry entries h) slot

  later-holds : (a b : Option (Numbered A)) → Holds a → Holds b → Holds (later a b)
  later-holds None b h g = g
  later-holds (Some a) None h g = h
  later-holds (Some a) (Some b) h g = go (nat_lt a.number b.number)
    where
      go : (t : Bool) → P (cond t b a)
      go true = g
      go false = h

  from-holds : (f : ℕ → Option (Numbered A)) → ((layer : ℕ) → Holds (f layer)) → (best : Option (Numbered A)) → Holds best → (layers : List ℕ) → Holds (latest_from f best layers)
  unfolding latest_from
  from-holds f h best g [] = g
  from-holds f h best g (layer ∷ layers) = from-holds f h (later best (f layer)) (later-holds best (f layer) g (h layer)) layers

  pub latest-holds : (t : TableValue A) → All Holds t.entries → (id : ℕ) (layers : List ℕ) → Holds (latest t id layers)
  latest-holds t h id layers = from-holds (found t id) (λ layer. go (slot_of t.ids layer id)) None tt layers
    where
      go : (slot : Option ℕ) → Holds (option_and_then (entry_at t.entries) slot)
      go None = tt
      go (Some slot) = entry-holds t.entries h slot
