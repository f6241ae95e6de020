-- Access units that have a changed video parameter set.
use Rattle.std.proofs.Common.{◌≡◌, ◌⊎◌, inl, inr, ℕ, ◌<◌, ◌≤◌, Bool, true, false, not, ◌&&◌, ◌||◌, List, [], ◌∷◌, ◌++◌, reverse, Option, None, Some, refl, ap, sym, ◌∙◌, arith}
use Rattle.std.specs.Prelude.{All, nat_eq, option_map}
use Rattle.std.specs.List.{list_any}
use Rattle.std.proofs.lemmas.Bool.{cases_lt, eq-eqb, eqb-true, ne_eqb}
use Rattle.std.proofs.lemmas.List.Elements.{All-head, All-tail}
use Rattle.mv_syntax.specs.Words.{◌otherwise◌}
use Rattle.mv_history.specs.History.{run}
use Rattle.mv_pictures.specs.AccessUnits.{Placed, all_placed, has_changed_vps, in_au, number, placed}
use Rattle.mv_pictures.specs.Items.{Item, is_vps, items, same_vps, turns}
use Rattle.mv_commuting.proofs.Places.{numbers_within}
use Rattle.mv_au.specs.Tracker.{latest_au}
use Rattle.mv_walk_laws.specs.Streams.{IsLatestChange, current, item_behind, placed_behind, placed_units}
use Rattle.mv_walk_laws.proofs.OneMore.{current-more, current-rises, placed-more}

-- a changed one in access unit n
abbrev has_change : ℕ → List Placed → Bool
has_change n ps = list_any (λ (q : Placed). turns q.item && in_au n q) ps

-- no access unit behind the latest one has any unit
within : (us : List (List ℕ)) → All (λ (q : Placed). q.au ≤ current us) (placed_units us)
unfolding latest_au all_placed
within us = numbers_within (items (reverse us))

beyond : (n top : ℕ) → top < n → (ps : List Placed) → All (λ (q : Placed). q.au ≤ top) ps → has_change n ps ≡ false
beyond n top above [] low = refl
beyond n top above (q ∷ ps) low =
    let le : q.au ≤ top = All-head (λ (q : Placed). q.au ≤ top) q ps low in
    ap (λ b. (turns q.item && b) || has_change n ps) (ne_eqb q.au n (λ e. omega (arith, le, above)))
    ∙ none (turns q.item) (has_change n ps)
    ∙ beyond n top above ps (All-tail (λ (q : Placed). q.au ≤ top) q ps low)
  where
    none : (a b : Bool) → ((a && false) || b) ≡ b
    none true b = refl
    none false b = refl

behind : (n here : ℕ) → here ≤ n → (n ≡ here → ⊥) → here < n
behind n here le other = go (cases_lt here n)
  where
    go : (here < n) ⊎ (n ≤ here) → here < n
    go (inl above) = above
    go (inr low) = absurd (other (omega (arith, le, low)))

pub change-first : IsLatestChange None []
unfolding all_placed items run
change-first n le = refl

-- a unit that is no changed one
pub change-other : (changed : Option ℕ) (us : List (List ℕ)) (u : List ℕ) → turns (item_behind us u) ≡ false → IsLatestChange changed us → IsLatestChange changed (us ++ u ∷ [])
unfolding placed
change-other changed us u same so_far n le =
    ap (has_change n) (placed-more us u)
    ∙ ap (λ t. (t && in_au n (placed_behind us u)) || has_change n (placed_units us)) same
    ∙ so_far n (let rises = current-rises us u in let more = current-more us u in omega (arith, le, rises, more))

-- so what is no video parameter set
pub other-turns : (i : Item) → is_vps i ≡ false → turns i ≡ false
unfolding turns
other-turns i plain = ap (λ b. b && (option_map (λ old. option_map (λ new. not (same_vps old new)) i.at otherwise false) i.before otherwise false)) plain

-- a changed one
pub change-new : (us : List (List ℕ)) (u : List ℕ) → turns (item_behind us u) ≡ true → IsLatestChange (Some (number (placed_units us) (item_behind us u))) (us ++ u ∷ [])
unfolding placed
change-new us u changes n le =
    ap (has_change n) (placed-more us u)
    ∙ ap (λ t. (t && nat_eq (number (placed_units us) (item_behind us u)) n) || has_change n (placed_units us)) changes
    ∙ go (nat_eq n here) refl
  where
    here : ℕ
    here = number (placed_units us) (item_behind us u)

    -- here it is, and behind here there is none
    go : (b : Bool) → nat_eq n here ≡ b → (nat_eq here n || has_change n (placed_units us)) ≡ b
    go true e = ap (λ b. b || has_change n (placed_units us)) (eq-eqb here n (sym (eqb-true n here e)))
    go false e =
        let other : (n ≡ here → ⊥) = λ same. let wrong : true ≡ false = sym (eq-eqb n here same) ∙ e in cc in
        let above : here < n = behind n here (let more = current-more us u in omega (arith, le, more)) other in
        ap (λ b. b || has_change n (placed_units us)) (ne_eqb here n (λ same. other (sym same)))
        ∙ beyond n (current us) (let rises = current-rises us u in omega (arith, above, rises)) (placed_units us) (within us)

-- whether the access unit of the next unit has one before it
pub change-next : (changed : Option ℕ) (us : List (List ℕ)) (u : List ℕ) → IsLatestChange changed us →
    has_changed_vps (placed_units us) (placed_behind us u) ≡ (option_map (nat_eq (number (placed_units us) (item_behind us u))) changed otherwise false)
unfolding has_changed_vps placed
change-next changed us u so_far = so_far (number (placed_units us) (item_behind us u)) (current-rises us u)
