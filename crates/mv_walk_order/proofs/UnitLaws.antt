-- Access units, each once: how many have a greater count than a picture, and what a picture more makes of them.
use Rattle.std.proofs.Common.{◌≡◌, ℕ, ◌<◌, ◌≤◌, Bool, true, false, cond, ◌||◌, List, [], ◌∷◌, filter, map, refl, ap, sym, ◌∙◌, arith}
use Rattle.std.specs.Prelude.{ℤ, All, nat_eq, int_lt}
use Rattle.std.specs.List.{list_any}
use Rattle.std.specs.Ordering.{int_eq}
use Rattle.std.proofs.lemmas.Bool.{and_from, and_left, cond-true, eq-eqb, eqb-true, eqb-false, or_from, or_parts, ne_eqb}
use Rattle.std.proofs.lemmas.List.Elements.{All-head, All-tail}
use Rattle.mv_dpb.specs.declared.set_order.Counted.{Counted}
use Rattle.mv_dpb.specs.SetOrder.{is_again, is_last, latest, order_after, with_unit}
use Rattle.mv_dpb.proofs.OrderLaws.{after-more}
use Rattle.mv_history.specs.History.{Throughout}
use Rattle.mv_layers.specs.OutputLayers.{is_among}
use Rattle.mv_pictures.specs.Output.{distinct}
use Rattle.mv_walk_order.specs.Orders.{each_once, is_unit}

-- access units of before, of which the unit's own has its count
abbrev pub IsBehind : Counted → List Counted → Type 0
IsBehind unit units = All (λ (u : Counted). (u.au ≤ unit.au) × (u.au ≡ unit.au → u.count ≡ unit.count)) units

abbrev pub Fall : List Counted → Type 0
Fall = Throughout (λ units unit. IsBehind unit units)

abbrev pub above : ℤ → Counted → Bool
above count unit = int_lt count unit.count

abbrev pub aus : List Counted → List ℕ
aus units = map (λ (u : Counted). u.au) units

-- an access unit whose count is greater is found among those with a greater count
among_above : (count : ℤ) (unit : Counted) (units : List Counted) → above count unit ≡ true → IsBehind unit units →
    is_among (aus (filter (above count) units)) unit.au ≡ list_any (is_unit unit.au) units
among_above count unit [] h behind = refl
among_above count unit (u ∷ units) h behind =
    go (above count u) refl (nat_eq u.au unit.au) refl
    (among_above count unit units h (All-tail (λ (u : Counted). (u.au ≤ unit.au) × (u.au ≡ unit.au → u.count ≡ unit.count)) u units behind))
  where
    own : u.au ≡ unit.au → u.count ≡ unit.count
    own = (All-head (λ (u : Counted). (u.au ≤ unit.au) × (u.au ≡ unit.au → u.count ≡ unit.count)) u units behind).1

    go : (b : Bool) → above count u ≡ b → (m : Bool) → nat_eq u.au unit.au ≡ m → is_among (aus (filter (above count) units)) unit.au ≡ list_any (is_unit unit.au) units →
        is_among (aus (cond b (u ∷ filter (above count) units) (filter (above count) units))) unit.au ≡ (nat_eq u.au unit.au || list_any (is_unit unit.au) units)
    go true e m f rest = ap (λ b. nat_eq u.au unit.au || b) rest
    go false e true f rest =
        absurd (let wrong : true ≡ false = sym h ∙ ap (int_lt count) (sym (own (eqb-true u.au unit.au f))) ∙ e in cc)
    go false e false f rest = rest ∙ sym (ap (λ b. b || list_any (is_unit unit.au) units) f)

-- the access units with a greater count
pub above-once : (count : ℤ) (units : List Counted) → Fall units →
    distinct (aus (filter (above count) units)) ≡ aus (filter (above count) (each_once units))
unfolding distinct each_once
above-once count [] fall = refl
above-once count (u ∷ units) fall = go (above count u) refl (list_any (is_unit u.au) units) refl (above-once count units fall.1)
  where
    go : (b : Bool) → above count u ≡ b → (m : Bool) → list_any (is_unit u.au) units ≡ m →
        distinct (aus (filter (above count) units)) ≡ aus (filter (above count) (each_once units)) →
        distinct (aus (cond b (u ∷ filter (above count) units) (filter (above count) units))) ≡ aus (filter (above count) (cond m (each_once units) (u ∷ each_once units)))
    go false e true f rest = rest
    go false e false f rest = rest ∙ sym (ap (λ b. aus (cond b (u ∷ filter (above count) (each_once units)) (filter (above count) (each_once units)))) e)
    go true e true f rest =
        ap (λ b. cond b (distinct (aus (filter (above count) units))) (u.au ∷ distinct (aus (filter (above count) units)))) (among_above count u units e fall.0 ∙ f) ∙ rest
    go true e false f rest =
        ap (λ b. cond b (distinct (aus (filter (above count) units))) (u.au ∷ distinct (aus (filter (above count) units)))) (among_above count u units e fall.0 ∙ f)
        ∙ ap (λ ns. u.au ∷ ns) rest
        ∙ sym (ap (λ b. aus (cond b (u ∷ filter (above count) (each_once units)) (filter (above count) (each_once units)))) e)

-- none of an earlier access unit is of a later one
none-later : (n : ℕ) (u : Counted) (us : List Counted) → IsBehind u us → u.au < n → list_any (is_unit n) us ≡ false
none-later n u [] behind less = refl
none-later n u (v ∷ us) behind less =
    let low : (v.au ≤ u.au) × (v.au ≡ u.au → v.count ≡ u.count) = All-head (λ (w : Counted). (w.au ≤ u.au) × (w.au ≡ u.au → w.count ≡ u.count)) v us behind in
    let le : v.au ≤ u.au = low.0 in
    or_from (nat_eq v.au n) (list_any (is_unit n) us) (ne_eqb v.au n (λ e. omega (arith, e, le, less)))
    (none-later n u us (All-tail (λ (w : Counted). (w.au ≤ u.au) × (w.au ≡ u.au → w.count ≡ u.count)) v us behind) less)

-- an access unit that has come is the latest
latest-here : (unit : Counted) (units : List Counted) → IsBehind unit units → Fall units → list_any (is_unit unit.au) units ≡ true →
    (rest : List Counted) × (each_once units ≡ unit ∷ rest)
unfolding each_once
latest-here unit [] behind fall h = absurd (let wrong : true ≡ false = sym h in cc)
latest-here unit (u ∷ units) behind fall h =
    go (nat_eq u.au unit.au) refl (list_any (is_unit u.au) units) refl h
    (latest-here unit units (All-tail (λ (u : Counted). (u.au ≤ unit.au) × (u.au ≡ unit.au → u.count ≡ unit.count)) u units behind) fall.1)
  where
    own : (u.au ≤ unit.au) × (u.au ≡ unit.au → u.count ≡ unit.count)
    own = All-head (λ (u : Counted). (u.au ≤ unit.au) × (u.au ≡ unit.au → u.count ≡ unit.count)) u units behind

    same : u.au ≡ unit.au → u ≡ unit
    same e = ap (λ (n : ℕ). let it : Counted = record { au = n; count = u.count } in it) e ∙ ap (λ (c : ℤ). let it : Counted = record { au = unit.au; count = c } in it) (own.1 e)

    go : (b : Bool) → nat_eq u.au unit.au ≡ b → (m : Bool) → list_any (is_unit u.au) units ≡ m → (b || list_any (is_unit unit.au) units) ≡ true →
        (list_any (is_unit unit.au) units ≡ true → (rest : List Counted) × (each_once units ≡ unit ∷ rest)) →
        (rest : List Counted) × (cond m (each_once units) (u ∷ each_once units) ≡ unit ∷ rest)
    go true e true f h rest = rest (sym (ap (λ n. list_any (is_unit n) units) (eqb-true u.au unit.au e)) ∙ f)
    go true e false f h rest = (each_once units, ap (λ v. v ∷ each_once units) (same (eqb-true u.au unit.au e)))
    go false e m f h rest =
        let apart : u.au ≡ unit.au → ⊥ = eqb-false u.au unit.au e in
        let le : u.au ≤ unit.au = own.0 in
        absurd (let wrong : true ≡ false = sym h ∙ none-later unit.au u units fall.0 (omega (arith, apart, le)) in cc)

-- and one that hasn't isn't
latest-other : (n : ℕ) (count : ℤ) (units : List Counted) → list_any (is_unit n) units ≡ false → is_last (latest (each_once units)) n count ≡ false
unfolding each_once
latest-other n count [] h = refl
latest-other n count (u ∷ units) h = go (list_any (is_unit u.au) units) (or_parts (nat_eq u.au n) (list_any (is_unit n) units) h) (latest-other n count units)
  where
    go : (m : Bool) → (nat_eq u.au n ≡ false) × (list_any (is_unit n) units ≡ false) → (list_any (is_unit n) units ≡ false → is_last (latest (each_once units)) n count ≡ false) →
        is_last (latest (cond m (each_once units) (u ∷ each_once units))) n count ≡ false
    go true parts rest = rest parts.1
    go false parts rest = and_left (nat_eq u.au n) (int_eq u.count count) parts.0

int_eq-same : (c : ℤ) → int_eq c c ≡ true
int_eq-same c = grind (arith)

-- a picture more
pub once-more : (reorder : ℕ) (unit : Counted) (units : List Counted) → IsBehind unit units → Fall units →
    with_unit (order_after reorder (each_once units)) unit.au unit.count ≡ order_after reorder (each_once (unit ∷ units))
unfolding each_once
once-more reorder unit units behind fall = go (list_any (is_unit unit.au) units) refl
  where
    again : (us : List Counted) → ((rest : List Counted) × (us ≡ unit ∷ rest)) → with_unit (order_after reorder us) unit.au unit.count ≡ order_after reorder us
    again us (rest, e) =
        let last : is_again (order_after reorder us) unit.au unit.count ≡ true =
        ap (λ vs. is_last (latest vs) unit.au unit.count) e ∙ and_from (nat_eq unit.au unit.au) (int_eq unit.count unit.count) (eq-eqb unit.au unit.au refl) (int_eq-same unit.count) in
        cond-true (is_again (order_after reorder us) unit.au unit.count) (order_after reorder us) _ last

    go : (m : Bool) → list_any (is_unit unit.au) units ≡ m →
        with_unit (order_after reorder (each_once units)) unit.au unit.count ≡ order_after reorder (cond m (each_once units) (unit ∷ each_once units))
    go true h = again (each_once units) (latest-here unit units behind fall h)
    go false h = after-more reorder (each_once units) unit (latest-other unit.au unit.count units h)
