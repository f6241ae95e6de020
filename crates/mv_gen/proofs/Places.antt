-- Which unit stands at a place of the stream.
use Rattle.std.proofs.Common.{◌≡◌, ℕ, zero, suc, ◌+◌, ◌-◌, ◌*◌, ◌/◌, ◌%◌, ◌<◌, ◌≤◌, List, [], ◌∷◌, ◌++◌, length, get_or, drop, map, refl, sym, ap, ◌∙◌, arith, length-append}
use Rattle.std.specs.List.{flat_map, range_with_len}
use Rattle.std.proofs.lemmas.List.{drop_all, drop_more, get_or-append_right, get_or_append_left}
use Rattle.std.proofs.lemmas.List.Concat.{flat_map-cons}
use Rattle.std.proofs.lemmas.List.FromFn.{length-map-range_with_len, get_or-map-range_with_len}
use Rattle.mv_gen.specs.ParameterSets.{parameter_sets}
use Rattle.mv_gen.specs.Segments.{segment_from, state_behind}
use Rattle.mv_gen.specs.Units.{access_unit, gen_units, segment, state_before}

-- slice segment i, whose layer and low bits follow from its place
abbrev pub placed : ℕ → ℕ → List ℕ
placed number i = segment number i (i % 2) (i / 2 % 8)

of_these : (number i l m a b : ℕ) → l ≡ m → a ≡ b → segment number i l a ≡ segment number i m b
of_these number i l m a b layer lsb = ap (λ (k : ℕ). segment number i k a) layer ∙ ap (λ (k : ℕ). segment number i m k) lsb

unit_is : (number k : ℕ) → access_unit number k ≡ placed number (2 * k) ∷ placed number (2 * k + 1) ∷ []
unfolding access_unit
unit_is number k =
    ap (λ (u : List ℕ). u ∷ segment number (2 * k + 1) 1 (k % 8) ∷ [])
    (of_these number (2 * k) 0 (2 * k % 2) (k % 8) (2 * k / 2 % 8) (omega arith) (omega arith))
    ∙ ap (λ (u : List ℕ). placed number (2 * k) ∷ u ∷ [])
    (of_these number (2 * k + 1) 1 ((2 * k + 1) % 2) (k % 8) ((2 * k + 1) / 2 % 8) (omega arith) (omega arith))

twice_more : (a : ℕ) → 2 * (a + 1) ≡ 2 * a + 1 + 1
twice_more a = omega arith

twice_suc : (n : ℕ) → suc (suc (2 * n)) ≡ 2 * suc n
twice_suc n = omega arith

without : (i : ℕ) → 5 + i - 5 ≡ i
without i = omega arith

-- the access units from number a on are the slice segments from place 2 a on
pub all_are : (number a n : ℕ) → flat_map (access_unit number) (range_with_len a n) ≡ map (placed number) (range_with_len (2 * a) (2 * n))
all_are number a zero = refl
all_are number a (suc n) =
    flat_map-cons (access_unit number) a (range_with_len (a + 1) n)
    ∙ ap (λ (u : List (List ℕ)). u ++ flat_map (access_unit number) (range_with_len (a + 1) n)) (unit_is number a)
    ∙ ap (λ (l : List (List ℕ)). placed number (2 * a) ∷ placed number (2 * a + 1) ∷ l) (all_are number (a + 1) n)
    ∙ ap (λ (s : ℕ). placed number (2 * a) ∷ placed number (2 * a + 1) ∷ map (placed number) (range_with_len s (2 * n))) (twice_more a)
    ∙ ap (λ (m : ℕ). map (placed number) (range_with_len (2 * a) m)) (twice_suc n)

pub length_is : (number count : ℕ) → length (gen_units number count) ≡ 5 + 2 * count
unfolding gen_units
length_is number count =
    length-append parameter_sets (flat_map (access_unit number) (range_with_len 0 count))
    ∙ ap (λ (l : List (List ℕ)). 5 + length l) (all_are number 0 count)
    ∙ ap (λ (m : ℕ). 5 + m) (length-map-range_with_len (placed number) 0 (2 * count))

at_place : (number count i : ℕ) → i < 2 * count → get_or (gen_units number count) (5 + i) [] ≡ placed number i
unfolding gen_units
at_place number count i inside =
    get_or-append_right parameter_sets (flat_map (access_unit number) (range_with_len 0 count)) 5 (5 + i) [] refl (omega arith)
    ∙ ap (λ (m : ℕ). get_or (flat_map (access_unit number) (range_with_len 0 count)) m []) (without i)
    ∙ ap (λ (l : List (List ℕ)). get_or l i []) (all_are number 0 count)
    ∙ get_or-map-range_with_len (placed number) 0 (2 * count) i i [] inside (omega arith)

placed_is : (number i : ℕ) → placed number i ≡ segment_from (state_before number i) i
unfolding segment segment_from
placed_is number i = refl

-- ---- Of the units that are left, the first

pub next_is_set : (number count given : ℕ) (unit : List ℕ) → given < 5 → unit ≡ get_or parameter_sets given [] →
    drop given (gen_units number count) ≡ unit ∷ drop (given + 1) (gen_units number count)
unfolding gen_units
next_is_set number count given unit few same =
    drop_more (gen_units number count) given [] (omega (arith, length_is number count))
    ∙ ap (λ (u : List ℕ). u ∷ drop (given + 1) (gen_units number count))
    (get_or_append_left parameter_sets (flat_map (access_unit number) (range_with_len 0 count)) [] given few ∙ sym same)

pub next_is_segment : (number count given place state : ℕ) (unit : List ℕ) → 5 ≤ given → place ≡ given - 5 → place < 2 * count →
    state ≡ state_before number place → unit ≡ segment_from state place →
    drop given (gen_units number count) ≡ unit ∷ drop (given + 1) (gen_units number count)
next_is_segment number count given place state unit behind_sets place_is inside state_is same =
    let at : given ≡ 5 + place = omega arith in
    drop_more (gen_units number count) given [] (omega (arith, length_is number count))
    ∙ ap (λ (u : List ℕ). u ∷ drop (given + 1) (gen_units number count))
    (ap (λ (j : ℕ). get_or (gen_units number count) j []) at
    ∙ at_place number count place inside ∙ placed_is number place
    ∙ ap (λ (s : ℕ). segment_from s place) (sym state_is) ∙ sym same)

pub none_is_left : (number count given : ℕ) → 5 ≤ given → given - 5 ≡ 2 * count → drop given (gen_units number count) ≡ []
none_is_left number count given behind_sets all = drop_all given (gen_units number count) (omega (arith, length_is number count))

pub state_more : (number given state : ℕ) → 5 ≤ given → state ≡ state_before number (given - 5) →
    state_behind state ≡ state_before number (given + 1 - 5)
unfolding state_behind
state_more number given state behind_sets same =
    let on : suc (given - 5) ≡ given + 1 - 5 = omega arith in
    ap state_behind same ∙ ap (state_before number) on
