-- What strings in the length-prefixed form show: it is a form in which a byte string carries units.
use Rattle.std.proofs.Common.{◌≡◌, ◌≢◌, ℕ, suc, ◌+◌, ◌-◌, ◌<◌, ◌≤◌, Bool, true, false, cond, ◌==◌, ◌&&◌, nat_lt, if◌then◌else◌, List, [], ◌∷◌, ◌++◌, length, take, drop, replicate, get_or, Option, None, Some, All, refl, ap, sym, ◌∙◌, subst, arith, length-append, append_assoc, append-nil, inl, inr}
use Rattle.std.specs.Int.{to_be_bytes, w32}
use Rattle.std.proofs.lemmas.Bool.{ltb-true, ltb-false, le-ltb, lt-ltb}
use Rattle.std.proofs.lemmas.List.{get_or_past, get_or-append_right, get_or-drop, get_or-replicate, get_or-take, length-drop, length-replicate, length-take-le, nil_from_length, take_all}
use Rattle.std.proofs.lemmas.List.Elements.{All-nil, All-head, All-tail, All-cons}
use Rattle.std.proofs.Math.Seq.{take-append_seam, take-length}
use Rattle.mv_rules.specs.declared.rule.Rule.{Rule}
use Rattle.mv_rules.specs.declared.refusal.Refusal.{Refusal}
use Rattle.mv_units.specs.Rules.{has_emulation, longest_unit, long_unit, early_rule, unit_rule}
use Rattle.mv_units.specs.Shown.{IsOneOf, StartsWith}
use Rattle.mv_units.specs.Units.{NalUnit, has_code}
use Rattle.mv_units.proofs.Starts.{starts-length}
use Rattle.mv_judging.specs.Format.{Goes, IsFormat}
use Rattle.mv_prefixed.specs.Form.{length_form, length_rules}
use Rattle.mv_prefixed.specs.LenForm.{IsPlain, lenform}
use Rattle.mv_prefixed.specs.Reading.{Front, Open, Broken, Whole, front, length_front, body_front, unit_front, length_rule, bytes_rule, spelled, ends_in_zero, Reading, read, placed_at, len_units, len_refusal}
use Rattle.mv_prefixed.proofs.Fronts.{front-more, more, front-short, length-plain, spelled-more}
use Rattle.mv_prefixed.proofs.ReadLaws.{after, decomposed, read-more, read-stuck, stuck-open, stuck-broken}

-- the units of two readings in a row
pub placed-append : (at : ℕ) (us vs : List (List ℕ)) → placed_at at (us ++ vs) ≡ placed_at at us ++ placed_at (at + length (lenform us)) vs
unfolding placed_at lenform
placed-append at [] vs = ap (λ n. placed_at n vs) (omega arith)
placed-append at (u ∷ us) vs =
    let here : at + 4 + length u + length (lenform us) ≡ at + length (lenform (u ∷ us)) = behind at u (lenform us) in
    ap (λ rest. record { place = at + 4; bytes = u } ∷ rest) (placed-append (at + 4 + length u) us vs ∙ ap (λ n. placed_at (at + 4 + length u) us ++ placed_at n vs) here)
  where
    behind : (at : ℕ) (u s : List ℕ) → at + 4 + length u + length s ≡ at + length (to_be_bytes w32 (length u) ++ (u ++ s))
    behind at u s = omega (arith, length-append u s)

pub placed-length : (at : ℕ) (us : List (List ℕ)) → length (placed_at at us) ≡ length us
unfolding placed_at
placed-length at [] = refl
placed-length at (u ∷ us) = ap suc (placed-length (at + 4 + length u) us)

-- a reading, as a pair of its parts
pub IsRead : List ℕ → List (List ℕ) → List ℕ → Type 0
IsRead s us rest = read s ≡ record { units = us; rest = rest }

-- what is shown, by the front of the rest
chosen : Bool → List ℕ → Reading → Option Rule → Option Refusal
chosen ended s r o = elim o as (λ _. Option Refusal) [
  | Some rule ↦ Some (record { unit = length r.units; byte = length s - length r.rest + 4; rule = rule })
  | None ↦ if ended && nat_lt 0 (length r.rest)
      then Some (record { unit = length r.units; byte = length s; rule = Rule.Truncated }) else None
]

by-front : Front → Option Rule
by-front f = elim f as (λ _. Option Rule) [ Open ↦ None | Broken rule ↦ Some rule | Whole u more ↦ None ]

abbrev pub refused_by : ℕ → ℕ → Rule → Refusal
refused_by unit byte rule = record { unit = unit; byte = byte; rule = rule }

pub shown-broken : (ended : Bool) (s : List ℕ) (rule : Rule) → front (read s).rest ≡ Broken rule →
    len_refusal ended s ≡ Some (refused_by (length (read s).units) (length s - length (read s).rest + 4) rule)
unfolding chosen by-front
shown-broken ended s rule is = ap (λ f. chosen ended s (read s) (by-front f)) is

pub shown-open : (s : List ℕ) → front (read s).rest ≡ Open → len_refusal false s ≡ None
unfolding chosen by-front
shown-open s is = ap (λ f. chosen false s (read s) (by-front f)) is

pub shown-cut : (s : List ℕ) → front (read s).rest ≡ Open → 0 < length (read s).rest → len_refusal true s ≡ Some (refused_by (length (read s).units) (length s) Rule.Truncated)
unfolding chosen by-front
shown-cut s is some = ap (λ f. chosen true s (read s) (by-front f)) is
    ∙ ap (λ b. if b then Some (record { unit = length (read s).units; byte = length s; rule = Rule.Truncated }) else None) (lt-ltb 0 (length (read s).rest) some)

pub shown-done : (ended : Bool) (s : List ℕ) → (read s).rest ≡ [] → len_refusal ended s ≡ None
unfolding chosen by-front
shown-done ended s none = ap (λ f. chosen ended s (read s) (by-front f)) (ap front none ∙ front-short [] (omega arith)) ∙ over ended
  where
    over : (b : Bool) → chosen b s (read s) None ≡ None
    over false = refl
    over true = ap (λ b. if b then Some (record { unit = length (read s).units; byte = length s; rule = Rule.Truncated }) else None) (le-ltb 0 (length (read s).rest) (let h : length (read s).rest ≡ 0 = ap (λ v. length v) none in omega (arith, h)))

-- the rest either ends too early, or a unit that isn't plain stands at its front
pub data Ends (s : List ℕ) : Type 0 where
  Early : front (read s).rest ≡ Open → Ends s
  Refused : (rule : Rule) → front (read s).rest ≡ Broken rule → Ends s

pub ends-of : (s : List ℕ) → Ends s
ends-of s = go (front (read s).rest) refl
  where
    go : (f : Front) → front (read s).rest ≡ f → Ends s
    go Open is = Early is
    go (Broken rule) is = Refused rule is
    go (Whole u rest) is = absurd ((decomposed s).stuck u rest is)

-- more bytes behind a string whose rest ends too early, or whose next unit isn't plain
pub read-on : (s t : List ℕ) → front ((read s).rest ++ t) ≡ Open → read (s ++ t) ≡ record { units = (read s).units; rest = (read s).rest ++ t }
read-on s t is = read-more s t ∙ ap (after (read s).units) (read-stuck _ _ (stuck-open ((read s).rest ++ t) is))
    ∙ ap (λ us. record { units = us; rest = (read s).rest ++ t }) (append-nil (read s).units)

pub read-refused : (s t : List ℕ) (rule : Rule) → front ((read s).rest ++ t) ≡ Broken rule → read (s ++ t) ≡ record { units = (read s).units; rest = (read s).rest ++ t }
read-refused s t rule is = read-more s t ∙ ap (after (read s).units) (read-stuck _ _ (stuck-broken ((read s).rest ++ t) rule is))
    ∙ ap (λ us. record { units = us; rest = (read s).rest ++ t }) (append-nil (read s).units)

pub same-place : (s t : List ℕ) → length (s ++ t) - length ((read s).rest ++ t) ≡ length s - length (read s).rest
same-place s t = omega (arith, length-append s t, length-append (read s).rest t)

-- a refusal that more bytes bring
pub shown-refused : (ended : Bool) (s t : List ℕ) (rule : Rule) → front ((read s).rest ++ t) ≡ Broken rule →
    len_refusal ended (s ++ t) ≡ Some (refused_by (length (read s).units) (length s - length (read s).rest + 4) rule)
shown-refused ended s t rule is =
    let all = read-refused s t rule is in
    shown-broken ended (s ++ t) rule (ap (λ (r : Reading). front r.rest) all ∙ is)
    ∙ ap (λ (r : Reading). Some (record { unit = length r.units; byte = length (s ++ t) - length r.rest + 4; rule = rule })) all
    ∙ ap (λ n. Some (record { unit = length (read s).units; byte = n + 4; rule = rule })) (same-place s t)

shown-is : (ended : Bool) (s : List ℕ) (r : Refusal) (rule : Rule) → front (read s).rest ≡ Broken rule → len_refusal ended s ≡ Some r →
    r ≡ refused_by (length (read s).units) (length s - length (read s).rest + 4) rule
shown-is ended s r rule is shown = let same = sym shown ∙ shown-broken ended s rule is in cc

stays : (t s : List ℕ) (r : Refusal) → len_refusal false t ≡ Some r → len_refusal false (t ++ s) ≡ Some r
stays t s r shown = go (ends-of t)
  where
    go : Ends t → len_refusal false (t ++ s) ≡ Some r
    go (Early is) = absurd (let h : None ≡ Some r = sym (shown-open t is) ∙ shown in cc)
    go (Refused rule is) =
        let closed : front (read t).rest ≢ Open = λ none. let h : Open ≡ Broken rule = sym none ∙ is in cc in
        shown-refused false t s rule (front-more (read t).rest s closed ∙ ap (more s) is) ∙ ap Some (sym (shown-is false t r rule is shown))

ended-too : (t : List ℕ) (r : Refusal) → len_refusal false t ≡ Some r → len_refusal true t ≡ Some r
ended-too t r shown = go (ends-of t)
  where
    go : Ends t → len_refusal true t ≡ Some r
    go (Early is) = absurd (let h : None ≡ Some r = sym (shown-open t is) ∙ shown in cc)
    go (Refused rule is) = shown-broken true t rule is ∙ ap Some (sym (shown-is false t r rule is shown))

pub units-more : (t s : List ℕ) → StartsWith (len_units (t ++ s)) (len_units t)
units-more t s =
    let later = read ((read t).rest ++ s) in
    let all : len_units (t ++ s) ≡ len_units t ++ placed_at (0 + length (lenform (read t).units)) later.units =
    ap (λ (r : Reading). placed_at 0 r.units) (read-more t s) ∙ placed-append 0 (read t).units later.units in
    ap (take (length (len_units t))) all ∙ take-append_seam (len_units t) _

same-start : (us : List NalUnit) → StartsWith us us
same-start us = take-length us

same-refusal : (q r : Refusal) → Some q ≡ Some r → r ≡ q
same-refusal q r is = cc

-- each refusal, by how the string ends
by-ends : (ended : Bool) (t : List ℕ) (r : Refusal) → len_refusal ended t ≡ Some r → Ends t →
    (r.unit ≡ length (read t).units) × (front (read t).rest ≡ Open → (ended ≡ true) × (r.rule ≡ Rule.Truncated))
by-ends ended t r shown (Refused rule is) = (
  ap (λ (q : Refusal). q.unit) (shown-is ended t r rule is shown),
  λ none. absurd (let h : Open ≡ Broken rule = sym none ∙ is in cc),
)
by-ends false t r shown (Early is) = absurd (let h : None ≡ Some r = sym (shown-open t is) ∙ shown in cc)
by-ends true t r shown (Early is) = go (nat_lt 0 (length (read t).rest)) refl
  where
    go : (b : Bool) → nat_lt 0 (length (read t).rest) ≡ b → (r.unit ≡ length (read t).units) × (front (read t).rest ≡ Open → (true ≡ true) × (r.rule ≡ Rule.Truncated))
    go true some =
        let same = same-refusal _ r (sym (shown-cut t is (ltb-true 0 _ some)) ∙ shown) in
        (ap (λ (q : Refusal). q.unit) same, λ none. (refl, ap (λ (q : Refusal). q.rule) same))
    go false none = absurd (let h : None ≡ Some r =
        sym (shown-done true t (nil_from_length (read t).rest (let few = ltb-false 0 (length (read t).rest) none in omega (arith, few)))) ∙ shown in cc)

pub unit-number : (ended : Bool) (t : List ℕ) (r : Refusal) → len_refusal ended t ≡ Some r → r.unit ≡ length (len_units t)
unit-number ended t r shown = (by-ends ended t r shown (ends-of t)).0 ∙ sym (placed-length 0 (read t).units)

later : (t s : List ℕ) (r : Refusal) → len_refusal false t ≡ None → len_refusal false (t ++ s) ≡ Some r → length (len_units t) ≤ r.unit
later t s r quiet shown =
    let number = unit-number false (t ++ s) r shown in
    let few = starts-length _ _ (units-more t s) in
    omega (arith, number, few)

-- a string that shows nothing ends too early
pub quiet-open : (s : List ℕ) → len_refusal false s ≡ None → front (read s).rest ≡ Open
quiet-open s quiet = go (ends-of s)
  where
    go : Ends s → front (read s).rest ≡ Open
    go (Early is) = is
    go (Refused rule is) = absurd (let h = sym (shown-broken false s rule is) ∙ quiet in cc)

pub quiet-done : (s : List ℕ) → len_refusal true s ≡ None → (read s).rest ≡ []
quiet-done s quiet = go (ends-of s)
  where
    cut : front (read s).rest ≡ Open → (b : Bool) → nat_lt 0 (length (read s).rest) ≡ b → (read s).rest ≡ []
    cut is true some = absurd (let h = sym (shown-cut s is (ltb-true 0 _ some)) ∙ quiet in cc)
    cut is false none = nil_from_length (read s).rest (let few = ltb-false 0 (length (read s).rest) none in omega (arith, few))

    go : Ends s → (read s).rest ≡ []
    go (Early is) = cut is (nat_lt 0 (length (read s).rest)) refl
    go (Refused rule is) = absurd (let h = sym (shown-broken true s rule is) ∙ quiet in cc)

-- units are plain, so they break no rule on their own bytes
pub plain-clean : (u : List ℕ) → IsPlain u → unit_rule u ≡ None
plain-clean u plain =
    ap (λ b. cond b (Some Rule.Short) (early_rule u)) (le-ltb (length u) 2 plain.head)
    ∙ ap (λ b. cond b (Some Rule.Emulation) (cond (long_unit u) (Some Rule.Long) None)) (ap has_emulation (take_all longest_unit u plain.most) ∙ plain.quiet)
    ∙ ap (λ b. cond b (Some Rule.Long) None) (le-ltb longest_unit (length u) plain.most)

placed-clean : (at : ℕ) (us : List (List ℕ)) → All IsPlain us → All (λ (u : NalUnit). unit_rule u.bytes ≡ None) (placed_at at us)
unfolding placed_at
placed-clean at [] plain = All-nil (λ (u : NalUnit). unit_rule u.bytes ≡ None)
placed-clean at (u ∷ us) plain =
    All-cons (λ (u : NalUnit). unit_rule u.bytes ≡ None) (record { place = at + 4; bytes = u }) (placed_at (at + 4 + length u) us)
    (plain-clean u (All-head IsPlain u us plain)) (placed-clean (at + 4 + length u) us (All-tail IsPlain u us plain))

-- a string has no more units than bytes
form-count : (us : List (List ℕ)) → length us ≤ length (lenform us)
unfolding lenform
form-count [] = omega arith
form-count (u ∷ us) = omega (arith, form-count us, length-append u (lenform us))

pub units-count : (t : List ℕ) → length (len_units t) ≤ length t
units-count t =
    let all : length t ≡ length (lenform (read t).units ++ (read t).rest) = ap (λ v. length v) (decomposed t).parts in
    omega (arith, placed-length 0 (read t).units, form-count (read t).units, all, length-append (lenform (read t).units) (read t).rest)

-- a unit that ends in zero isn't plain
zero-breaks : (u : List ℕ) → ends_in_zero u ≡ true → (rule : Rule) × (bytes_rule u ≡ Some rule) × IsOneOf length_rules rule
zero-breaks u ends = go (has_emulation u) refl (has_code u) refl
  where
    go : (a : Bool) → has_emulation u ≡ a → (b : Bool) → has_code u ≡ b → (rule : Rule) × (bytes_rule u ≡ Some rule) × IsOneOf length_rules rule
    go true isa b isb = (Rule.Emulation, ap (λ t. cond t (Some Rule.Emulation) (cond (has_code u) (Some Rule.InnerCode) (cond (ends_in_zero u) (Some Rule.LastZero) None))) isa, inr (inl refl))
    go false isa true isb = (
      Rule.InnerCode,
      ap (λ t. cond t (Some Rule.Emulation) (cond (has_code u) (Some Rule.InnerCode) (cond (ends_in_zero u) (Some Rule.LastZero) None))) isa
          ∙ ap (λ t. cond t (Some Rule.InnerCode) (cond (ends_in_zero u) (Some Rule.LastZero) None)) isb,
      inr (inr (inr (inl refl))),
    )
    go false isa false isb = (
      Rule.LastZero,
      ap (λ t. cond t (Some Rule.Emulation) (cond (has_code u) (Some Rule.InnerCode) (cond (ends_in_zero u) (Some Rule.LastZero) None))) isa
          ∙ ap (λ t. cond t (Some Rule.InnerCode) (cond (ends_in_zero u) (Some Rule.LastZero) None)) isb
          ∙ ap (λ t. cond t (Some Rule.LastZero) None) ends,
      inr (inr (inr (inr (inl refl)))),
    )

length-own : (n : ℕ) (rule : Rule) → length_rule n ≡ Some rule → IsOneOf length_rules rule
length-own n rule is = go (nat_lt n 2) (nat_lt longest_unit n) refl refl
  where
    go : (a b : Bool) → nat_lt n 2 ≡ a → nat_lt longest_unit n ≡ b → IsOneOf length_rules rule
    go true b isa isb = let h : Some Rule.Short ≡ Some rule = ap (λ t. cond t (Some Rule.Short) (cond (nat_lt longest_unit n) (Some Rule.Long) None)) (sym isa) ∙ is in inl cc
    go false true isa isb = let h : Some Rule.Long ≡ Some rule =
        ap (λ t. cond t (Some Rule.Long) None) (sym isb) ∙ ap (λ t. cond t (Some Rule.Short) (cond (nat_lt longest_unit n) (Some Rule.Long) None)) (sym isa) ∙ is in inr (inr (inl cc))
    go false false isa isb = absurd (let h : None ≡ Some rule =
        ap (λ t. cond t (Some Rule.Long) None) (sym isb) ∙ ap (λ t. cond t (Some Rule.Short) (cond (nat_lt longest_unit n) (Some Rule.Long) None)) (sym isa) ∙ is in cc)

-- a string that ends too early has fewer bytes than a length and its unit
pub open-few : (s : List ℕ) → front s ≡ Open → 4 ≤ length s → length s < 4 + spelled s
open-few s is enough = go (length_rule (spelled s)) refl (nat_lt (length (drop 4 s)) (spelled s)) refl
  where
    at : length_front (spelled s) (drop 4 s) ≡ Open
    at = ap (λ c. cond c Open (length_front (spelled s) (drop 4 s))) (sym (le-ltb (length s) 4 enough)) ∙ is

    go : (o : Option Rule) → length_rule (spelled s) ≡ o → (b : Bool) → nat_lt (length (drop 4 s)) (spelled s) ≡ b → length s < 4 + spelled s
    go (Some rule) iso b isb = absurd (let h : Broken rule ≡ Open = ap (λ o. elim o as (λ _. Front) [ Some rule ↦ Broken rule | None ↦ body_front (spelled s) (drop 4 s) ]) (sym iso) ∙ at in cc)
    go None iso true isb = let less = ltb-true _ _ isb in omega (arith, less, length-drop 4 s)
    go None iso false isb = absurd (front-closed (take (spelled s) (drop 4 s)) (drop (spelled s) (drop 4 s))
        (ap (λ c. cond c Open (unit_front (take (spelled s) (drop 4 s)) (drop (spelled s) (drop 4 s)))) (sym isb)
        ∙ ap (λ o. elim o as (λ _. Front) [ Some rule ↦ Broken rule | None ↦ body_front (spelled s) (drop 4 s) ]) (sym iso) ∙ at))
      where
        front-closed : (u rest : List ℕ) → unit_front u rest ≢ Open
        front-closed u rest = closed (bytes_rule u)
          where
            closed : (o : Option Rule) → elim o as (λ _. Front) [ Some rule ↦ Broken rule | None ↦ Whole u rest ] ≢ Open
            closed (Some rule) = λ h. cc
            closed None = λ h. cc

zeros-at : (k j : ℕ) → ◌≡◌ {A = ℕ} (get_or (replicate k 0) j 0) 0
zeros-at k j = go (nat_lt j k) refl
  where
    go : (b : Bool) → nat_lt j k ≡ b → ◌≡◌ {A = ℕ} (get_or (replicate k 0) j 0) 0
    go true is = get_or-replicate k j 0 0 (ltb-true j k is)
    go false is = get_or_past (replicate k 0) j 0 (let h = ltb-false j k is in omega (arith, h, length-replicate {A = ℕ} k 0))

-- with zero bytes behind it, such a string is refused
zeros-end : (s : List ℕ) (n : ℕ) → 2 ≤ n → length s ≤ 4 + (n - 1) → ends_in_zero (take n (drop 4 (s ++ (0 ∷ 0 ∷ 0 ∷ 0 ∷ replicate n 0)))) ≡ true
zeros-end s n some few =
    let x : List ℕ = s ++ (0 ∷ 0 ∷ 0 ∷ 0 ∷ replicate n 0) in
    let u : List ℕ = take n (drop 4 x) in
    let all : length x ≡ length s + (4 + n) = omega (arith, length-append s (0 ∷ 0 ∷ 0 ∷ 0 ∷ replicate n 0), length-replicate {A = ℕ} n 0) in
    let len : length u ≡ n = length-take-le n (drop 4 x) (omega (arith, all, length-drop 4 x)) in
    let last : ◌≡◌ {A = ℕ} (get_or u (length u - 1) 0) 0 =
    ap (λ k. get_or u (k - 1) 0) len
    ∙ get_or-take n (drop 4 x) (n - 1) 0 (omega arith)
    ∙ get_or-drop 4 x (n - 1) 0
    ∙ get_or-append_right s (0 ∷ 0 ∷ 0 ∷ 0 ∷ replicate n 0) (length s) (4 + (n - 1)) 0 refl few
    ∙ zeros-at (suc (suc (suc (suc n)))) (4 + (n - 1) - length s) in
    ap (λ k. k == 0) last

zeros-broken : (s : List ℕ) (n : ℕ) → front s ≡ Open → spelled (s ++ (0 ∷ 0 ∷ 0 ∷ 0 ∷ [])) ≡ n →
    (rule : Rule) × (front (s ++ (0 ∷ 0 ∷ 0 ∷ 0 ∷ replicate n 0)) ≡ Broken rule) × IsOneOf length_rules rule
zeros-broken s n is number = go (length_rule n) refl
  where
    x : List ℕ
    x = s ++ (0 ∷ 0 ∷ 0 ∷ 0 ∷ replicate n 0)

    all : length (s ++ (0 ∷ 0 ∷ 0 ∷ 0 ∷ replicate n 0)) ≡ length s + (4 + n)
    all = omega (arith, length-append s (0 ∷ 0 ∷ 0 ∷ 0 ∷ replicate n 0), length-replicate {A = ℕ} n 0)

    spells : spelled (s ++ (0 ∷ 0 ∷ 0 ∷ 0 ∷ replicate n 0)) ≡ n
    spells = ap spelled (sym (append_assoc s (0 ∷ 0 ∷ 0 ∷ 0 ∷ []) (replicate n 0)))
        ∙ spelled-more (s ++ (0 ∷ 0 ∷ 0 ∷ 0 ∷ [])) (replicate n 0) (omega (arith, length-append s (0 ∷ 0 ∷ 0 ∷ 0 ∷ []))) ∙ number

    at : front (s ++ (0 ∷ 0 ∷ 0 ∷ 0 ∷ replicate n 0)) ≡ length_front n (drop 4 (s ++ (0 ∷ 0 ∷ 0 ∷ 0 ∷ replicate n 0)))
    at = ap (λ c. cond c Open (length_front (spelled (s ++ (0 ∷ 0 ∷ 0 ∷ 0 ∷ replicate n 0))) (drop 4 (s ++ (0 ∷ 0 ∷ 0 ∷ 0 ∷ replicate n 0))))) (le-ltb _ 4 (omega (arith, all)))
        ∙ ap (λ m. length_front m (drop 4 (s ++ (0 ∷ 0 ∷ 0 ∷ 0 ∷ replicate n 0)))) spells

    few : 2 ≤ n → (b : Bool) → nat_lt (length s) 4 ≡ b → length s ≤ 4 + (n - 1)
    few some true isb = let less = ltb-true (length s) 4 isb in omega arith
    few some false isb =
        let enough : 4 ≤ length s = ltb-false (length s) 4 isb in
        let less = open-few s is enough in
        let same : spelled s ≡ n = sym (spelled-more s (0 ∷ 0 ∷ 0 ∷ 0 ∷ []) enough) ∙ number in
        omega (arith, less, same)

    go : (o : Option Rule) → length_rule n ≡ o → (rule : Rule) × (front (s ++ (0 ∷ 0 ∷ 0 ∷ 0 ∷ replicate n 0)) ≡ Broken rule) × IsOneOf length_rules rule
    go (Some rule) iso = (
      rule,
      at ∙ ap (λ o. elim o as (λ _. Front) [ Some rule ↦ Broken rule | None ↦ body_front n (drop 4 (s ++ (0 ∷ 0 ∷ 0 ∷ 0 ∷ replicate n 0))) ]) iso,
      length-own n rule iso,
    )
    go None iso =
        let bounds = length-plain n iso in
        let body : List ℕ = drop 4 (s ++ (0 ∷ 0 ∷ 0 ∷ 0 ∷ replicate n 0)) in
        let broken = zero-breaks (take n body) (zeros-end s n bounds.0 (few bounds.0 (nat_lt (length s) 4) refl)) in (
          broken.0,
          at ∙ ap (λ o. elim o as (λ _. Front) [ Some rule ↦ Broken rule | None ↦ body_front n body ]) iso
              ∙ ap (λ c. cond c Open (unit_front (take n body) (drop n body))) (le-ltb (length body) n (omega (arith, all, length-drop 4 (s ++ (0 ∷ 0 ∷ 0 ∷ 0 ∷ replicate n 0)))))
              ∙ ap (λ o. elim o as (λ _. Front) [ Some rule ↦ Broken rule | None ↦ Whole (take n body) (drop n body) ]) broken.1,
          broken.2,
        )

goes : (t : List ℕ) → len_refusal false t ≡ None → Goes length_form t
goes t quiet =
    let rest : List ℕ = (read t).rest in
    let n : ℕ = spelled (rest ++ (0 ∷ 0 ∷ 0 ∷ 0 ∷ [])) in
    let broken = zeros-broken rest n (quiet-open t quiet) refl in
    record {
      more = 0 ∷ 0 ∷ 0 ∷ 0 ∷ replicate n 0;
      refusal = refused_by (length (read t).units) (length t - length (read t).rest + 4) broken.0;
      shown = shown-refused false t (0 ∷ 0 ∷ 0 ∷ 0 ∷ replicate n 0) broken.0 broken.1;
      unit = sym (placed-length 0 (read t).units);
      own = broken.2;
    }

truncated-own : ¬ IsOneOf length_rules Rule.Truncated
truncated-own = elim [
  | inl is ↦ cc
  | inr more ↦ elim more [
    | inl is ↦ cc
    | inr more ↦ elim more [
      | inl is ↦ cc
      | inr more ↦ elim more [ inl is ↦ cc | inr more ↦ elim more [ inl is ↦ cc | inr none ↦ none ] ]
    ]
  ]
]

at-end : (t : List ℕ) (r : Refusal) → len_refusal false t ≡ None → len_refusal true t ≡ Some r → ¬ IsOneOf length_rules r.rule
at-end t r quiet shown own =
    let is : r.rule ≡ Rule.Truncated = ((by-ends true t r shown (ends-of t)).1 (quiet-open t quiet)).1 in
    truncated-own (subst (IsOneOf length_rules) is own)

clean : (ended : Bool) (t : List ℕ) → len_refusal ended t ≡ None → All (λ (u : NalUnit). unit_rule u.bytes ≡ None) (len_units t)
clean ended t quiet = placed-clean 0 (read t).units (decomposed t).plain

pub form-of : IsFormat length_form
form-of = record {
  stays = stays;
  ends = ended-too;
  whole = units-more;
  all = λ t. same-start (len_units t);
  within = λ ended t r shown. let same = unit-number ended t r shown in omega arith;
  later = later;
  last = λ t r quiet shown. let same = unit-number true t r shown in omega arith;
  goes = goes;
  end = at-end;
  count = λ ended t. units-count t;
  clean = clean;
}
