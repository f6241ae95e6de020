-- Bytes that show no refusal are refused with 00 00 02 behind them; what the end alone shows.
use Rattle.std.proofs.Common.{◌≡◌, ℕ, zero, suc, ◌+◌, ◌-◌, ◌<◌, ◌≤◌, ◌⊎◌, inl, inr, Bool, true, false, cond, not, ◌==◌, ◌&&◌, ◌||◌, List, [], ◌∷◌, ◌++◌, length, take, drop, get_or, Option, None, Some, if◌then◌else◌, refl, ap, sym, ◌∙◌, arith, length-append, append_assoc}
use Rattle.std.specs.List.{position_from}
use Rattle.std.specs.Option.{option_map, option_or, option_and_then}
use Rattle.std.proofs.lemmas.Bool.{and_right, or_right, true≢false, lt-ltb, cases_lt}
use Rattle.std.proofs.lemmas.List.{length-take-le}
use Rattle.mv_rules.specs.declared.rule.Rule.{Rule}
use Rattle.mv_rules.specs.declared.refusal.Refusal.{Refusal}
use Rattle.mv_units.specs.Units.{NalUnit, is_code, is_zero, has_code, leading, trimmed, placed, units}
use Rattle.mv_units.specs.Rules.{longest_unit, short_unit, has_emulation, emulation, long_unit, early_rule}
use Rattle.mv_units.specs.Shown.{IsOneOf, early_rules, last, whole_units, refused, refused_leading, unit_refusal, early_refusal, refusal_behind, first_refusal, last_refusal, refusal_shown}
use Rattle.mv_units.proofs.Early.{early-is, early_refusal-refused}
use Rattle.mv_units.proofs.Longer.{span}
use Rattle.mv_units.proofs.Pieces.{pieces-clean}
use Rattle.mv_units.proofs.Refusals.{refusal-push, refusal-number, refusal-within}
use Rattle.mv_units.proofs.Shown.{Open, opens, pieces-more, open-clean, before, behind, units-end, whole-is, late, front_shown, shown-is}
use Rattle.mv_units.proofs.Trimmed.{trimmed-whole}

-- a byte other than 01 closes no code
pub has_code-other : (p : List ℕ) (b : ℕ) → (b == 1) ≡ false → has_code (p ++ b ∷ []) ≡ has_code p
unfolding has_code
has_code-other [] b h = refl
has_code-other (x ∷ []) b h = refl
has_code-other (x ∷ y ∷ []) b h = ap (λ t. t || false) (and_right ((x == 0) && (y == 0)) (b == 1) h)
has_code-other (x ∷ y ∷ z ∷ p) b h = ap (λ t. is_code x y z || t) (has_code-other (y ∷ z ∷ p) b h)

-- 00 00 02, which may stand nowhere in a unit
abbrev pub forbidden : List ℕ
forbidden = 0 ∷ 0 ∷ 2 ∷ []

clean-behind : (p : List ℕ) → has_code p ≡ false → has_code (p ++ forbidden) ≡ false
clean-behind p clean =
    ap has_code (sym (append_assoc p (0 ∷ []) (0 ∷ 2 ∷ [])) ∙ sym (append_assoc (p ++ 0 ∷ []) (0 ∷ []) (2 ∷ [])))
    ∙ has_code-other ((p ++ 0 ∷ []) ++ 0 ∷ []) 2 refl
    ∙ has_code-other (p ++ 0 ∷ []) 0 refl
    ∙ has_code-other p 0 refl
    ∙ clean

-- the pieces of a string behind which it stands
pub open-forbidden : (t : List ℕ) (cs : List (List ℕ)) (p : List ℕ) → Open t cs p → Open (t ++ forbidden) cs (p ++ forbidden)
open-forbidden t cs p is = pieces-more t forbidden cs p is ∙ ap (λ qs. cs ++ qs) (pieces-clean (p ++ forbidden) (clean-behind p (open-clean t cs p is)))

-- it isn't cut off at the end
get-behind : (p : List ℕ) → get_or (p ++ forbidden) (length p + 2) 0 ≡ 2
get-behind [] = refl
get-behind (a ∷ p) =
    let n : length (a ∷ p) + 2 ≡ suc (length p + 2) = omega arith in
    ap (λ n. get_or (a ∷ (p ++ forbidden)) n 0) n ∙ get-behind p

trimmed-forbidden : (p : List ℕ) → trimmed (p ++ forbidden) ≡ p ++ forbidden
trimmed-forbidden p =
    let n : length (p ++ forbidden) - 1 ≡ length p + 2 = omega (arith, length-append p forbidden) in
    trimmed-whole (p ++ forbidden) (λ e. let two : 2 ≡ 0 = sym (get-behind p) ∙ ap (λ n. get_or (p ++ forbidden) n 0) (sym n) ∙ e in absurd (omega (arith, two)))

-- bytes behind which it stands break the rule Emulation or Long
emulates-behind : (p : List ℕ) → has_emulation (p ++ forbidden) ≡ true
unfolding has_emulation
emulates-behind [] = refl
emulates-behind (a ∷ p) = or_right _ _ (emulates-behind p)

pub take-short : (n : ℕ) (s : List ℕ) → length s ≤ n → take n s ≡ s
take-short zero [] h = refl
take-short (suc n) [] h = refl
take-short zero (a ∷ s) h = absurd (omega arith)
take-short (suc n) (a ∷ s) h = ap (λ r. a ∷ r) (take-short n s (omega arith))

breaks-early : (p : List ℕ) → (emulation (p ++ forbidden) ≡ true) ⊎ (long_unit (p ++ forbidden) ≡ true)
breaks-early p = go (cases_lt longest_unit (length (p ++ forbidden)))
  where
    go : (longest_unit < length (p ++ forbidden)) ⊎ (length (p ++ forbidden) ≤ longest_unit) → (emulation (p ++ forbidden) ≡ true) ⊎ (long_unit (p ++ forbidden) ≡ true)
    go (inr low) = inl (ap has_emulation (take-short longest_unit (p ++ forbidden) low) ∙ emulates-behind p)
    go (inl high) = inr (lt-ltb longest_unit (length (p ++ forbidden)) high)

-- so a unit of such bytes is refused early
early-some : (x : List ℕ) → (emulation x ≡ true) ⊎ (long_unit x ≡ true) → (r : Rule) × (early_rule x ≡ Some r)
early-some x h = go (emulation x) (long_unit x) refl refl h
  where
    go : (e l : Bool) → emulation x ≡ e → long_unit x ≡ l → (e ≡ true) ⊎ (l ≡ true) → (r : Rule) × (cond e (Some Rule.Emulation) (cond l (Some Rule.Long) None) ≡ Some r)
    go true l is il h = (Rule.Emulation, refl)
    go false true is il h = (Rule.Long, refl)
    go false false is il (inl e) = absurd (true≢false (sym e))
    go false false is il (inr e) = absurd (true≢false (sym e))

-- a unit that isn't refused early breaks neither rule
pub early-none : (x : List ℕ) → early_rule x ≡ None → (emulation x ≡ false) × (long_unit x ≡ false)
early-none x h = go (emulation x) (long_unit x) h
  where
    go : (e l : Bool) → cond e (Some Rule.Emulation) (cond l (Some Rule.Long) None) ≡ None → (e ≡ false) × (l ≡ false)
    go true l h = absurd (cc)
    go false true h = absurd (cc)
    go false false h = (refl, refl)

pub none-of : (f : Rule → Refusal) (o : Option Rule) → option_map f o ≡ None → o ≡ None
none-of f None h = refl
none-of f (Some r) h = absurd (cc)

-- what isn't shown
pub nothing_at : (x y z : Option Refusal) → option_or x (option_or y z) ≡ None → (x ≡ None) × (y ≡ None) × (z ≡ None)
nothing_at (Some x) y z h = absurd (cc)
nothing_at None (Some y) z h = absurd (cc)
nothing_at None None z h = (refl, refl, h)

pub no_front : (o : Option ℕ) → option_map refused_leading o ≡ None → o ≡ None
no_front None h = refl
no_front (Some at) h = absurd (cc)

-- where no code came, the byte 02 is a leading one
leads : (p : List ℕ) (i : ℕ) → (at : ℕ) × (position_from (λ b. not (is_zero b)) i (p ++ forbidden) ≡ Some at)
leads [] i = (i + 1 + 1, refl)
leads (a ∷ p) i = go (is_zero a) (leads p (i + 1))
  where
    go : (t : Bool) → (at : ℕ) × (position_from (λ b. not (is_zero b)) (i + 1) (p ++ forbidden) ≡ Some at) →
        (at : ℕ) × (cond (not t) (Some i) (position_from (λ b. not (is_zero b)) (i + 1) (p ++ forbidden)) ≡ Some at)
    go true later = later
    go false later = (i, refl)

-- a refusal of the unit behind those that were taken whole, which is shown early
pub record Soon (t x : List ℕ) : Type 0 where
  pub refusal : Refusal
  pub shown : refusal_shown false (t ++ x) ≡ Some refusal
  pub unit : refusal.unit ≡ length (whole_units false t)
  pub early : IsOneOf early_rules refusal.rule

-- bytes that show nothing show a refusal with 00 00 02 behind them
pub soon-refused : (t : List ℕ) → refusal_shown false t ≡ None → Soon t forbidden
unfolding placed refusal_behind
soon-refused t h = go (opens t)
  where
    none : (p : List ℕ) → Open t [] p → (at : ℕ) × (position_from (λ b. not (is_zero b)) 0 (p ++ forbidden) ≡ Some at) → Soon t forbidden
    none p is (at, found) = record {
      refusal = refused_leading at;
      shown = shown-is (t ++ forbidden) [] (p ++ forbidden) (open-forbidden t [] p is) ∙ ap (λ o. option_or (option_map refused_leading o) None) found;
      unit = sym (ap length (whole-is t [] p is));
      early = inl refl;
    }

    some : (c : List ℕ) (cs : List (List ℕ)) (p : List ℕ) → Open t (c ∷ cs) p → (r : Rule) × (early_rule (p ++ forbidden) ≡ Some r) →
        (front_shown (c ∷ []) ≡ None) × (first_refusal (before (c ∷ cs)) ≡ None) × (late (c ∷ cs) p ≡ None) → Soon t forbidden
    some c cs p is (r, early) quiet =
        let n = length (before (c ∷ cs)) in
        record {
          refusal = refused n (record { place = span (c ∷ cs) 0; bytes = p ++ forbidden }) r;
          shown =
              shown-is (t ++ forbidden) (c ∷ cs) (p ++ forbidden) (open-forbidden t (c ∷ cs) p is)
              ∙ ap (λ o. option_or o (option_or (first_refusal (before (c ∷ cs))) (late (c ∷ cs) (p ++ forbidden)))) quiet.0
              ∙ ap (λ o. option_or o (late (c ∷ cs) (p ++ forbidden))) quiet.1
              ∙ ap (λ b. early_refusal n (record { place = span (c ∷ cs) 0; bytes = b })) (trimmed-forbidden p)
              ∙ ap (option_map (refused n (record { place = span (c ∷ cs) 0; bytes = p ++ forbidden }))) early;
          unit = sym (ap length (whole-is t (c ∷ cs) p is));
          early = early-is (p ++ forbidden) r early;
        }

    more : (cs : List (List ℕ)) (p : List ℕ) → Open t cs p → Soon t forbidden
    more [] p is = none p is (leads p 0)
    more (c ∷ cs) p is =
        some c cs p is (early-some (p ++ forbidden) (breaks-early p))
        (nothing_at (front_shown (c ∷ [])) (first_refusal (before (c ∷ cs))) (late (c ∷ cs) p) (sym (shown-is t (c ∷ cs) p is) ∙ h))

    go : (cs : List (List ℕ)) × (p : List ℕ) × Open t cs p → Soon t forbidden
    go (cs, p, is) = more cs p is

-- what is shown once the end was read
abbrev closed : List (List ℕ) → List ℕ → Option Refusal
closed [] p = None
closed (c ∷ cs) p = unit_refusal (length (before (c ∷ cs))) (behind (c ∷ cs) p)

or_none : (x : Option Refusal) → option_or x None ≡ x
or_none None = refl
or_none (Some r) = refl

ended-is : (s : List ℕ) (cs : List (List ℕ)) (p : List ℕ) → Open s cs p → refusal_shown true s ≡ option_or (front_shown (cs ++ p ∷ [])) (option_or (first_refusal (before cs)) (closed cs p))
unfolding placed refusal_behind
ended-is s [] p is = ap (λ ps. option_or (front_shown ps) (option_or (first_refusal (drop 1 (placed 0 ps))) None)) is
ended-is s (c ∷ cs) p is =
    ap (λ ps. option_or (front_shown ps) (option_or (first_refusal (units s)) None)) is
    ∙ ap (λ us. option_or (front_shown (c ∷ (cs ++ p ∷ []))) (option_or (first_refusal us) None)) (units-end s c cs p is)
    ∙ ap (option_or (front_shown (c ∷ (cs ++ p ∷ []))))
    (or_none (first_refusal (before (c ∷ cs) ++ behind (c ∷ cs) p ∷ [])) ∙ refusal-push (before (c ∷ cs)) (behind (c ∷ cs) p))

-- a refusal that is shown is that of the bytes where they end there
or_last : (x y z w : Option Refusal) (r : Refusal) → (z ≡ Some r → w ≡ Some r) → option_or x (option_or y z) ≡ Some r → option_or x (option_or y w) ≡ Some r
or_last (Some x) y z w r f h = h
or_last None (Some y) z w r f h = h
or_last None None z w r f h = f h

late-closed : (cs : List (List ℕ)) (p : List ℕ) (r : Refusal) → late cs p ≡ Some r → closed cs p ≡ Some r
late-closed [] p r h = h
late-closed (c ∷ cs) p r h = early_refusal-refused (length (before (c ∷ cs))) (behind (c ∷ cs) p) r h

pub shown-ended : (t : List ℕ) (r : Refusal) → refusal_shown false t ≡ Some r → refusal_shown true t ≡ Some r
shown-ended t r h = go (opens t)
  where
    go : (cs : List (List ℕ)) × (p : List ℕ) × Open t cs p → refusal_shown true t ≡ Some r
    go (cs, p, is) =
        ended-is t cs p is
        ∙ or_last (front_shown (cs ++ p ∷ [])) (first_refusal (before cs)) (late cs p) (closed cs p) r (late-closed cs p r) (sym (shown-is t cs p is) ∙ h)

-- what the end alone shows is the rule on short units
isnt_early : (r : Rule) → r ≡ Rule.Short → ¬ IsOneOf early_rules r
isnt_early r is (inl e) = cc
isnt_early r is (inr (inl e)) = cc
isnt_early r is (inr (inr (inl e))) = cc
isnt_early r is (inr (inr (inr e))) = e

unit-short : (n : ℕ) (u : NalUnit) (r : Refusal) → early_refusal n u ≡ None → unit_refusal n u ≡ Some r → r.rule ≡ Rule.Short
unit-short n u r none h = go (short_unit u.bytes) (ap (λ o. option_map (refused n u) (cond (short_unit u.bytes) (Some Rule.Short) o)) (sym (none-of (refused n u) (early_rule u.bytes) none)) ∙ h)
  where
    go : (s : Bool) → option_map (refused n u) (cond s (Some Rule.Short) None) ≡ Some r → r.rule ≡ Rule.Short
    go true e = let same : refused n u Rule.Short ≡ r = cc in ap (λ (r : Refusal). r.rule) (sym same)
    go false e = absurd (cc)

pub end-rule : (t : List ℕ) (r : Refusal) → refusal_shown false t ≡ None → refusal_shown true t ≡ Some r → ¬ IsOneOf early_rules r.rule
end-rule t r quiet h = go (opens t)
  where
    at : (cs : List (List ℕ)) (p : List ℕ) → late cs p ≡ None → closed cs p ≡ Some r → ¬ IsOneOf early_rules r.rule
    at [] p none e = absurd (cc)
    at (c ∷ cs) p none e = isnt_early r.rule (unit-short (length (before (c ∷ cs))) (behind (c ∷ cs) p) r none e)

    rest : (x y z : Option Refusal) → x ≡ None → y ≡ None → option_or x (option_or y z) ≡ Some r → z ≡ Some r
    rest None None z a b e = e
    rest (Some x) y z a b e = absurd (cc)
    rest None (Some y) z a b e = absurd (cc)

    go : (cs : List (List ℕ)) × (p : List ℕ) × Open t cs p → ¬ IsOneOf early_rules r.rule
    go (cs, p, is) =
        let none = nothing_at (front_shown (cs ++ p ∷ [])) (first_refusal (before cs)) (late cs p) (sym (shown-is t cs p is) ∙ quiet) in
        at cs p none.2 (rest (front_shown (cs ++ p ∷ [])) (first_refusal (before cs)) (closed cs p) none.0 none.1 (sym (ended-is t cs p is) ∙ h))

-- the unit that is refused stands behind no more than were taken whole
pub shown-within : (ended : Bool) (t : List ℕ) (r : Refusal) → refusal_shown ended t ≡ Some r → r.unit ≤ length (whole_units ended t)
shown-within ended t r h = go (leading t) (first_refusal (whole_units ended t)) refl h
  where
    last_number : (o : Option NalUnit) → last (units t) ≡ o → option_and_then (early_refusal (length (units t) - 1)) o ≡ Some r → r.unit ≡ length (units t) - 1
    last_number None is e = absurd (cc)
    last_number (Some u) is e = refusal-number (length (units t) - 1) u (early_rule u.bytes) r e

    of_last : (ended : Bool) → (if ended then None else last_refusal t) ≡ Some r → r.unit ≤ length (whole_units ended t)
    of_last true e = absurd (cc)
    of_last false e =
        let n = last_number (last (units t)) refl e in
        omega (arith, length-take-le (length (units t) - 1) (units t) (omega arith))

    go : (f : Option ℕ) (v : Option Refusal) → first_refusal (whole_units ended t) ≡ v → option_or (option_map refused_leading f) (option_or v (if ended then None else last_refusal t)) ≡ Some r → r.unit ≤ length (whole_units ended t)
    go (Some at) v is e = let same : refused_leading at ≡ r = cc in let zero : 0 ≡ r.unit = ap (λ (r : Refusal). r.unit) same in omega arith
    go None (Some x) is e = let more = refusal-within (whole_units ended t) r (is ∙ e) in omega arith
    go None None is e = of_last ended e
