-- The last of a list that fits.
use Rattle.std.proofs.Common.{◌≡◌, ℕ, ◌+◌, ◌-◌, ◌<◌, ◌≤◌, Bool, true, false, cond, List, [], ◌∷◌, length, take, get_or, reverse, ◌||◌, ℤ, None, Some, refl, sym, ap, ◌∙◌, arith}
use Rattle.std.specs.Prelude.{option_map}
use Rattle.std.specs.List.{enumerate_from, find}
use Rattle.std.proofs.lemmas.List.{length-take-le, reverse-append, take_more}
use Rattle.mv_vpssets.proofs.SetSteps.{numbered_more}
use Rattle.mv_dpb.specs.declared.held.Held.{Held}
use Rattle.mv_history.proofs.Kept.{find_agree}
use Rattle.mv_pictures.specs.Held.{fits_long, fits_short}
use Rattle.mv_rps.specs.declared.entries.CodedAim.TheVariants.{Delta, Lsb, Cycle}
use Rattle.mv_rps.specs.declared.resolving.Origin.{Origin}
use Rattle.mv_rps.specs.Resolving.{fits, fits_as_long, latest}
use Rattle.mv_rps.specs.Matched.{entry_to, long_place_of, place_of, set_of}

pub latest_more : (held : List Held) (i : ℕ) (d : Held) → i < length held → latest (take (i + 1) held) ≡ (i, get_or held i d) ∷ latest (take i held)
latest_more held i d less =
    ap latest (take_more held i d less)
    ∙ ap reverse (numbered_more 0 (take i held) (get_or held i d) i (omega (arith, length-take-le i held (omega arith))))
    ∙ reverse-append (enumerate_from 0 (take i held)) ((i, get_or held i d) ∷ [])

pub latest_before : (held : List Held) (n : ℕ) (d : Held) → 0 < n → n ≤ length held → latest (take n held) ≡ (n - 1, get_or held (n - 1) d) ∷ latest (take (n - 1) held)
latest_before held n d some within =
    let back : n - 1 + 1 ≡ n = omega arith in
    ap (λ k. latest (take k held)) (sym back) ∙ latest_more held (n - 1) d (omega arith)

-- one that doesn't fit is left out
pub find_next : {A : Type 0} (test : A → Bool) (x : A) (xs ys : List A) → ys ≡ x ∷ xs → test x ≡ false → find test ys ≡ find test xs
find_next test x xs ys e other = ap (find test) e ∙ ap (λ b. cond b (Some x) (find test xs)) other

-- one that fits is found
pub find_here : {A : Type 0} (test : A → Bool) (x : A) (xs ys : List A) → ys ≡ x ∷ xs → test x ≡ true → find test ys ≡ Some x
find_here test x xs ys e fit = ap (find test) e ∙ ap (λ b. cond b (Some x) (find test xs)) fit

-- none fits where none passes
pub find_none : {A : Type 0} (xs : List A) → find (λ _. false) xs ≡ None
find_none [] = refl
find_none (x ∷ xs) = find_none xs

or_none : (b : Bool) → (b || false) ≡ b
or_none true = refl
or_none false = refl

-- a short-term entry is no long-term one
pub none_long : (o : Origin) (held : List Held) (delta : ℤ) → None ≡ long_place_of o held (Delta delta)
unfolding fits_long
none_long o held delta = ap (option_map (λ (p : ℕ × Held). p.0)) (sym (find_none (latest held)))

-- what a long-term entry matches, by any marks
pub long_by_lsb : (o : Origin) (longs : List ℕ) (held : List Held) (bits : ℕ) → place_of o longs held (Lsb bits) ≡ long_place_of o held (Lsb bits)
unfolding fits_short
long_by_lsb o longs held bits =
    ap (option_map (λ (p : ℕ × Held). p.0)) (find_agree (fits (set_of o) longs (entry_to (Lsb bits))) (λ (p : ℕ × Held). fits_as_long (set_of o) (entry_to (Lsb bits)) p.1) (latest held) (λ _ _ _. or_none _))

pub long_by_cycle : (o : Origin) (longs : List ℕ) (held : List Held) (bits cycle : ℕ) → place_of o longs held (Cycle bits cycle) ≡ long_place_of o held (Cycle bits cycle)
unfolding fits_short
long_by_cycle o longs held bits cycle =
    ap (option_map (λ (p : ℕ × Held). p.0)) (find_agree (fits (set_of o) longs (entry_to (Cycle bits cycle))) (λ (p : ℕ × Held). fits_as_long (set_of o) (entry_to (Cycle bits cycle)) p.1) (latest held) (λ _ _ _. or_none _))
