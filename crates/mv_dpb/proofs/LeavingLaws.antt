-- An access unit leaves whole, once more of them wait than may.
use Rattle.std.proofs.Common.{◌≡◌, ℕ, zero, suc, ◌+◌, ◌-◌, ◌≤◌, Bool, true, false, cond, ◌||◌, List, [], ◌∷◌, ◌++◌, length, map, drop, refl, ap, sym, ◌∙◌, arith}
use Rattle.std.specs.Prelude.{ℤ, nat_lt}
use Rattle.std.specs.List.{list_any}
use Rattle.std.proofs.lemmas.Bool.{eq-eqb, or_from, or_left, or_parts, or_right}
use Rattle.std.proofs.lemmas.List.{length-append, map-append}
use Rattle.mv_history.specs.Order.{leaving, staying}
use Rattle.mv_dpb.specs.declared.waits.Waits.{Waits}
use Rattle.mv_dpb.specs.Stored.{Stored}
use Rattle.mv_dpb.specs.Waits.{access_units, begun_with, is_begun, is_of}
use Rattle.mv_dpb.specs.Waiting.{WaitingValue, behind_first, given, may_leave}
use Rattle.mv_dpb.specs.Leaving.{AreOf, AreWhole, NoneOf, WaitingUnit, bumps, pictures_of}
use Rattle.mv_dpb.proofs.WaitingLaws.{none-leaves}

pub or_false : (b : Bool) → (b || false) ≡ b
or_false true = refl
or_false false = refl

or_same : (a b : Bool) → (a || (a || b)) ≡ (a || b)
or_same true b = refl
or_same false b = refl

module _ {P : Type 0} where
  abbrev waits_of : List (Stored Waits P) → List Waits
  waits_of pictures = map (λ s. s.told) pictures

  abbrev begun_in : ℕ → Stored Waits P → Stored Waits P
  begun_in au s = record { told = begun_with au s.told; picture = s.picture }

  -- what is given of pictures doesn't depend on what has left
  pub given-rest : (pictures : List (Stored Waits P)) → map given (behind_first pictures) ≡ map given (drop 1 pictures)
  given-rest [] = refl
  given-rest (s ∷ pictures) = alike pictures
    where
      alike : (pictures : List (Stored Waits P)) → map given (map (begun_in s.told.au) pictures) ≡ map given pictures
      alike [] = refl
      alike (t ∷ pictures) = ap (λ xs. given t ∷ xs) (alike pictures)

  -- an access unit is counted once
  units-of : (au : ℕ) (count : ℤ) (s : Stored Waits P) (others rest : List (Stored Waits P)) → AreOf au count (s ∷ others) → NoneOf au rest →
      access_units (waits_of (s ∷ (others ++ rest))) ≡ suc (access_units (waits_of rest))
  units-of au count s [] rest are none =
      ap (λ b. cond b (access_units (waits_of rest)) (suc (access_units (waits_of rest)))) (ap (λ n. list_any (is_of n) (waits_of rest)) are.0 ∙ none)
  units-of au count s (t ∷ others) rest are none =
      ap (λ b. cond (b || list_any (is_of s.told.au) (waits_of (others ++ rest))) (access_units (waits_of (t ∷ (others ++ rest)))) (suc (access_units (waits_of (t ∷ (others ++ rest))))))
      (eq-eqb t.told.au s.told.au (are.3.0 ∙ sym are.0))
      ∙ units-of au count t others rest are.3 none

  count-units : (units : List (WaitingUnit P)) → AreWhole units → access_units (waits_of (pictures_of units)) ≡ length units
  count-units [] whole = refl
  count-units (u ∷ units) whole = units-of u.first.told.au u.first.told.shown.count u.first u.others (pictures_of units) whole.0 whole.1 ∙ ap suc (count-units units whole.2)

  unit-not-begun : (au : ℕ) (count : ℤ) (pictures rest : List (Stored Waits P)) → AreOf au count pictures → list_any is_begun (waits_of rest) ≡ false → list_any is_begun (waits_of (pictures ++ rest)) ≡ false
  unit-not-begun au count [] rest are none = none
  unit-not-begun au count (s ∷ pictures) rest are none = or_from s.told.begun (list_any is_begun (waits_of (pictures ++ rest))) are.1 (unit-not-begun au count pictures rest are.3 none)

  pub none-begun : (units : List (WaitingUnit P)) → AreWhole units → list_any is_begun (waits_of (pictures_of units)) ≡ false
  none-begun [] whole = refl
  none-begun (u ∷ units) whole = unit-not-begun u.first.told.au u.first.told.shown.count (u.first ∷ u.others) (pictures_of units) whole.0 (none-begun units whole.2)

  module _ (reorder room : ℕ) where
    abbrev waiting : List (Stored Waits P) → WaitingValue P
    waiting pictures = record { reorder = reorder; room = room; pictures = pictures }

    leaves-whole : (units : List (WaitingUnit P)) → AreWhole units → may_leave (waiting (pictures_of units)) ≡ nat_lt reorder (length units)
    leaves-whole units whole =
        ap (λ b. nat_lt reorder (access_units (waits_of (pictures_of units))) || b) (none-begun units whole)
        ∙ or_false (nat_lt reorder (access_units (waits_of (pictures_of units))))
        ∙ ap (nat_lt reorder) (count-units units whole)

    -- pictures of other access units stay as they are, and those that were begun too
    begun-others : (au : ℕ) (pictures : List (Stored Waits P)) → NoneOf au pictures → map (begun_in au) pictures ≡ pictures
    begun-others au [] none = refl
    begun-others au (s ∷ pictures) none =
        let parts = or_parts (is_of au s.told) (list_any (is_of au) (waits_of pictures)) none in
        ap (λ b. record { told = record { shown = s.told.shown; au = s.told.au; begun = b || s.told.begun }; picture = s.picture } ∷ map (begun_in au) pictures) parts.0
        ∙ ap (λ xs. s ∷ xs) (begun-others au pictures parts.1)

    begun-again : (au : ℕ) (pictures : List (Stored Waits P)) → map (begun_in au) (map (begun_in au) pictures) ≡ map (begun_in au) pictures
    begun-again au [] = refl
    begun-again au (s ∷ pictures) =
        ap (λ b. record { told = record { shown = s.told.shown; au = s.told.au; begun = b }; picture = s.picture } ∷ map (begun_in au) (map (begun_in au) pictures)) (or_same (is_of au s.told) s.told.begun)
        ∙ ap (λ xs. begun_in au s ∷ xs) (begun-again au pictures)

    begun-rest : (au : ℕ) (others rest : List (Stored Waits P)) → NoneOf au rest → map (begun_in au) (map (begun_in au) others ++ rest) ≡ map (begun_in au) others ++ rest
    begun-rest au others rest none =
        map-append (begun_in au) (map (begun_in au) others) rest
        ∙ ap (λ xs. xs ++ map (begun_in au) rest) (begun-again au others)
        ∙ ap (λ xs. map (begun_in au) others ++ xs) (begun-others au rest none)

    -- one bump, where a picture leaves
    bump-first : (n : ℕ) (s : Stored Waits P) (pictures : List (Stored Waits P)) → may_leave (waiting (s ∷ pictures)) ≡ true →
        bumps (suc n) (waiting (s ∷ pictures)) ≡ (given s ∷ (bumps n (waiting (map (begun_in s.told.au) pictures))).0, (bumps n (waiting (map (begun_in s.told.au) pictures))).1)
    bump-first n s pictures leaves =
        ap (λ b. cond b (given s ∷ (bumps n (waiting (map (begun_in s.told.au) pictures))).0, (bumps n (waiting (map (begun_in s.told.au) pictures))).1) ([], waiting (s ∷ pictures))) leaves

    bump-none : (n : ℕ) (pictures : List (Stored Waits P)) → may_leave (waiting pictures) ≡ false → bumps n (waiting pictures) ≡ ([], waiting pictures)
    bump-none zero pictures stays = refl
    bump-none (suc n) [] stays = ap (λ b. cond b ((bumps n (waiting [])).0, (bumps n (waiting [])).1) ([], waiting [])) stays
    bump-none (suc n) (s ∷ pictures) stays =
        ap (λ b. cond b (given s ∷ (bumps n (waiting (map (begun_in s.told.au) pictures))).0, (bumps n (waiting (map (begun_in s.told.au) pictures))).1) ([], waiting (s ∷ pictures))) stays

    -- the pictures of an access unit that has begun leave one after another
    unit-leaves : (au : ℕ) (count : ℤ) (others rest : List (Stored Waits P)) → AreOf au count others → NoneOf au rest → (n m : ℕ) → n ≡ length others + m →
        bumps n (waiting (map (begun_in au) others ++ rest)) ≡ (map given others ++ (bumps m (waiting rest)).0, (bumps m (waiting rest)).1)
    unit-leaves au count [] rest are none n m e = let same : n ≡ m = omega (arith, e) in ap (λ k. bumps k (waiting rest)) same
    unit-leaves au count (s ∷ others) rest are none zero m e = absurd (omega (arith, e))
    unit-leaves au count (s ∷ others) rest are none (suc n) m e =
        let begun : is_begun (begun_with au s.told) ≡ true = or_left (is_of au s.told) s.told.begun (eq-eqb s.told.au au are.0) in
        let leaves : may_leave (waiting (begun_in au s ∷ (map (begun_in au) others ++ rest))) ≡ true =
        or_right (nat_lt reorder (access_units (waits_of (begun_in au s ∷ (map (begun_in au) others ++ rest)))))
        (list_any is_begun (waits_of (begun_in au s ∷ (map (begun_in au) others ++ rest))))
        (or_left (is_begun (begun_with au s.told)) (list_any is_begun (waits_of (map (begun_in au) others ++ rest))) begun) in
        bump-first n (begun_in au s) (map (begun_in au) others ++ rest) leaves
        ∙ ap (λ xs. (given s ∷ (bumps n (waiting xs)).0, (bumps n (waiting xs)).1)) (ap (λ k. map (begun_in k) (map (begun_in au) others ++ rest)) are.0 ∙ begun-rest au others rest none)
        ∙ ap (λ p. (given s ∷ p.0, p.1)) (unit-leaves au count others rest are.3 none n m (omega (arith, e)))

    pub leave_whole : (units : List (WaitingUnit P)) → AreWhole units → (n : ℕ) → length (pictures_of units) ≤ n →
        bumps n (waiting (pictures_of units)) ≡ (map given (pictures_of (leaving reorder units)), waiting (pictures_of (staying reorder units)))
    unfolding leaving staying
    leave_whole [] whole n h = bump-none n [] (none-leaves (waiting []) refl)
    leave_whole (u ∷ units) whole zero h = absurd (omega (arith, h))
    leave_whole (u ∷ units) whole (suc n) h =
        go (nat_lt reorder (length (u ∷ units))) (leaves-whole (u ∷ units) whole) (leave_whole units whole.2 (n - length u.others) (omega (arith, h, length-append u.others (pictures_of units))))
      where
        go : (b : Bool) → may_leave (waiting (pictures_of (u ∷ units))) ≡ b →
            bumps (n - length u.others) (waiting (pictures_of units)) ≡ (map given (pictures_of (leaving reorder units)), waiting (pictures_of (staying reorder units))) →
            bumps (suc n) (waiting (pictures_of (u ∷ units))) ≡ (map given (pictures_of (cond b (u ∷ leaving reorder units) [])), waiting (pictures_of (cond b (staying reorder units) (u ∷ units))))
        go false e rest = bump-none (suc n) (pictures_of (u ∷ units)) e
        go true e rest =
            bump-first n u.first (u.others ++ pictures_of units) e
            ∙ ap (λ xs. (given u.first ∷ (bumps n (waiting xs)).0, (bumps n (waiting xs)).1))
            (map-append (begun_in u.first.told.au) u.others (pictures_of units) ∙ ap (λ xs. map (begun_in u.first.told.au) u.others ++ xs) (begun-others u.first.told.au (pictures_of units) whole.1))
            ∙ ap (λ p. (given u.first ∷ p.0, p.1))
            (unit-leaves u.first.told.au u.first.told.shown.count u.others (pictures_of units) whole.0.3 whole.1 n (n - length u.others) (omega (arith, h, length-append u.others (pictures_of units))))
            ∙ ap (λ p. (given u.first ∷ (map given u.others ++ p.0), p.1)) rest
            ∙ ap (λ xs. (given u.first ∷ xs, waiting (pictures_of (staying reorder units)))) (sym (map-append given u.others (pictures_of (leaving reorder units))))
