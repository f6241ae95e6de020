-- Access units stay whole.
use Rattle.std.proofs.Common.{◌≡◌, ℕ, Bool, true, false, cond, List, [], ◌∷◌, ◌++◌, length, map, refl, ap, subst, sym, ◌∙◌}
use Rattle.std.specs.Prelude.{ℤ, nat_eq, nat_lt}
use Rattle.std.specs.List.{list_any}
use Rattle.std.proofs.lemmas.Bool.{or_from, or_parts}
use Rattle.mv_history.specs.Order.{put, staying}
use Rattle.mv_dpb.specs.declared.waits.Waits.{Waits}
use Rattle.mv_dpb.specs.Stored.{Stored}
use Rattle.mv_dpb.specs.Waits.{comes_first, is_of}
use Rattle.mv_dpb.specs.Leaving.{AreOf, AreWhole, NoneOf, WaitingUnit, pictures_of, unit_first, with_other}
use Rattle.mv_dpb.proofs.WaitsLaws.{same}

module _ {P : Type 0} where
  abbrev any_of : ℕ → List (Stored Waits P) → Bool
  any_of au pictures = list_any (is_of au) (map (λ s. s.told) pictures)

  none-append : (au : ℕ) (xs ys : List (Stored Waits P)) → NoneOf au xs → NoneOf au ys → NoneOf au (xs ++ ys)
  none-append au [] ys none more = more
  none-append au (x ∷ xs) ys none more =
      let parts = or_parts (is_of au x.told) (any_of au xs) none in
      or_from (is_of au x.told) (any_of au (xs ++ ys)) parts.0 (none-append au xs ys parts.1 more)

  none-parts : (au : ℕ) (xs ys : List (Stored Waits P)) → NoneOf au (xs ++ ys) → NoneOf au xs × NoneOf au ys
  none-parts au [] ys none = (refl, none)
  none-parts au (x ∷ xs) ys none =
      let parts = or_parts (is_of au x.told) (any_of au (xs ++ ys)) none in
      let rest = none-parts au xs ys parts.1 in
      (or_from (is_of au x.told) (any_of au xs) parts.0 rest.0, rest.1)

  -- pictures of an access unit are of no other
  none-other : (n au : ℕ) (count : ℤ) (pictures : List (Stored Waits P)) → nat_eq au n ≡ false → AreOf au count pictures → NoneOf n pictures
  none-other n au count [] other are = refl
  none-other n au count (s ∷ pictures) other are =
      or_from (is_of n s.told) (any_of n pictures) (ap (λ m. nat_eq m n) are.0 ∙ other) (none-other n au count pictures other are.3)

  pub none-put : (n : ℕ) (unit : WaitingUnit P) (units : List (WaitingUnit P)) → NoneOf n (unit.first ∷ unit.others) → NoneOf n (pictures_of units) → NoneOf n (pictures_of (put unit_first unit units))
  unfolding put
  none-put n unit [] none more = none-append n (unit.first ∷ unit.others) [] none refl
  none-put n unit (v ∷ units) none more =
      let parts = none-parts n (v.first ∷ v.others) (pictures_of units) more in
      go (unit_first unit v) parts.0 (none-put n unit units none parts.1)
    where
      go : (b : Bool) → NoneOf n (v.first ∷ v.others) → NoneOf n (pictures_of (put unit_first unit units)) → NoneOf n (pictures_of (cond b (unit ∷ v ∷ units) (v ∷ put unit_first unit units)))
      go true here rest = none-append n (unit.first ∷ unit.others) (pictures_of (v ∷ units)) none more
      go false here rest = none-append n (v.first ∷ v.others) (pictures_of (put unit_first unit units)) here rest

  pub none-staying : (n reorder : ℕ) (units : List (WaitingUnit P)) → NoneOf n (pictures_of units) → NoneOf n (pictures_of (staying reorder units))
  unfolding staying
  none-staying n reorder [] none = none
  none-staying n reorder (v ∷ units) none =
      go (nat_lt reorder (length (v ∷ units))) (none-staying n reorder units (none-parts n (v.first ∷ v.others) (pictures_of units) none).1)
    where
      go : (b : Bool) → NoneOf n (pictures_of (staying reorder units)) → NoneOf n (pictures_of (cond b (staying reorder units) (v ∷ units)))
      go true rest = rest
      go false rest = none

  pub put-whole : (au : ℕ) (count : ℤ) (unit : WaitingUnit P) (units : List (WaitingUnit P)) → AreOf au count (unit.first ∷ unit.others) → NoneOf au (pictures_of units) → AreWhole units → AreWhole (put unit_first unit units)
  unfolding put
  put-whole au count unit [] are none whole = (own, refl, tt)
    where
      own : AreOf unit.first.told.au unit.first.told.shown.count (unit.first ∷ unit.others)
      own =
          subst (λ n. AreOf n unit.first.told.shown.count (unit.first ∷ unit.others)) (sym are.0)
          (subst (λ z. AreOf au z (unit.first ∷ unit.others)) (sym are.2) are)
  put-whole au count unit (v ∷ units) are none whole =
      let parts = none-parts au (v.first ∷ v.others) (pictures_of units) none in
      let other : nat_eq au v.first.told.au ≡ false = same au v.first.told.au ∙ (or_parts (is_of au v.first.told) (any_of au v.others) parts.0).0 in
      go (unit_first unit v)
      (none-put v.first.told.au unit units (none-other v.first.told.au au count (unit.first ∷ unit.others) other are) whole.1)
      (put-whole au count unit units are parts.1 whole.2)
    where
      own : AreOf unit.first.told.au unit.first.told.shown.count (unit.first ∷ unit.others)
      own =
          subst (λ n. AreOf n unit.first.told.shown.count (unit.first ∷ unit.others)) (sym are.0)
          (subst (λ z. AreOf au z (unit.first ∷ unit.others)) (sym are.2) are)

      go : (b : Bool) → NoneOf v.first.told.au (pictures_of (put unit_first unit units)) → AreWhole (put unit_first unit units) → AreWhole (cond b (unit ∷ v ∷ units) (v ∷ put unit_first unit units))
      go true apart rest = (own, subst (λ n. NoneOf n (pictures_of (v ∷ units))) (sym are.0) none, whole)
      go false apart rest = (whole.0, apart, rest)

  pub staying-whole : (reorder : ℕ) (units : List (WaitingUnit P)) → AreWhole units → AreWhole (staying reorder units)
  unfolding staying
  staying-whole reorder [] whole = whole
  staying-whole reorder (v ∷ units) whole = go (nat_lt reorder (length (v ∷ units))) (staying-whole reorder units whole.2)
    where
      go : (b : Bool) → AreWhole (staying reorder units) → AreWhole (cond b (staying reorder units) (v ∷ units))
      go true rest = rest
      go false rest = whole

  are-put : (au : ℕ) (count : ℤ) (s : Stored Waits P) (pictures : List (Stored Waits P)) → AreOf au count (s ∷ []) → AreOf au count pictures → AreOf au count (put (λ a b. comes_first a.told b.told) s pictures)
  unfolding put
  are-put au count s [] one are = one
  are-put au count s (x ∷ pictures) one are = go (comes_first s.told x.told) (are-put au count s pictures one are.3)
    where
      go : (b : Bool) → AreOf au count (put (λ a b. comes_first a.told b.told) s pictures) → AreOf au count (cond b (s ∷ x ∷ pictures) (x ∷ put (λ a b. comes_first a.told b.told) s pictures))
      go true rest = (one.0, one.1, one.2, are)
      go false rest = (are.0, are.1, are.2, rest)

  abbrev joined : Stored Waits P → WaitingUnit P → Bool → WaitingUnit P
  joined s unit b = cond b (record { first = s; others = unit.first ∷ unit.others }) (record { first = unit.first; others = put (λ a b. comes_first a.told b.told) s unit.others })

  pub other-whole : (au : ℕ) (count : ℤ) (s : Stored Waits P) (unit : WaitingUnit P) → AreOf au count (s ∷ []) → AreOf au count (unit.first ∷ unit.others) → AreOf au count ((with_other s unit).first ∷ (with_other s unit).others)
  other-whole au count s unit one are = go (comes_first s.told unit.first.told) (are-put au count s unit.others one are.3)
    where
      go : (b : Bool) → AreOf au count (put (λ a b. comes_first a.told b.told) s unit.others) → AreOf au count ((joined s unit b).first ∷ (joined s unit b).others)
      go true rest = (one.0, one.1, one.2, are)
      go false rest = (are.0, are.1, are.2, rest)
